use Rattle.std.proofs.Common.{List, ap, subst, ◌∙◌, rules}
use Rattle.std.proofs.lemmas.Result.{err_from_is_err_and}
use Rattle.tre_parse.specs.declared.token.Token.{Token}
use Rattle.tre_parse.specs.Front.{tokens_in}
use Rattle.tre_parse.specs.Answers.{text_tokens_in}
use Rattle.tre_parse.specs.Reader.{got}
use Rattle.tre_parse.specs.Reading.{Stops}
use Rattle.tre_parse.proofs.Judging.{stop_outcome}
use Rattle.tre_parse.proofs.Whole.{read_whole}
use Rattle.tre_parse.specs.Unkept.{FindsUpTo}
use Rattle.tre_parse.proofs.parser.read_words.Goals as goal

pub returns-in_err-within_limits-clause-fault : goal.returns-in_err-within_limits-clause-fault
returns-in_err-within_limits-clause-fault c =
    let p = err_from_is_err_and c.from_residual.result c.from_residual.ensures.1 in
    rw (p.1, p.2) c.in_err-within_limits.ensures.fault

pub judge-requires-clause-whole : goal.judge-requires-clause-whole
judge-requires-clause-whole c = search (rules, read_whole, got, tokens_in, c.in-Ok.whole)

pub judge-requires-clause-unkept : goal.judge-requires-clause-unkept
judge-requires-clause-unkept c =
    let P = λ (ts : List Token). FindsUpTo ts c.expression.new.tokens c.in-Ok.whole.unkept in
    subst P (c.new-rest.ensures ∙ ap tokens_in c.deref.ensures.value) c.in-Ok.ensures.unkept

pub returns-in-Ok-judge-clause-whole : goal.returns-in-Ok-judge-clause-whole
returns-in-Ok-judge-clause-whole c =
    search (rules, read_whole, got, text_tokens_in, tokens_in, c.in-Ok.whole)

pub returns-in-Ok-judge-clause-unkept : goal.returns-in-Ok-judge-clause-unkept
returns-in-Ok-judge-clause-unkept c =
    search (rules, text_tokens_in, tokens_in, c.expression.new.tokens, c.in-Ok.whole.unkept)

pub returns-in-Err-clause-fault : goal.returns-in-Err-clause-fault
returns-in-Err-clause-fault c = λ scale text read r.
    let P = λ (ts : List Token). Stops (read_whole ts) c.in-Err.stop c.expression.new.tokens in
    stop_outcome scale text read (text_tokens_in c.args.scan.now) r c.in-Err.stop c.fault_of.result
    c.expression.new.tokens (c.in_ok-within_limits.ensures.ok scale text read r)
    (subst P (c.new-rest.ensures ∙ ap tokens_in c.deref.ensures.value) c.in-Err.ensures.reads)
    c.fault_of.ensures
