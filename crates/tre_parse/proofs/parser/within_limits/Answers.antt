use Rattle.std.proofs.Common.{inr, sym, ap, ◌∙◌}
use Rattle.std.specs.Prelude.{position}
use Rattle.tre_parse.specs.Front.{tokens_in}
use Rattle.tre_parse.specs.Limits.{is_above, deep_place}
use Rattle.tre_parse.specs.Answers.{text_tokens_in}
use Rattle.tre_parse.proofs.Judging.{big_outcome, deep_outcome, shallow}
use Rattle.tre_parse.proofs.parser.within_limits.Goals as goal

pub returns-in-Some-clause-fault : goal.returns-in-Some-clause-fault
returns-in-Some-clause-fault c = λ scale text read r.
    let found = ap (λ ts. position is_above (tokens_in ts)) (sym c.deref.ensures.value)
    ∙ sym c.first_big.ensures ∙ c.in-Some.is in
    inr (big_outcome scale text read (text_tokens_in c.args.scan.now) r c.in-Some.place _ found
    c.offset-at.ensures)

pub returns-in-Some-first_deep-clause-fault : goal.returns-in-Some-first_deep-clause-fault
returns-in-Some-first_deep-clause-fault c = λ scale text read r.
    let none = ap (λ ts. position is_above (tokens_in ts)) (sym c.deref.ensures.value)
    ∙ sym c.first_big.ensures ∙ c.in_default.is in
    let found = ap (λ ts. deep_place 0 0 (tokens_in ts)) (sym c.deref-2.ensures.value)
    ∙ sym c.first_deep.ensures ∙ c.in-Some-first_deep.is in
    inr (deep_outcome scale text read (text_tokens_in c.args.scan.now) r c.in-Some-first_deep.place _
    none found c.offset-at-in-Some-first_deep.ensures)

pub returns-clause-ok : goal.returns-clause-ok
returns-clause-ok c = λ scale text read r.
    shallow scale text read (text_tokens_in c.args.scan.now) r
    (ap (λ ts. position is_above (tokens_in ts)) (sym c.deref.ensures.value)
    ∙ sym c.first_big.ensures ∙ c.in_default.is)
    (ap (λ ts. deep_place 0 0 (tokens_in ts)) (sym c.deref-2.ensures.value)
    ∙ sym c.first_deep.ensures ∙ c.in_default-first_deep.is)
