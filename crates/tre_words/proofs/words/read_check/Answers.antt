use Rattle.std.proofs.Common.{rules, ◌∙◌, true≢false, subst, sym, map, string_bytes}
use Rattle.tre_words.specs.Job.{MayReadFile}
use Rattle.tre_words.proofs.Jobs.{plain_once}
use Rattle.tre_words.proofs.words.read_check.Goals as goal

pub returns-in_err-plain-clause-usage : goal.returns-in_err-plain-clause-usage
returns-in_err-plain-clause-usage c = λ usage job gives.
    c.in_err-plain.ensures.usage (search rules) gives.plain gives.gives

pub returns-then-not-may_read_file-clause-usage : goal.returns-then-not-may_read_file-clause-usage
returns-then-not-may_read_file-clause-usage c = λ usage job gives.
    let same = plain_once (map string_bytes c.args.words.now) gives.plain c.in_ok-plain.plain
    gives.gives c.in_ok-plain.ensures.ok in
    absurd (true≢false (sym (c.may_read_file.ensures.1 (subst MayReadFile same gives.may))
    ∙ c.if-not-may_read_file.true))
