use Rattle.std.proofs.Common.{◌≡◌, ◌∙◌, ℕ, List, ap, sym, subst}
use Rattle.tre_watch.specs.Lines.{Stands, behind_passed, content_of, is_silent, is_space_or_tab}
use Rattle.tre_watch.specs.Steps.{said_on}
use Rattle.tre_watch.proofs.Standing.{says_spoken}
use Rattle.tre_watch.proofs.line.read_line.Goals as goal

pub returns : goal.returns
returns c =
    let same : c.behind_blanks-content.result.now ≡ content_of c.args.line.now =
    c.behind_blanks-content.ensures
    ∙ ap (λ (bytes : List ℕ). behind_passed is_space_or_tab bytes) c.without_return.ensures in
    says_spoken c.args.line.now (said_on c.line_of.result)
    (ap is_silent (sym same) ∙ sym c.is_silent.ensures ∙ c.if-is_silent.false)
    (subst (λ (content : List ℕ). Stands content (said_on c.line_of.result)) same
    c.line_of.ensures)
