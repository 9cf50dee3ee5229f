use Rattle.std.proofs.Common.{◌==◌, length, ap, ◌∙◌}
use Rattle.tre_vcd.proofs.Scoping.{scopes-empty}
use Rattle.tre_vcd.proofs.scopes.Scopes.is_empty.Goals as goal

pub returns : goal.returns
returns c = λ scopes are.
    c.is_empty.ensures ∙ ap (λ lens. length lens == 0) c.as_slice.ensures.value
    ∙ scopes-empty scopes _ _ are
