use Rattle.std.proofs.Common.{List, ℕ, map, sym, subst, ◌∙◌}
use Rattle.std.specs.String.{string_bytes}
use Rattle.tre_state.specs.Names.{IsNameList}
use Rattle.tre_state.specs.Sieve.{AreSifted}
use Rattle.tre_state.proofs.Places.{texts-clone}
use Rattle.tre_state.proofs.names.Names.try_clone.Goals as goal

pub invariant_of-result : goal.invariant_of-result
invariant_of-result c =
    let same =
    texts-clone c.self.inside.names.keys c.in_ok-clone.field-0.keys c.in_ok-clone.ensures.cases in (
      subst IsNameList (sym same) c.self.invariant.0,
      subst (λ (all : List (List ℕ)). AreSifted all c.copy.result) (sym same)
          (subst (λ (sieve : List ℕ). AreSifted (map string_bytes c.self.inside.names.keys) sieve)
          (sym c.copy.ensures) c.self.invariant.1),
    )

pub returns : goal.returns
returns c =
    texts-clone c.self.inside.names.keys c.in_ok-clone.field-0.keys c.in_ok-clone.ensures.cases
    ∙ c.self.view_is
