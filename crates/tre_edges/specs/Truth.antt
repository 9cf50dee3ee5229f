-- Where a state comes to be true, or to be false.
use Rattle.std.specs.Prelude.{ℕ, Bool, true, false, not, IsTrue}
use Rattle.tre_pairs.specs.Pairs.{Pairs}
use Rattle.tre_state.specs.StateTree.{StateTree, HoldsOn}
use Rattle.tre_syntax.specs.Rest.{Rest, EdgeMatches}
use Rattle.tre_zone.specs.Zone.{IsInstantBetween}

-- The state has this truth on the valuation: it holds, or it doesn't.
abbrev pub HasTruth : Bool → StateTree → ℕ → Type 0
HasTruth true state valuation = HoldsOn state valuation
HasTruth false state valuation = ¬ HoldsOn state valuation

-- The edges over a rest at which the state comes to this truth, from the other one.
abbrev pub ComesTo : Bool → StateTree → Rest → Pairs
ComesTo truth state rest = EdgeMatches (HasTruth (not truth) state) (HasTruth truth state) rest

-- The pair is the instant t, and an edge was found there.
pub record IsFoundAt (found : Bool) (t a b n : ℕ) : Type 0 where
  pub is : IsTrue found
  pub instant : IsInstantBetween t t a b n
