-- Where a state holds, as words: one bit for each segment of a trace.
use Rattle.std.specs.Prelude.{◌≡◌, ℕ, ◌≤◌, ◌<◌, ◌↔◌, List, length}
use Rattle.tre_state.specs.StateTree.{StateTree, HoldsOn}
use Rattle.tre_trace.specs.declared.segment.Segment.{Segment}
use Rattle.tre_trace.specs.Planes.{bit_in, valuation_at, words_for}

-- The bit of each place says whether the state holds on the segment there. The bits past the last
-- segment are 0.
pub record AreTruthOf (state : StateTree) (segments : List Segment) (words : List ℕ) : Type 0 where
  pub size : length words ≡ words_for (length segments)
  pub held : (place : ℕ) → place < length segments
      → (bit_in words place ≡ 1) ↔ HoldsOn state (valuation_at segments place)
  pub past : (place : ℕ) → length segments ≤ place → bit_in words place ≡ 0
