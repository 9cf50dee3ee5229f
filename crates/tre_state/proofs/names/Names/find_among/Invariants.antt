use Rattle.std.proofs.Common.{◌≡◌, ℕ, Some}
use Rattle.std.specs.Prelude.{slice_get}
use Rattle.std.specs.Int.{bit_at}
use Rattle.tre_state.proofs.names.Names.find_among.Given as goal

-- the name that has the bytes is among those that are left
abbrev pub invariant-loop-left : goal.invariant-loop-left
invariant-loop-left l = (k : ℕ) → slice_get l.self k ≡ Some l.bytes → bit_at l.left k ≡ 1

abbrev pub decreases-loop-left : goal.decreases-loop-left
decreases-loop-left l = l.left
