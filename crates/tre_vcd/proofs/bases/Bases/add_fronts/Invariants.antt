use Rattle.std.proofs.Common.{◌≡◌, ℕ, ◌<◌, List, slice_index, take}
use Rattle.tre_vcd.specs.Bases.{HasFront}
use Rattle.tre_vcd.proofs.bases.Bases.add_fronts.Given as goal

-- those before this place are there
abbrev pub invariant-loop-place : goal.invariant-loop-place
invariant-loop-place l = record {
  added : (k : ℕ) → k < l.place → slice_index l.text k ≡ 91 → HasFront l.self (take k l.text);
  kept : (other : List ℕ) → HasFront l.fn.self other → HasFront l.self other;
}
