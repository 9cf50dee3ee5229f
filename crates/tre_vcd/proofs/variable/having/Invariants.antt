use Rattle.std.proofs.Common.{◌≡◌, ◌≢◌, ℕ, Some}
use Rattle.std.specs.Int.{bit_at}
use Rattle.tre_vcd.specs.Kept.{identifier_at}
use Rattle.tre_vcd.proofs.variable.having.Given as goal

-- those that were looked at have the identifier, and those that have it are there
abbrev pub invariant-loop-left : goal.invariant-loop-left
invariant-loop-left l = record {
  among : (k : ℕ) → bit_at l.left k ≡ 1 → bit_at l.having k ≡ 1;
  sound : (k : ℕ) → bit_at l.having k ≡ 1 → bit_at l.left k ≢ 1
      → identifier_at l.variables k ≡ Some l.identifier;
  whole : (k : ℕ) → bit_at l.numbers k ≡ 1 → identifier_at l.variables k ≡ Some l.identifier
      → bit_at l.having k ≡ 1;
}

abbrev pub decreases-loop-left : goal.decreases-loop-left
decreases-loop-left l = l.left
