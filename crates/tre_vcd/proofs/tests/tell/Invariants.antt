use Rattle.std.proofs.Common.{◌≡◌, ◌≢◌, ℕ}
use Rattle.std.specs.Int.{bit_at}
use Rattle.tre_vcd.specs.Signals.{bit_told, test_at, test_told}
use Rattle.tre_vcd.proofs.tests.tell.Given as goal

-- those that were looked at are told, and the others are as they were
abbrev pub invariant-loop-left : goal.invariant-loop-left
invariant-loop-left l = record {
  among : (k : ℕ) → bit_at l.left k ≡ 1 → bit_at l.numbers k ≡ 1;
  told : (k : ℕ) → bit_at l.numbers k ≡ 1 → bit_at l.left k ≢ 1 → bit_at l.values k
      ≡ bit_told (test_told (test_at l.list k) l.identifier l.letters)
      (bit_at l.initial.values k);
  left : (k : ℕ) → bit_at l.left k ≡ 1 → bit_at l.values k ≡ bit_at l.initial.values k;
  kept : (k : ℕ) → bit_at l.numbers k ≢ 1 → bit_at l.values k ≡ bit_at l.initial.values k;
}

abbrev pub decreases-loop-left : goal.decreases-loop-left
decreases-loop-left l = l.left
