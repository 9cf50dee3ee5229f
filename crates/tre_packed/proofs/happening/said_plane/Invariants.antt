use Rattle.std.proofs.Common.{◌≡◌, ℕ, length, take}
use Rattle.tre_packed.specs.Said.{said_bit}
use Rattle.tre_trace.specs.Planes.{bit_in, words_for}
use Rattle.tre_packed.proofs.happening.said_plane.Given as goal

-- The bits of those that were gone through are written.
abbrev pub invariant-loop-one : goal.invariant-loop-one
invariant-loop-one l = record {
  size : length l.words.items ≡ words_for l.count;
  bits : (place : ℕ)
      → bit_in l.words.items place ≡ said_bit (take l.one-index l.said) place l.number;
}
