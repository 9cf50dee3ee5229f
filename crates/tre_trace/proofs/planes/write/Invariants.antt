use Rattle.std.proofs.Common.{◌≡◌, ℕ, ◌≤◌, ◌<◌}
use Rattle.std.specs.Int.{bit_at}
use Rattle.tre_trace.specs.Words.{words_at, IsWritten}
use Rattle.tre_trace.proofs.planes.write.Given as goal

abbrev pub invariant-loop-number : goal.invariant-loop-number
invariant-loop-number l = record {
  written : (number : ℕ) → number < l.number
      → IsWritten l.place (bit_at l.valuation number) (words_at l.fn.own number)
      (words_at l.own number);
  left : (number : ℕ) → l.number ≤ number → words_at l.own number ≡ words_at l.fn.own number;
}
