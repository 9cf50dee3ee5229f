use Rattle.std.proofs.Common.{◌≡◌, ℕ, ◌/◌, ◌≤◌, ◌<◌}
use Rattle.tre_trace.specs.Block.{IsToldIn}
use Rattle.tre_trace.specs.Words.{words_at}
use Rattle.tre_trace.proofs.planes.put_words.Given as goal

abbrev pub invariant-loop-number : goal.invariant-loop-number
invariant-loop-number l = record {
  told : (number : ℕ) → number < l.number
      → IsToldIn number (l.place / 64) l.block (words_at l.fn.own number) (words_at l.own number);
  left : (number : ℕ) → l.number ≤ number → words_at l.own number ≡ words_at l.fn.own number;
}
