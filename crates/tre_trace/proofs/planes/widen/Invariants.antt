use Rattle.std.proofs.Common.{◌≡◌, ℕ, ◌≤◌, ◌-◌, length}
use Rattle.tre_trace.specs.Words.{words_at}
use Rattle.tre_trace.proofs.planes.widen.Given as goal

abbrev pub invariant-loop-own : goal.invariant-loop-own
invariant-loop-own l = record {
  few : length l.own.items ≤ 64;
  same : (number : ℕ) → words_at l.own.items number ≡ words_at l.fn.own.items number;
}

abbrev pub decreases-loop-own : goal.decreases-loop-own
decreases-loop-own l = 64 - length l.own.items
