use Rattle.std.proofs.Common.{ℕ, ◌+◌, ◌/◌, ◌<◌}
use Rattle.std.specs.Int.{bit_at}
use Rattle.tre_trace.specs.Words.{words_at, HasRoom, IsStretched}
use Rattle.tre_trace.proofs.planes.make_room.Given as goal

abbrev pub invariant-loop-number : goal.invariant-loop-number
invariant-loop-number l = record {
  stretched : (number : ℕ)
      → IsStretched (l.place / 64 + 1) (words_at l.fn.own number) (words_at l.own number);
  room : (number : ℕ) → number < l.number
      → HasRoom l.place (bit_at l.valuation number) (words_at l.own number);
}
