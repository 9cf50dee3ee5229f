use Rattle.std.proofs.Common.{◌≡◌, ℕ, length, take}
use Rattle.std.specs.Int.{bit_at}
use Rattle.tre_packed.specs.Events.{events_at}
use Rattle.tre_trace.specs.Planes.{bit_in, words_for}
use Rattle.tre_packed.proofs.happening.event_plane.Given as goal

-- The bits of the segments before the place are written.
abbrev pub invariant-loop-place : goal.invariant-loop-place
invariant-loop-place l = record {
  size : length l.words.items ≡ words_for (length l.segments);
  bits : (place : ℕ) → bit_in l.words.items place
      ≡ bit_at (events_at (take l.place l.segments) place) l.number;
}
