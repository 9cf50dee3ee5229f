use Rattle.std.proofs.Common.{◌≡◌, ℕ, [], take}
use Rattle.std.specs.Prelude.{All}
use Rattle.tre_packed.specs.Said.{said_from, HasBits}
use Rattle.tre_packed.proofs.happening.are_quiet.Given as goal

abbrev pub invariant-loop-segment : goal.invariant-loop-segment
invariant-loop-segment l = record {
  quiet : l.events ≡ 0 → (place : ℕ) → said_from place (take l.segment-index l.block) ≡ [];
  bits : All HasBits (take l.segment-index l.block);
}
