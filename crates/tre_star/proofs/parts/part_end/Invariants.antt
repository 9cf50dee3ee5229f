use Rattle.std.proofs.Common.{◌^◌}
use Rattle.std.specs.List.{slice_range}
use Rattle.tre_zone.specs.Bound.{IsKeyWithin}
use Rattle.tre_star.specs.Parts.{PairsEndBy}
use Rattle.tre_star.proofs.parts.part_end.Given as goal

abbrev pub invariant-loop-end : goal.invariant-loop-end
invariant-loop-end l = record {
  ends : PairsEndBy l.reach (slice_range l.steps l.start l.end);
  within : IsKeyWithin (2 ^ 42) l.reach;
}
