use Rattle.std.proofs.Common.{length}
use Rattle.tre_parts.specs.Skims.{IsFed}
use Rattle.tre_parts.proofs.walk.Walk.feed.Given as goal

abbrev pub invariant-loop-place : goal.invariant-loop-place
invariant-loop-place g l =
    IsFed g.R.PartReader.names g.R.PartReader.terms g.R.PartReader.format
    g.R.PartReader.holds
    l.initial.self.reader l.initial.self.part.items l.initial.self.spot l.initial.segments.items
    l.initial.rest
    l.self.reader l.self.part.items l.self.spot l.segments.items l.rest

abbrev pub decreases-loop-place : goal.decreases-loop-place
decreases-loop-place g l = length l.rest
