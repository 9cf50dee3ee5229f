use Rattle.tre_lanes.proofs.Combining.{combined_more}
use Rattle.tre_lanes.proofs.words.combine_lanes.Goals as goal

pub loop-at-preserved : goal.loop-at-preserved
loop-at-preserved g c =
    combined_more g.C.Connective.of c.args.a.now c.args.b.now c.loop-at.a c.loop-at.at c.requires
    c.loop-at.invariant c.loop-at-test.true c.of_lanes-lanes.result c.of_lanes-lanes.ensures
