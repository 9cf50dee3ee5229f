use Rattle.std.proofs.Common.{arith}
use Rattle.tre_zoneset.proofs.Merging.{AreMerged-second}
use Rattle.tre_zoneset.proofs.merge.add_earlier.Goals as goal

pub loop-end-init : goal.loop-end-init
loop-end-init c = record { within = c.requires; held = λ start held. held }

pub loop-end-preserved : goal.loop-end-preserved
loop-end-preserved c = record {
  within = omega (arith, c.loop-end-test.true);
  held = λ start held. rw c.in_ok-push.ensures.items
      (AreMerged-second c.loop-end.zones.items start c.args.others.now c.loop-end.end
      c.index-others-end-in-loop-end.result c.loop-end-test.true c.index-others-end-in-loop-end.is
      (c.loop-end.invariant.held start held));
}
