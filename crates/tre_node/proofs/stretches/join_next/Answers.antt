use Rattle.std.proofs.Common.{arith}
use Rattle.tre_node.proofs.Begins.{same_refl, same_then, same_two, place_kept}
use Rattle.tre_node.proofs.stretches.join_next.Goals as goal

pub loop-begun-init : goal.loop-begun-init
loop-begun-init c = (same_refl c.args.begun.now.items, c.requires)

pub loop-begun-preserved : goal.loop-begun-preserved
loop-begun-preserved c = (
  same_then c.args.begun.now.items c.loop-begun.begun.items c.replace_two.new.begun.items
      c.loop-begun.invariant.0
      (same_two c.loop-begun.begun.items c.replace_two.new.begun.items c.args.place
      c.index.result.now c.index-in-loop-begun.result.now c.in-Some.whole
      (omega (arith, c.loop-begun-test.true, c.len.ensures))
      c.index.ensures c.index-in-loop-begun.ensures c.in-Some.ensures c.replace_two.ensures),
  place_kept c.loop-begun.begun.items c.replace_two.new.begun.items _ c.args.place c.in-Some.whole
      (omega (arith, c.loop-begun-test.true, c.len.ensures))
      c.replace_two.ensures,
)
