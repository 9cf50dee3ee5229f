-- Each write goes on from where the one before it ended.
use Rattle.std.proofs.Common.{arith, ◌∙◌}
use Rattle.std.proofs.lemmas.Grind.{common_steps}
use Rattle.tre_io.proofs.Parts.{Appends-more}
use Rattle.tre_io.proofs.put.put_all.Goals as goal

pub loop-done-preserved : goal.loop-done-preserved
loop-done-preserved g c = record {
  within = grind (arith, common_steps, c.in_ok-taken.ensures.within);
  taken = Appends-more _ _ _ c.args.bytes.now _ c.loop-done.done _ (grind (arith, common_steps))
      c.loop-done.invariant.taken c.in_ok-taken.ensures.bytes;
  steady = c.in_ok-taken.ensures.cause.ok ∙ c.loop-done.invariant.steady;
}
