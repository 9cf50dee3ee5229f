use Rattle.std.proofs.Common.{refl, rules}
use Rattle.tre_strips.proofs.Fitting.{AreFilled-none, AreFilled-more, AreFilled-all, AreFilled-not}
use Rattle.tre_strips.proofs.run.are_filled.Goals as goal

pub loop-bar-init : goal.loop-bar-init
loop-bar-init c = AreFilled-none _ _

pub loop-bar-preserved : goal.loop-bar-preserved
loop-bar-preserved c =
    AreFilled-more c.args.bars.now c.loop-bar.bar-index _ _ _ c.loop-bar-test.true
    c.loop-bar.invariant (c.if-not-is_filled.ensures.0 refl)

pub returns-then-not-is_filled : goal.returns-then-not-is_filled
returns-then-not-is_filled c =
    search (rules, AreFilled-not, c.args.bars.now, c.loop-bar.bar-index, c.loop-bar-test.true)

pub returns : goal.returns
returns c = (
  (λ e. AreFilled-all c.args.bars.now c.loop-bar.bar-index _ _ c.loop-bar-test.false
      c.loop-bar.invariant),
  (λ filled. refl),
)
