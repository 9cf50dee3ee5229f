use Rattle.std.proofs.Common.{arith}
use Rattle.tre_strips.proofs.Whole.{AreFound-spun, IsColumn-same}
use Rattle.tre_strips.proofs.canonical.spin.Goals as goal

pub loop-sweep-init : goal.loop-sweep-init
loop-sweep-init c = record { swept = c.requires.swept; spun = λ set canonical same spun. spun }

pub loop-sweep-preserved : goal.loop-sweep-preserved
loop-sweep-preserved c = record {
  swept = c.in_ok-next_column.ensures.swept;
  spun = λ set canonical same spun.
      rw (← c.in_ok-next_column.ensures.until)
      (c.in_ok-next.ensures set canonical
      (IsColumn-same set c.args.zones.now c.next_column.new.column same
      c.in_ok-next_column.ensures.column)
      (rw c.in_ok-next_column.ensures.at (c.loop-sweep.invariant.spun set canonical same spun)));
}

pub loop-sweep-smaller : goal.loop-sweep-smaller
loop-sweep-smaller c =
    let made = c.in_ok-next_column.ensures in
    omega (arith, made.at, made.until, made.column.rising, c.loop-sweep-test.true)

pub returns : goal.returns
returns c = λ set canonical same spun.
    AreFound-spun set canonical _ _ _ _ c.loop-sweep.sweep.time
    (c.loop-sweep.invariant.spun set canonical same spun) (omega arith)
