use Rattle.std.proofs.Common.{arith}
use Rattle.csv.specs.Records.{fields_of}
use Rattle.tre_num.proofs.Valuing.{room-left}
use Rattle.tre_num.proofs.row.told_in.Goals as goal

pub overflow_mul-valuation : goal.overflow_mul-valuation
overflow_mul-valuation c =
    omega (
      arith,
      c.loop-left.invariant.valuation,
      room-left c.args.columns.now (fields_of c.args.row.now) c.loop-left.left c.requires.few
          c.loop-left-test.true c.loop-left.invariant.within,
    )

pub overflow_add-valuation : goal.overflow_add-valuation
overflow_add-valuation c =
    omega (
      arith,
      c.loop-left.invariant.valuation,
      c.told_of-one.ensures.bit,
      room-left c.args.columns.now (fields_of c.args.row.now) c.loop-left.left c.requires.few
          c.loop-left-test.true c.loop-left.invariant.within,
    )
