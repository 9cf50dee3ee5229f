use Rattle.std.proofs.Common.{arith, rules}
use Rattle.std.proofs.Math.Nat.{div-le_self, one-le-pow}
use Rattle.tre_show.proofs.LineBytes.{digits_fit, number_ascii}
use Rattle.tre_show.proofs.line.write_number.Goals as goal

pub write_digits-requires : goal.write_digits-requires
write_digits-requires c =
    let size = digits_fit c.args.units c.ranges.units.fits in
    (omega (arith, size, c.requires.room), c.requires.room.1)

pub returns-then-scale-eq0-clause-ascii : goal.returns-then-scale-eq0-clause-ascii
returns-then-scale-eq0-clause-ascii c = number_ascii _ _ c.ranges.units.fits

pub returns-then-scale-eq0-clause-begin : goal.returns-then-scale-eq0-clause-begin
returns-then-scale-eq0-clause-begin c =
    let size = digits_fit c.args.units c.ranges.units.fits in
    omega (arith, size, c.write_digits.ensures.start)

pub nonzero_div-units : goal.nonzero_div-units
nonzero_div-units c = omega (arith, one-le-pow c.from.result 10 (omega arith), c.pow.ensures)

pub write_digits-requires-2 : goal.write_digits-requires-2
write_digits-requires-2 c = search (rules, div-le_self, digits_fit, c.args.units, c.pow.result)

pub returns-clause-ascii : goal.returns-clause-ascii
returns-clause-ascii c = number_ascii c.args.scale c.args.units c.ranges.units.fits

pub returns-clause-begin : goal.returns-clause-begin
returns-clause-begin c = search (rules, div-le_self, digits_fit, c.args.units, c.pow.result)
