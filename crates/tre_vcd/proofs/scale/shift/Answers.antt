use Rattle.std.proofs.Common.{sym, ap, ◌∙◌, Some, arith}
use Rattle.tre_vcd.proofs.Scaling.{less-digits, more-digits}
use Rattle.tre_vcd.proofs.scale.shift.Goals as goal

pub returns-then-more-less : goal.returns-then-more-less
returns-then-more-less c =
    c.quotient.ensures
    ∙ sym (less-digits c.args.more c.args.less c.args.digits.now (omega (arith, c.if-more-less.true)))

pub returns-in-Some : goal.returns-in-Some
returns-in-Some c =
    ap Some c.times_power.ensures
    ∙ more-digits c.args.more c.args.less c.args.digits.now c.in-Some.number
    (omega (arith, c.if-more-less.false)) c.in-Some.ensures.digits c.in-Some.ensures.value
