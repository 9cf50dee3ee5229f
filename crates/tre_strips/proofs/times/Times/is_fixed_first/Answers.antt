use Rattle.std.proofs.Common.{arith, rules}
use Rattle.tre_strips.proofs.Comparing.{is-so, is-not, meets-later, meets-never, met-before}
use Rattle.tre_strips.proofs.times.Times.is_fixed_first.Goals as goal

pub returns-then-meeting-self : goal.returns-then-meeting-self
returns-then-meeting-self c =
    is-so (met-before c.args.self.now c.args.moving.now c.args.fixed.now
    (omega (arith, c.saturating_sub-meeting.ensures, c.if-meeting-self.true)))

pub returns-then-self-meeting : goal.returns-then-self-meeting
returns-then-self-meeting c =
    search (rules, meets-later, is-not, c.args.self.now, c.args.moving.now)

pub returns-then-fixed-moving : goal.returns-then-fixed-moving
returns-then-fixed-moving c =
    is-so (meets-never c.args.self.now c.args.moving.now c.args.fixed.now c.if-fixed-moving.true)

pub returns : goal.returns
returns c =
    search (rules, c.args.self.now, c.args.moving.now, c.args.fixed.now, c.if-self-meeting.false)
