use Rattle.std.proofs.Common.{arith, rules}
use Rattle.tre_strips.proofs.Comparing.{is-so, is-not, meets-later, meets-never, met-before}
use Rattle.tre_strips.proofs.times.Times.is_moving_first.Goals as goal

pub returns-then-self-meeting : goal.returns-then-self-meeting
returns-then-self-meeting c =
    is-so (meets-later c.args.self.now c.args.moving.now c.args.fixed.now
    (omega (arith, c.saturating_sub-meeting.ensures, c.if-self-meeting.true)))

pub returns-then-meeting-self : goal.returns-then-meeting-self
returns-then-meeting-self c = search (rules, met-before, is-not, c.args.self.now, c.args.moving.now)

pub returns-then-fixed-moving : goal.returns-then-fixed-moving
returns-then-fixed-moving c =
    search (rules, meets-never, is-not, c.args.self.now, c.args.moving.now, c.if-fixed-moving.true)

pub returns : goal.returns
returns c =
    search (rules, c.args.self.now, c.args.moving.now, c.args.fixed.now, c.if-self-meeting.false)
