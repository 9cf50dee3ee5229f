use Rattle.std.proofs.Common.{rules}
use Rattle.tre_strips.proofs.StripZones.{Pushes-some, Pushes-empty}
use Rattle.tre_strips.proofs.strip_zone.push_zone.Goals as goal

pub returns-in_ok-push : goal.returns-in_ok-push
returns-in_ok-push c =
    search (rules, Pushes-some, c.args.begins.now, c.args.bar.now, c.in-Some.zone)

pub returns-in_default : goal.returns-in_default
returns-in_default c = Pushes-empty _ _ _ c.in_default.ensures
