use Rattle.std.proofs.Common.{refl}
use Rattle.tre_zone.proofs.Lasting.{within_short, never_short}
use Rattle.tre_zone.proofs.zone.Zone.up_to.Goals as goal

pub returns-in-Some : goal.returns-in-Some
returns-in-Some c = within_short _ _ _ _ c.in-Some.ensures.ends c.within.ensures

pub returns-in-None : goal.returns-in-None
returns-in-None c = absurd (never_short c.args.longest (c.in-None.ensures.empty.0 refl))
