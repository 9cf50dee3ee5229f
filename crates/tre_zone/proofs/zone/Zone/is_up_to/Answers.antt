use Rattle.std.proofs.Common.{refl, rules}
use Rattle.tre_zone.proofs.Durations.{high_within}
use Rattle.tre_zone.proofs.Lasting.{all_up_to, key_up_to, up_to_key}
use Rattle.tre_zone.proofs.zone.Zone.is_up_to.Goals as goal

pub returns-in-None : goal.returns-in-None
returns-in-None c = rw c.in-None.is ((λ yes. all_up_to c.args.self.now), (λ all. refl))

pub returns-in-Some : goal.returns-in-Some
returns-in-Some c =
    search (rules, high_within, key_up_to, up_to_key, c.in-Some.high, c.args.longest, c.in-Some.is)
