use Rattle.tre_star.proofs.Short.{HoldExactly-unbounded}
use Rattle.tre_offline.proofs.matching.into_matches.Goals as goal

pub returns : goal.returns
returns g c = record {
  apart = c.zones-zones.ensures.set.apart;
  tight = c.zones-zones.ensures.tight;
  exact = HoldExactly-unbounded c.in_ok-zones.zones _
      (rw c.expr.ensures.tree at c.in_ok-zones.ensures);
}
