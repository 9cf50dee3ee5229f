use Rattle.tre_zoneset.proofs.Unions.{HoldExactly-found, HoldExactly-not_found}
use Rattle.tre_zoneset.proofs.zone_set.ZoneSet.add_found.Goals as goal

pub returns-in_ok-add-clause-held : goal.returns-in_ok-add-clause-held
returns-in_ok-add-clause-held c = rw c.in-Some.is
    (HoldExactly-found c.args.self.now c.add.new.self c.in-Some.zone c.in_ok-add.ensures.held)

pub returns-in_default-clause-held : goal.returns-in_default-clause-held
returns-in_default-clause-held c = rw c.in_default.is (HoldExactly-not_found c.args.self.now)
