use Rattle.tre_zone.specs.Longest.{LastsUpTo}
use Rattle.tre_zone.specs.Zone.{IsInstantBetween}
use Rattle.tre_zone.specs.ZoneList.{SetHolds}
use Rattle.tre_star.proofs.Chaining.{HoldExactly-with, Scales-SetHolds, Scales-instants}
use Rattle.tre_star.proofs.Short.{instants_short}
use Rattle.tre_star.proofs.chains.closure_up_to.Goals as goal

pub returns : goal.returns
returns c =
    HoldExactly-with (LastsUpTo c.args.longest) (SetHolds c.args.steps.now)
    (IsInstantBetween c.args.from c.args.to) (Scales-SetHolds c.args.steps.now)
    (Scales-instants c.args.from c.args.to)
    (instants_short c.args.longest c.args.from c.args.to) c.instants.result
    c.in_ok-chains.chains c.add.new.self c.instants.ensures.held
    c.in_ok-chains.ensures c.in_ok-add.ensures.held
