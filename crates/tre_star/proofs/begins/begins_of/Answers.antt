use Rattle.std.proofs.lemmas.Result.{IfOk-weaker}
use Rattle.tre_compose.specs.Begins.{BeginsOf}
use Rattle.tre_zone.specs.ZoneList.{SetHolds}
use Rattle.tre_star.proofs.SetBegins.{through}
use Rattle.tre_star.proofs.begins.begins_of.Goals as goal

pub returns : goal.returns
returns c =
    IfOk-weaker c.of_zones.result _ _
    (λ set held. through (BeginsOf (SetHolds c.args.set.now)) c.in_ok-found.found.items set
    (rw c.zones.ensures.same at c.in_ok-found.ensures) held)
    c.of_zones.ensures
