use Rattle.std.proofs.lemmas.Result.{IfOk-weaker}
use Rattle.tre_zoneset.proofs.Cuts.{HoldExactly-ending, IsCut-ending}
use Rattle.tre_zoneset.proofs.Unions.{HoldExactly-gathered}
use Rattle.tre_zoneset.proofs.zone_set.ZoneSet.ending_at.Goals as goal

pub cut_each-requires : goal.cut_each-requires
cut_each-requires c = IsCut-ending c.args.time c.requires

pub returns : goal.returns
returns c =
    IfOk-weaker c.of_touching.result _ _
    (λ ending held. HoldExactly-ending c.args.time ending _
    (HoldExactly-gathered ending c.in_ok-found.found.items _ held
    (rw c.zones.ensures.same at c.in_ok-found.ensures)))
    c.of_touching.ensures
