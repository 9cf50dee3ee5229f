use Rattle.std.proofs.lemmas.Result.{IfOk-weaker}
use Rattle.tre_zoneset.proofs.Cuts.{HoldExactly-up_to, IsCut-up_to}
use Rattle.tre_zoneset.proofs.zone_set.ZoneSet.up_to.Goals as goal

pub into_cut-requires : goal.into_cut-requires
into_cut-requires c = IsCut-up_to c.args.longest c.requires

pub returns : goal.returns
returns c =
    IfOk-weaker c.into_cut.result _ _
    (λ lasting held. HoldExactly-up_to c.args.longest lasting _ held) c.into_cut.ensures
