use Rattle.std.proofs.lemmas.Result.{IfOk-weaker}
use Rattle.tre_zoneset.proofs.Cuts.{HoldExactly-within, IsCut-within}
use Rattle.tre_zoneset.proofs.zone_set.ZoneSet.into_within.Goals as goal

pub into_cut-requires : goal.into_cut-requires
into_cut-requires c = IsCut-within c.args.interval.now

pub returns : goal.returns
returns c =
    IfOk-weaker c.into_cut.result _ _
    (λ lasting held. HoldExactly-within c.args.interval.now lasting _ held) c.into_cut.ensures
