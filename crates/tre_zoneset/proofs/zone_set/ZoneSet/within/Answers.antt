use Rattle.std.proofs.Common.{rules}
use Rattle.std.proofs.lemmas.Result.{IfOk-weaker}
use Rattle.tre_zoneset.proofs.Cuts.{HoldExactly-within, HoldExactly-left, IsCut-within}
use Rattle.tre_zoneset.proofs.zone_set.ZoneSet.within.Goals as goal

pub cut_of-requires : goal.cut_of-requires
cut_of-requires c = IsCut-within c.args.interval.now

pub returns-in-Some : goal.returns-in-Some
returns-in-Some c =
    HoldExactly-within c.args.interval.now c.in-Some.lasting _
    (rw c.in-Some.is at c.in_ok-lasting.ensures)

pub returns : goal.returns
returns c =
    search (rules, IfOk-weaker, HoldExactly-within, HoldExactly-left, c.try_clone.result)
