use Rattle.std.proofs.Common.{◌<◌, length, arith, rules}
use Rattle.tre_syntax.specs.Pattern.{names_of}
use Rattle.tre_feed.proofs.Sharing.{view-here, Keep-set}
use Rattle.tre_feed.proofs.shares.view_among.Goals as goal

pub returns-in_err-view-clause-keep : goal.returns-in_err-view-clause-keep
returns-in_err-view-clause-keep c =
    let within : c.loop-number.number < length c.loop-number.groups = omega arith in
    Keep-set c.args.groups.now c.loop-number.groups c.loop-number.number
    c.index-groups-number.result c.admit.new.self c.loop-number.invariant within
    c.in_err-view.ensures.wider

pub returns-in-Some-clause-view : goal.returns-in-Some-clause-view
returns-in-Some-clause-view c =
    search (rules, view-here, names_of, c.loop-number.number, c.loop-number.groups, c.in-Some.is)

pub returns-in-Some-clause-keep : goal.returns-in-Some-clause-keep
returns-in-Some-clause-keep c =
    let within : c.loop-number.number < length c.loop-number.groups = omega arith in
    Keep-set c.args.groups.now c.loop-number.groups c.loop-number.number
    c.index-groups-number.result c.admit.new.self c.loop-number.invariant within
    c.in_ok-view.ensures.wider

pub loop-number-preserved : goal.loop-number-preserved
loop-number-preserved c =
    let within : c.loop-number.number < length c.loop-number.groups = omega arith in
    Keep-set c.args.groups.now c.loop-number.groups c.loop-number.number
    c.index-groups-number.result c.admit.new.self c.loop-number.invariant within
    c.in_ok-view.ensures.wider
