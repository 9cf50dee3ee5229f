use Rattle.std.proofs.Common.{arith}
use Rattle.tre_online.specs.Giving.{SessionCloses}
use Rattle.tre_online.proofs.Becoming.{HaveBecome-start, HaveBecome-next, HaveBecome-end}
use Rattle.tre_online.proofs.watch.close_each.Goals as goal

pub loop-place-init : goal.loop-place-init
loop-place-init c = HaveBecome-start SessionCloses c.args.sessions.now c.args.events.now

pub loop-place-preserved : goal.loop-place-preserved
loop-place-preserved c =
    HaveBecome-next SessionCloses c.args.sessions.now c.args.events.now c.loop-place.place
    c.loop-place.sessions _ c.index-sessions-place.result c.close.new.self c.loop-place.invariant
    (omega (arith, c.loop-place-test.true, c.requires)) c.loop-place-test.true
    (record { tells = c.in_ok-close.ensures.tells; tree = c.in_ok-close.ensures.tree })

pub returns : goal.returns
returns c =
    HaveBecome-end SessionCloses c.args.sessions.now c.args.events.now c.loop-place.place
    c.loop-place.sessions c.loop-place.invariant c.requires c.loop-place-test.false
