use Rattle.std.proofs.Common.{arith}
use Rattle.std.proofs.lemmas.Result.{err_from_is_err_and}
use Rattle.tre_online.specs.Giving.{SessionGoes}
use Rattle.tre_online.proofs.Becoming.{HaveBecome-start, HaveBecome-next, HaveBecome-end, refused_here}
use Rattle.tre_online.proofs.watch.give_each.Goals as goal

pub loop-place-init : goal.loop-place-init
loop-place-init c = HaveBecome-start SessionGoes c.args.sessions.now c.args.segments.now

pub loop-place-preserved : goal.loop-place-preserved
loop-place-preserved c =
    let goes = c.in_ok-go_on.ensures in
    HaveBecome-next SessionGoes c.args.sessions.now c.args.segments.now c.loop-place.place
    c.loop-place.sessions _ c.index-sessions-place.result c.go_on.new.self c.loop-place.invariant
    (omega (arith, c.loop-place-test.true, c.requires)) c.loop-place-test.true
    (record { stands = goes.stands; fits = goes.fits; tells = goes.tells; tree = goes.tree })

pub returns-in_err-go_on-clause-err : goal.returns-in_err-go_on-clause-err
returns-in_err-go_on-clause-err c =
    let p = err_from_is_err_and c.from_residual.result c.from_residual.ensures.1 in
    rw (p.1, p.2) (refused_here c.args.sessions.now c.args.segments.now c.loop-place.place
    c.loop-place.sessions _ c.index-sessions-place.result c.in_err-go_on.field-0.0
    c.loop-place.invariant (omega (arith, c.loop-place-test.true, c.requires))
    c.loop-place-test.true (record { refused = c.in_err-go_on.ensures.refused }))

pub returns-clause-ok : goal.returns-clause-ok
returns-clause-ok c =
    HaveBecome-end SessionGoes c.args.sessions.now c.args.segments.now c.loop-place.place
    c.loop-place.sessions c.loop-place.invariant c.requires c.loop-place-test.false
