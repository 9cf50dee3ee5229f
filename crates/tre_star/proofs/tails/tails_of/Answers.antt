use Rattle.std.proofs.Common.{◌^◌, subst, ℕ, arith}
use Rattle.tre_star.specs.Tails.{AreTails}
use Rattle.tre_star.proofs.Behind.{AreTails-none, AreTails-more}
use Rattle.tre_star.proofs.tails.tails_of.Goals as goal

pub loop-count-init : goal.loop-count-init
loop-count-init c = rw c.in_ok-tails.ensures.items (AreTails-none c.args.zones.now)

pub loop-count-preserved : goal.loop-count-preserved
loop-count-preserved c =
    let told = c.tail_with-tail.ensures in
    rw c.in_ok-push.ensures.items
    (AreTails-more c.args.zones.now c.loop-count.tails.items c.loop-count.count
    c.index-zones-zones.result c.tail_with-tail.result c.loop-count-test.true
    c.index-zones-zones.is (rw c.bounds-zone.ensures.same at told.own)
    (rw c.deref.ensures.value at told.before)
    (told.keys (2 ^ 42)
    (rw c.bounds-zone.ensures.same c.bounds-zone.ensures.keys)
    (rw c.deref.ensures.value
    (λ k d one. (c.loop-count.invariant.each k d
    (omega (arith, one, c.loop-count.invariant.as_many))).keys)))
    c.loop-count.invariant)

pub returns : goal.returns
returns c =
    subst (λ (k : ℕ). AreTails k c.loop-count.tails.items c.args.zones.now)
    (omega (arith, c.loop-count-test.false, c.loop-count.auto.count-end)) c.loop-count.invariant
