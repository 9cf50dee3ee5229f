use Rattle.std.proofs.Common.{arith, rules}
use Rattle.tre_zone.specs.Longest.{LastsUpTo}
use Rattle.tre_zone.specs.Zone.{IsInstantBetween}
use Rattle.tre_zone.proofs.Lasting.{LastsUpTo-downward, LastsUpTo-scales}
use Rattle.tre_zone.proofs.ZoneListLemmas.{AreCanonical-empty}
use Rattle.tre_star.proofs.Chaining.{IsClosedTo-first, IsClosedTo-next, IsClosedTo-last, Scales-instants, instants-rising}
use Rattle.tre_star.proofs.chains.chains_of.Goals as goal

pub add_before-requires-clause-reached : goal.add_before-requires-clause-reached
add_before-requires-clause-reached c = rw c.new-reached.ensures AreCanonical-empty

pub loop-place-init : goal.loop-place-init
loop-place-init c =
    IsClosedTo-first (LastsUpTo c.args.limits.now.longest) c.args.steps.now
    (IsInstantBetween c.args.limits.now.from c.args.limits.now.to)
    c.requires.steps (Scales-instants c.args.limits.now.from c.args.limits.now.to)
    (instants-rising c.args.limits.now.from c.args.limits.now.to) c.instants-instants.result
    c.instants-instants.ensures.held
    c.add_before.new.reached
    (rw c.new-reached.ensures at c.in_ok-add_before.ensures.grown)
    (rw c.new-reached.ensures at c.in_ok-add_before.ensures.held)

pub add_before-requires-in-loop-place-clause-reached
    : goal.add_before-requires-in-loop-place-clause-reached
add_before-requires-in-loop-place-clause-reached c = c.loop-place.invariant.set

pub loop-place-preserved : goal.loop-place-preserved
loop-place-preserved c =
    IsClosedTo-next (LastsUpTo c.args.limits.now.longest) c.args.steps.now
    (IsInstantBetween c.args.limits.now.from c.args.limits.now.to)
    c.requires.steps (Scales-instants c.args.limits.now.from c.args.limits.now.to)
    (instants-rising c.args.limits.now.from c.args.limits.now.to)
    c.loop-place.reached c.add_before-in-loop-place.new.reached
    c.loop-place.place c.index-items-place.result
    (rw c.items.ensures at c.loop-place-test.true)
    (rw c.items-items.ensures at c.index-items-place.is) c.loop-place.invariant
    c.in_ok-add_before-2.ensures.grown c.in_ok-add_before-2.ensures.held

pub loop-place-smaller : goal.loop-place-smaller
loop-place-smaller c =
    search (rules, c.in_ok-add_before-2.ensures.grown.fewer, c.items.ensures)

pub returns : goal.returns
returns c =
    rw c.into_items.ensures
    (IsClosedTo-last (LastsUpTo c.args.limits.now.longest) c.args.steps.now
    (IsInstantBetween c.args.limits.now.from c.args.limits.now.to)
    c.requires.steps (Scales-instants c.args.limits.now.from c.args.limits.now.to)
    (instants-rising c.args.limits.now.from c.args.limits.now.to) (LastsUpTo-downward c.args.limits.now.longest)
    (LastsUpTo-scales c.args.limits.now.longest) c.loop-place.reached c.loop-place.place
    c.loop-place.invariant
    (let all = rw c.items.ensures at c.loop-place-test.false in omega (arith, all)))
