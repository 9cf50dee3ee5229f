use Rattle.std.proofs.Common.{rules}
use Rattle.std.proofs.lemmas.List.{length-map}
use Rattle.tre_zone.specs.Longest.{LastsUpTo}
use Rattle.tre_zone.specs.Zone.{row_of}
use Rattle.tre_pairs.specs.Pairs.{Lasting}
use Rattle.tre_zone.proofs.ZoneListLemmas.{SetHolds-empty}
use Rattle.tre_zoneset.specs.ZoneSet.{FoundHolds}
use Rattle.tre_zoneset.proofs.Searching.{HoldsFirst-none, HoldsFirst-next, HoldsFirst-rest, HoldsFirst-end}
use Rattle.tre_star.proofs.Looking.{Before, Before-additive, Before-found, Before-key}
use Rattle.tre_star.proofs.Reaching.{HasGrown-none, HasGrown-then}
use Rattle.tre_star.proofs.chains.add_found_before.Goals as goal

pub loop-place-init : goal.loop-place-init
loop-place-init c =
    search (rules, HoldsFirst-none, SetHolds-empty, HasGrown-none, c.args.longest, c.args.steps.now)

pub loop-place-preserved : goal.loop-place-preserved
loop-place-preserved c =
    let longest = c.args.longest in
    let zone = c.args.zone.now in
    let steps = c.args.steps.now in
    record {
      first = HoldsFirst-next (Before longest zone) (Before-additive longest zone)
          c.args.reached.now steps c.loop-place.reached c.key_before-key.result
          (Before-key longest zone steps _ c.requires.steps c.key_before-key.ensures.others)
          c.loop-place.place c.in-Some.next c.index-items-next.result c.add_found.new.reached
          (Lasting (LastsUpTo longest) (FoundHolds c.compose.result)) c.in-Some.ensures
          (rw c.items-items.ensures at c.index-items-next.is) c.loop-place.invariant.first
          c.in_ok-add_found-in-Some.ensures.held
          (Before-found longest zone c.index-items-next.result c.compose.result
          c.compose.ensures.pairs);
      grown = HasGrown-then c.args.reached.now c.loop-place.reached c.add_found.new.reached
          c.loop-place.invariant.grown c.in_ok-add_found-in-Some.ensures.grown;
    }

pub add_found-requires-clause-reached : goal.add_found-requires-clause-reached
add_found-requires-clause-reached c = c.loop-place.invariant.grown.canonical

pub returns-in-None-clause-held : goal.returns-in-None-clause-held
returns-in-None-clause-held c =
    let longest = c.args.longest in
    let zone = c.args.zone.now in
    let steps = c.args.steps.now in
    HoldsFirst-rest (Before longest zone) (Before-additive longest zone) c.args.reached.now steps
    c.loop-place.reached c.key_before-key.result
    (Before-key longest zone steps _ c.requires.steps c.key_before-key.ensures.others) zone
    c.loop-place.place c.in-None.ensures c.loop-place.invariant.first

pub returns-clause-held : goal.returns-clause-held
returns-clause-held c =
    let longest = c.args.longest in
    let zone = c.args.zone.now in
    let steps = c.args.steps.now in
    HoldsFirst-end (Before longest zone) (Before-additive longest zone) c.args.reached.now steps
    c.loop-place.reached c.key_before-key.result
    (Before-key longest zone steps _ c.requires.steps c.key_before-key.ensures.others)
    c.loop-place.place (rw c.items-items.ensures at c.loop-place-test.false)
    c.loop-place.invariant.first

pub bounds-items-next : goal.bounds-items-next
bounds-items-next c = search (rules, length-map, row_of, c.args.steps.now)

pub loop-place-smaller : goal.loop-place-smaller
loop-place-smaller c = search (rules, length-map, row_of, c.args.steps.now)
