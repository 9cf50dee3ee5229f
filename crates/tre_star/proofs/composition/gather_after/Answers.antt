use Rattle.std.proofs.Common.{◌+◌, ◌-◌, ◌<◌, length, ap, arith}
use Rattle.std.proofs.lemmas.List.{length-map}
use Rattle.tre_zone.specs.Longest.{LastsUpTo}
use Rattle.tre_zone.specs.Zone.{row_of}
use Rattle.tre_pairs.specs.Pairs.{Lasting}
use Rattle.tre_zone.proofs.ZoneListLemmas.{SetHolds-empty}
use Rattle.tre_zoneset.specs.ZoneSet.{FoundHolds}
use Rattle.tre_zoneset.proofs.Searching.{HoldsFirst-none, HoldsFirst-next, HoldsFirst-rest, HoldsFirst-end}
use Rattle.tre_star.proofs.Looking.{After, After-additive, After-found, After-key}
use Rattle.tre_star.proofs.composition.gather_after.Goals as goal

pub loop-place-init : goal.loop-place-init
loop-place-init c =
    HoldsFirst-none (After c.args.longest c.args.zone.now) c.args.found.now.items
    c.args.seconds.now (λ a b n h. SetHolds-empty _ _ _ h.related.right)

pub loop-place-preserved : goal.loop-place-preserved
loop-place-preserved c =
    let longest = c.args.longest in
    let zone = c.args.zone.now in
    let seconds = c.args.seconds.now in
    HoldsFirst-next (After longest zone) (After-additive longest zone) c.args.found.now.items
    seconds c.loop-place.found.items c.key_after-key.result
    (After-key longest zone seconds _ c.requires.seconds c.key_after-key.ensures.others)
    c.loop-place.place c.in-Some.next c.index-items-next.result c.gather_up_to.new.found.items
    (Lasting (LastsUpTo longest) (FoundHolds c.compose.result)) c.in-Some.ensures
    (rw c.items-items.ensures at c.index-items-next.is) c.loop-place.invariant
    c.in_ok-gather_up_to-in-Some.ensures
    (After-found longest zone c.index-items-next.result c.compose.result c.compose.ensures.pairs)

pub returns-in-None : goal.returns-in-None
returns-in-None c =
    let longest = c.args.longest in
    let zone = c.args.zone.now in
    let seconds = c.args.seconds.now in
    HoldsFirst-rest (After longest zone) (After-additive longest zone) c.args.found.now.items
    seconds c.loop-place.found.items c.key_after-key.result
    (After-key longest zone seconds _ c.requires.seconds c.key_after-key.ensures.others)
    zone c.loop-place.place c.in-None.ensures c.loop-place.invariant

pub returns : goal.returns
returns c =
    let longest = c.args.longest in
    let zone = c.args.zone.now in
    let seconds = c.args.seconds.now in
    HoldsFirst-end (After longest zone) (After-additive longest zone) c.args.found.now.items
    seconds c.loop-place.found.items c.key_after-key.result
    (After-key longest zone seconds _ c.requires.seconds c.key_after-key.ensures.others)
    c.loop-place.place (rw c.items-items.ensures at c.loop-place-test.false)
    c.loop-place.invariant

pub bounds-items-next : goal.bounds-items-next
bounds-items-next c =
    let below : c.in-Some.next < length c.items-items.result.now =
    omega (
      arith,
      c.in-Some.ensures.ends,
      length-map c.args.seconds.now row_of,
      ap length c.items-items.ensures,
    ) in
    below

pub loop-place-smaller : goal.loop-place-smaller
loop-place-smaller c =
    let less : length c.args.seconds.now - (c.in-Some.next + 1)
    < length c.args.seconds.now - c.loop-place.place =
    omega (
      arith,
      c.in-Some.ensures.starts,
      c.in-Some.ensures.ends,
      length-map c.args.seconds.now row_of,
    ) in
    less
