use Rattle.std.proofs.Common.{◌≡◌, ◌+◌, ◌-◌, ◌<◌, ℕ, length, map, drop, take, get_or, sym, subst, arith}
use Rattle.std.proofs.lemmas.List.{length-map, take-append-drop}
use Rattle.tre_lanes.specs.Rows.{HasNone}
use Rattle.tre_zone.specs.Zone.{row_of}
use Rattle.tre_zoneset.proofs.Searching.{HoldsFirst-rest}
use Rattle.tre_star.specs.Tails.{TakesIn}
use Rattle.tre_star.proofs.Behind.{held_part, gathered_to, gathered_all}
use Rattle.tre_star.proofs.Looking.{After, After-additive, After-key}
use Rattle.tre_star.proofs.Separate.{AreCanonical-parts}
use Rattle.tre_star.proofs.composition.gather_on.Goals as goal

pub is_held-requires-clause-keys : goal.is_held-requires-clause-keys
is_held-requires-clause-keys c =
    rw (c.tail_at-rest.ensures c.args.zone.now)
    (c.requires.tails.each (length c.args.second.now - 1 - c.loop-place.place) c.args.zone.now
    (omega (arith, c.loop-place-test.true))).keys

pub returns-then-is_held : goal.returns-then-is_held
returns-then-is_held c = λ start h.
    let longest = c.args.longest in
    let zone = c.args.zone.now in
    let second = c.args.second.now in
    let place = c.loop-place.place in
    let here : length second - 1 - (length second - 1 - place) ≡ place =
    omega (arith, c.loop-place-test.true) in
    let takes : TakesIn c.tail_at-rest.result.now (drop place second) =
    rw (c.tail_at-rest.ensures zone)
    (subst (λ (j : ℕ). TakesIn (get_or c.args.tails.now (length second - 1 - place) zone)
    (drop j second)) here
    (c.requires.tails.each (length second - 1 - place) zone
    (omega (arith, c.loop-place-test.true)))) in
    gathered_all (After longest zone) (After-additive longest zone) start second place
    c.loop-place.found.items (c.loop-place.invariant.held start h)
    (λ a b n some le m.
    held_part c.loop-place.found.items (length c.loop-place.found.items - c.min.result) c.min.result a
    b n
    (rw c.deref.ensures.value at
    (c.is_held.ensures c.if-is_held.true (drop place second)
    (AreCanonical-parts (take place second) (drop place second)
    (rw (take-append-drop place second) c.requires.seconds)).1
    takes a b n some le m)))

pub returns-then-to-place : goal.returns-then-to-place
returns-then-to-place c = λ start h.
    let longest = c.args.longest in
    let zone = c.args.zone.now in
    let second = c.args.second.now in
    let place = c.loop-place.place in
    let to = c.find_late-to.result in
    let less : to < place + c.loop-place.most =
    omega (arith, c.if-to-place.true, c.find_late-to.ensures.rising) in
    HoldsFirst-rest (After longest zone) (After-additive longest zone) start second
    c.gather_each.new.found.items c.key_after-key.result
    (After-key longest zone second _ c.requires.seconds c.key_after-key.ensures.others)
    zone to
    (subst (λ (k : ℕ). HasNone (map row_of second) c.key_after-key.result to k)
    (sym (length-map second row_of)) (c.find_late-to.ensures.none less))
    (record {
      held = gathered_to (After longest zone) (After-additive longest zone) start second place to
          c.loop-place.found.items c.gather_each.new.found.items c.find_late-to.ensures.rising
          (c.loop-place.invariant.held start h) c.in_ok-gather_each.ensures;
    })

pub loop-place-preserved : goal.loop-place-preserved
loop-place-preserved c =
    let longest = c.args.longest in
    let zone = c.args.zone.now in
    record {
      most = omega (arith, c.saturating_mul-most.ensures, c.loop-place.invariant.most);
      held = λ start h.
          gathered_to (After longest zone) (After-additive longest zone) start c.args.second.now
          c.loop-place.place c.find_late-to.result c.loop-place.found.items
          c.gather_each.new.found.items c.find_late-to.ensures.rising
          (c.loop-place.invariant.held start h) c.in_ok-gather_each.ensures;
    }
