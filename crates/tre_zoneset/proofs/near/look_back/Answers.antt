use Rattle.std.proofs.Common.{◌≡◌, pos, ◌+◌, ◌-◌, get_or, subst, sym, ◌∙◌, ℕ, arith, rules}
use Rattle.std.proofs.lemmas.List.{get_or_default}
use Rattle.tre_zone.specs.ZoneList.{AreApart}
use Rattle.tre_zone.specs.declared.zone_bounds.ZoneBounds.{ZoneBounds}
use Rattle.tre_zoneset.specs.declared.near.Reach.{Reach}
use Rattle.tre_zoneset.proofs.NearZones.{IsApartBehind, IsApartBehind-end, IsApartBehind-more, IsApartFrom-behind, IsApartFrom-beyond}
use Rattle.tre_zoneset.proofs.near.look_back.Goals as goal

pub loop-place-init : goal.loop-place-init
loop-place-init c = IsApartBehind-end c.args.zone.now c.args.kept.now

pub returns-then-is_beyond : goal.returns-then-is_beyond
returns-then-is_beyond c =
    let r : Reach = record { low = pos 0; high = pos 0 } in
    let far = c.is_beyond.ensures r c.if-is_beyond.true in
    let back : (c.loop-place.place - 1) + 1 ≡ c.loop-place.place =
    omega (arith, c.loop-place-test.true) in
    IsApartFrom-beyond c.args.zone.now c.args.kept.now c.args.reaches.now (c.loop-place.place - 1)
    (get_or c.args.reaches.now (c.loop-place.place - 1) r) c.bounds-bounds.ensures.canonical
    c.requires.canonical
    c.requires.reached (omega (arith, c.loop-place-test.true, c.loop-place.invariant.within))
    (get_or_default c.args.reaches.now (c.loop-place.place - 1) r _
    (omega (
      arith,
      c.loop-place-test.true,
      c.loop-place.invariant.within,
      c.requires.reached.count,
    )))
    (rw c.bounds-bounds.ensures.same at far.0)
    (rw c.bounds-bounds.ensures.same at far.1)
    (subst (λ (place : ℕ). IsApartBehind c.args.zone.now c.args.kept.now place) (sym back)
    c.loop-place.invariant)

pub loop-place-preserved : goal.loop-place-preserved
loop-place-preserved c =
    let back : (c.loop-place.place - 1) + 1 ≡ c.loop-place.place =
    omega (arith, c.loop-place-test.true) in
    let within = c.loop-place.invariant.within in
    IsApartBehind-more c.args.zone.now c.args.kept.now (c.loop-place.place - 1)
    (subst (λ (place : ℕ). IsApartBehind c.args.zone.now c.args.kept.now place) (sym back)
    c.loop-place.invariant)
    (λ d. subst (λ (zone : ZoneBounds). AreApart c.args.zone.now zone)
    (c.index-kept-place.is
    ∙ get_or_default c.args.kept.now (c.loop-place.place - 1) c.index-kept-place.result d
    (omega (arith, c.loop-place-test.true, within)))
    (record {
      left = λ h. let told = c.if-includes-2.ensures.pairs.1 h in absurd (cc);
      right = λ h. let told = c.if-includes.ensures.pairs.1 h in absurd (cc);
    }))

pub returns : goal.returns
returns c = search (rules, IsApartFrom-behind, c.args.zone.now, c.args.kept.now)
