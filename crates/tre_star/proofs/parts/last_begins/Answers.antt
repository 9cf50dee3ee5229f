use Rattle.std.proofs.Common.{rules, ◌≡◌, ◌^◌, sym, subst, w64, ◌≤ℤ◌}
use Rattle.std.proofs.lemmas.Int.{to_z-of_z}
use mir.Val.{to_z, of_z}
use Rattle.tre_zone.specs.Bound.{IsKeyWithin}
use Rattle.tre_zone.specs.declared.zone_bounds.ZoneBounds.{ZoneBounds}
use Rattle.tre_star.proofs.Separate.{HaveBegins-none, HaveBegins-more, key_at, wider}
use Rattle.tre_star.proofs.parts.last_begins.Goals as goal

pub loop-count-init : goal.loop-count-init
loop-count-init c = search (rules, HaveBegins-none, c.args.steps.now)

pub loop-count-preserved : goal.loop-count-preserved
loop-count-preserved c =
    let next = c.greater-earliest.result in
    let zone = c.index-steps-steps.result in
    let held : to_z w64 (of_z w64 next) ≡ next = to_z-of_z w64 next (search rules) in
    let is = key_at c.key.result (λ (z : ZoneBounds). z.begin_low) c.bounds-bounds.result zone
    (search rules) c.key.ensures c.bounds-bounds.ensures.same in
    let own : zone.begin_low ≤ℤ next =
    subst (λ k. k ≤ℤ next) is c.greater-earliest.ensures.other in
    let within : IsKeyWithin (2 ^ 50) next =
    c.greater-earliest.ensures.within (2 ^ 50) c.loop-count.invariant.within
    (subst (λ k. IsKeyWithin (2 ^ 50) k) (sym is)
    (wider zone.begin_low c.bounds-bounds.ensures.keys.begin_low)) in
    rw (c.in_ok-push.ensures.items, held)
    (HaveBegins-more c.args.steps.now c.loop-count.begins.items c.loop-count.count
    (to_z w64 c.loop-count.earliest-bits) next zone c.loop-count-test.true c.index-steps-steps.is
    c.greater-earliest.ensures.one own within c.loop-count.invariant)

pub returns : goal.returns
returns c =
    search (rules, c.loop-count-test.false, c.loop-count.auto.count-end, c.loop-count.begins.items)
