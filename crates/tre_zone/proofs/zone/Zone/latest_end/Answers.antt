use Rattle.std.proofs.Common.{◌≡◌, ◌∙◌, ℕ, ap, sym, subst, nat_abs, rules, w64, [], ◌∷◌}
use mir.Val.{SFits}
use Rattle.std.proofs.lemmas.Int.{to_z-of_z}
use Rattle.tre_zone.specs.Bound.{value_of}
use Rattle.tre_zone.specs.Held.{IsLatest}
use Rattle.tre_zone.specs.declared.zone_bounds.ZoneBounds.{ZoneBounds}
use Rattle.tre_zone.proofs.LatestEnds.{latest_by_size}
use Rattle.tre_zone.proofs.zone.Zone.latest_end.Goals as goal

pub returns : goal.returns
returns c =
    let zone = c.args.self.now in
    let fits : SFits w64 c.value.result = search rules in
    let size : c.unsigned_abs.result ≡ nat_abs (value_of zone.end_high) =
    c.unsigned_abs.ensures.value
    ∙ ap (λ value. nat_abs value) (to_z-of_z w64 c.value.result fits ∙ c.value.ensures
    ∙ ap (λ (bounds : ZoneBounds). value_of bounds.end_high) c.bounds.ensures.same) in
    subst (λ (time : ℕ). IsLatest time (zone ∷ [])) (sym size)
    (latest_by_size zone c.bounds.ensures.some c.bounds.ensures.tight)
