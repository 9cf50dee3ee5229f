use Rattle.std.proofs.Common.{◌≡◌, ◌∙◌, ap, nat_abs, rules, w64}
use mir.Val.{SFits}
use Rattle.std.proofs.lemmas.Int.{to_z-of_z}
use Rattle.tre_zone.specs.Bound.{value_of}
use Rattle.tre_zone.specs.declared.zone_bounds.ZoneBounds.{ZoneBounds}
use Rattle.tre_offline.proofs.LastingUpTo.{longest-limit, longest-all}
use Rattle.tre_offline.proofs.lengths.longest_in.Goals as goal

pub returns-clause-limit : goal.returns-clause-limit
returns-clause-limit c =
    let zone = c.args.zone.now in
    let fits : SFits w64 c.value.result = search rules in
    let size : c.unsigned_abs.result ≡ nat_abs (value_of zone.dur_high) =
    c.unsigned_abs.ensures.value
    ∙ ap (λ value. nat_abs value) (to_z-of_z w64 c.value.result fits ∙ c.value.ensures
    ∙ ap (λ (bounds : ZoneBounds). value_of bounds.dur_high) c.bounds.ensures.same) in
    rw size (longest-limit zone c.bounds.ensures.canonical)

pub returns-clause-all : goal.returns-clause-all
returns-clause-all c =
    let zone = c.args.zone.now in
    let fits : SFits w64 c.value.result = search rules in
    let size : c.unsigned_abs.result ≡ nat_abs (value_of zone.dur_high) =
    c.unsigned_abs.ensures.value
    ∙ ap (λ value. nat_abs value) (to_z-of_z w64 c.value.result fits ∙ c.value.ensures
    ∙ ap (λ (bounds : ZoneBounds). value_of bounds.dur_high) c.bounds.ensures.same) in
    rw size (longest-all zone c.bounds.ensures.canonical)
