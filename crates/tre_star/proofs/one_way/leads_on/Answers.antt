use Rattle.std.proofs.Common.{◌≤◌, ◌+◌, ◌<◌, ◌∙◌, [], sym, subst, ⊎_elim, arith}
use Rattle.std.proofs.lemmas.Bool.{cases_lt}
use Rattle.std.proofs.lemmas.List.{get_or-map, length-map, get_or_default}
use Rattle.tre_lanes.specs.Rows.{Reaches}
use Rattle.tre_pairs.specs.Pairs.{Pairs, Composed}
use Rattle.tre_zone.specs.Zone.{ZoneHolds, row_of}
use Rattle.tre_zoneset.proofs.Searching.{IsKeyOf-canonical}
use Rattle.tre_star.proofs.one_way.leads_on.Goals as goal

pub returns : goal.returns
returns c = λ yes_it.
    let steps = c.args.steps.now in
    let place = c.args.place in
    let zone = c.index-steps-place.result in
    let key = c.key_after.result in
    let stretch = c.find_stretch-stretch.ensures in
    let never = IsKeyOf-canonical (λ (R : Pairs). Composed (ZoneHolds zone) R) steps key
    c.requires.canonical c.key_after.ensures.others in record {
      alone = λ k d within other.
          rw (get_or_default steps place d zone c.requires.within ∙ sym c.index-steps-place.is)
          (never.never k d within (λ r.
          let long = length-map steps row_of in
          let reached = subst (λ row. Reaches row key)
          (sym (get_or-map row_of steps k d [] within)) r in
          ⊎_elim
          (λ (early : k < place + 1). stretch.before.none k (omega arith)
          (omega (arith, early)) (omega (arith, within, long)) reached)
          (λ (late : place + 1 ≤ k). stretch.behind.none k
          (omega (arith, late, other)) (omega (arith, within, long))
          (omega (arith, within, long)) reached)
          (cases_lt k (place + 1))));
    }
