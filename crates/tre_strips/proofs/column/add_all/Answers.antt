use Rattle.std.proofs.Common.{◌≡◌, ◌∷◌, [], ◌++◌, ◌+◌, ◌<◌, ℕ, List, length, get_or, take, sym, ap, ◌∙◌}
use mathlib.Core.List.{append_assoc}
use Rattle.std.proofs.lemmas.List.{take_more, take_all}
use Rattle.tre_zone.specs.declared.zone_bounds.ZoneBounds.{ZoneBounds}
use Rattle.tre_strips.proofs.column.add_all.Goals as goal

more_by_one : (first now next more : List ZoneBounds) (i : ℕ) (zone : ZoneBounds)
    → i < length more → zone ≡ get_or more i zone → now ≡ first ++ take i more
    → next ≡ now ++ zone ∷ [] → next ≡ first ++ take (i + 1) more
more_by_one first now next more i zone within is before pushed =
    let last : take (i + 1) more ≡ take i more ++ zone ∷ [] =
    take_more more i zone within
    ∙ ap (λ (z : ZoneBounds). take i more ++ z ∷ []) (sym is) in
    pushed ∙ (ap (λ (l : List ZoneBounds). l ++ zone ∷ []) before
    ∙ (append_assoc first (take i more) (zone ∷ [])
    ∙ ap (λ (l : List ZoneBounds). first ++ l) (sym last)))

pub loop-zone-preserved : goal.loop-zone-preserved
loop-zone-preserved c =
    more_by_one c.args.all.now.items c.loop-zone.all.items _ c.args.more.now
    c.loop-zone.zone-index c.zone-item.result c.loop-zone-test.true c.zone-item.is
    c.loop-zone.invariant c.in_ok-push.ensures.items

pub returns : goal.returns
returns c =
    rw (take_all c.loop-zone.zone-index c.args.more.now c.loop-zone-test.false)
    at c.loop-zone.invariant
