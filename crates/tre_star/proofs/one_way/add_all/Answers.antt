use Rattle.std.proofs.Common.{◌≡◌, ◌∷◌, [], ◌++◌, ◌+◌, List, take, append_assoc, sym, ap, ◌∙◌, rules}
use Rattle.std.proofs.lemmas.List.{take_more, take_all, append-nil}
use Rattle.tre_zone.specs.declared.zone_bounds.ZoneBounds.{ZoneBounds}
use Rattle.tre_zone.proofs.ZoneListLemmas.{AreCanonical-empty, AreCanonical-push}
use Rattle.tre_star.proofs.one_way.add_all.Goals as goal

pub loop-zone-init : goal.loop-zone-init
loop-zone-init c = search (rules, append-nil, AreCanonical-empty)

pub loop-zone-preserved : goal.loop-zone-preserved
loop-zone-preserved c =
    let more = c.args.more.now in
    let i = c.loop-zone.zone-index in
    let zone = c.zone-item.result in
    let old = c.loop-zone.invariant in
    let last : take (i + 1) more ≡ take i more ++ zone ∷ [] =
    take_more more i zone c.loop-zone-test.true
    ∙ ap (λ (z : ZoneBounds). take i more ++ z ∷ []) (sym c.zone-item.is) in
    record {
      all = c.in_ok-push.ensures.items
          ∙ (ap (λ (l : List ZoneBounds). l ++ zone ∷ []) old.all
          ∙ (append_assoc c.args.found.now.items (take i more) (zone ∷ [])
          ∙ ap (λ (l : List ZoneBounds). c.args.found.now.items ++ l) (sym last)));
      canonical =
          rw last (AreCanonical-push (take i more) zone old.canonical
          c.bounds-bounds.ensures.canonical);
    }

pub returns : goal.returns
returns c =
    search (rules, take_all, c.loop-zone.zone-index, c.args.more.now, c.loop-zone-test.false)
