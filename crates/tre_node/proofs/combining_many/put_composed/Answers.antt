use Rattle.std.proofs.Common.{◌∙◌, ◌++◌, List, ap, sym, subst}
use Rattle.tre_pairs.specs.Pairs.{Composed}
use Rattle.tre_zone.specs.Held.{Held, IsSetOf}
use Rattle.tre_zone.specs.declared.zone_bounds.ZoneBounds.{ZoneBounds}
use Rattle.tre_zone.proofs.HeldSets.{composed_set}
use Rattle.tre_node.proofs.combining_many.put_composed.Goals as goal

pub returns : goal.returns
returns c =
    subst (λ (list : List ZoneBounds).
    IsSetOf list (Composed (Held c.args.first.now) (Held c.args.second.now)))
    (sym (c.in_ok-put_behind.ensures
    ∙ ap (λ list. list ++ c.zones.result.now) c.clear.ensures.items ∙ c.zones.ensures.same))
    (composed_set c.args.first.now c.args.second.now c.in_ok-all.all
    c.zones-first.ensures.set.canonical c.zones-second.ensures.set.canonical c.in_ok-all.ensures)
