use Rattle.std.proofs.Common.{◌+◌, ◌-◌, Any, List, drop, inl, inr, length, subst, arith}
use Rattle.std.proofs.lemmas.List.{length-drop, take_all}
use Rattle.tre_zone.specs.Zone.{Includes}
use Rattle.tre_zone.specs.declared.zone_bounds.ZoneBounds.{ZoneBounds}
use Rattle.tre_node.proofs.pruning.is_gone.Goals as goal

pub returns-then-is_included : goal.returns-then-is_included
returns-then-is_included c said = inl (c.is_included.ensures c.if-is_included.true)

pub returns-else-is_included : goal.returns-else-is_included
returns-else-is_included c said =
    let zones = c.args.zones.now in
    let from = c.args.place + 1 in
    let counted = length-drop from zones in
    inr (subst (λ (list : List ZoneBounds). Any (λ other. Includes other c.args.zone.now) list)
    (take_all (length zones - from) (drop from zones) (omega (arith, counted)))
    (c.is_included-else-is_included.ensures said))
