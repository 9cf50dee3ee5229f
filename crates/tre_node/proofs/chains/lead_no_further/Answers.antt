use Rattle.std.proofs.Common.{List, sym, subst}
use Rattle.tre_zone.specs.declared.zone_bounds.ZoneBounds.{ZoneBounds}
use Rattle.tre_node.specs.Telling.{LeadsNoFurther}
use Rattle.tre_node.proofs.Lists.{one_zone}
use Rattle.tre_node.proofs.Chaining.{lone_over, no_zone, none_over}
use Rattle.tre_node.proofs.chains.lead_no_further.Goals as goal

pub returns-in-empty : goal.returns-in-empty
returns-in-empty c said = none_over c.args.steps.now (no_zone c.args.steps.now c.in-empty.len_below)

pub returns-in-len1 : goal.returns-in-len1
returns-in-len1 c said =
    let step = c.step-item.result in
    subst (λ (list : List ZoneBounds). LeadsNoFurther list)
    (sym (one_zone c.args.steps.now step c.in-len1.len_at_least c.in-len1.len_below c.step-item.is))
    (lone_over step c.compose.result c.compose.ensures.pairs (c.is_over.ensures said))
