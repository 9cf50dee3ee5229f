use Rattle.std.proofs.Common.{◌∙◌, ◌++◌, List, ap, sym, subst}
use Rattle.std.proofs.lemmas.Result.{on_ok_weaker}
use Rattle.tre_pairs.specs.Pairs.{Chain}
use Rattle.tre_zone.specs.Held.{Held, IsSetOf}
use Rattle.tre_zone.specs.Zone.{IsInstantBetween}
use Rattle.tre_zone.specs.declared.zone_bounds.ZoneBounds.{ZoneBounds}
use Rattle.tre_node.proofs.Chaining.{chain_set}
use Rattle.tre_node.proofs.chains.put_closure.Goals as goal

pub returns : goal.returns
returns c =
    let begin = c.args.from in
    let end = c.args.to in
    let steps = c.args.steps.now in
    let any = c.in_ok-any.any in
    on_ok_weaker c.put_behind.result
    (λ put. subst (λ (list : List ZoneBounds).
    IsSetOf list (Chain (Held steps) (IsInstantBetween begin end)))
    (sym (put ∙ ap (λ list. list ++ c.zones.result.now) c.clear.ensures.items
    ∙ c.zones.ensures.same))
    (chain_set steps any begin end c.zones-steps.ensures.set c.in_ok-any.ensures))
    c.put_behind.ensures
