use Rattle.std.proofs.Common.{List, subst}
use Rattle.std.proofs.lemmas.Result.{on_ok_weaker}
use Rattle.tre_pairs.proofs.Agreement.{Agree-Chain}
use Rattle.tre_zone.specs.Held.{Held}
use Rattle.tre_zone.specs.Zone.{IsInstantBetween}
use Rattle.tre_zone.specs.ZoneList.{SetHolds, HoldExactly}
use Rattle.tre_zone.specs.declared.zone_bounds.ZoneBounds.{ZoneBounds}
use Rattle.tre_mark.proofs.Agreeing.{agree_refl, agree_then}
use Rattle.tre_node.proofs.Lists.{held_again}
use Rattle.tre_node.proofs.SetsOf.{set_agrees, set_of}
use Rattle.tre_node.proofs.chains.chain_anew.Goals as goal

pub put_steps-requires-clause-over : goal.put_steps-requires-clause-over
put_steps-requires-clause-over c = c.lead_no_further.ensures c.if-lead_no_further.true

pub returns : goal.returns
returns c =
    let I = IsInstantBetween c.args.from c.args.to in
    on_ok_weaker c.put_closure.result
    (λ set. set_of (agree_then (set_agrees set)
    (Agree-Chain (Held c.in_ok-set.set) (Held c.args.steps.now) I I
    (held_again c.in_ok-set.set c.args.steps.now
    (subst (λ (list : List ZoneBounds). HoldExactly c.in_ok-set.set (SetHolds list))
    c.in_ok-all.ensures c.in_ok-set.ensures)) (agree_refl I)))) c.put_closure.ensures
