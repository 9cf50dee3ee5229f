use Rattle.std.proofs.lemmas.Result.{IfOk-weaker}
use Rattle.tre_zone.specs.Longest.{LastsUpTo}
use Rattle.tre_zone.specs.Zone.{IsInstantBetween}
use Rattle.tre_star.proofs.Chaining.{Scales-instants}
use Rattle.tre_star.proofs.Powers.{longer_steps}
use Rattle.tre_star.proofs.chains.iteration_up_to.Goals as goal

pub chains_in_parts-requires-clause-steps : goal.chains_in_parts-requires-clause-steps
chains_in_parts-requires-clause-steps c = rw c.deref.ensures.value c.in_ok-steps.ensures.canonical

pub returns : goal.returns
returns c =
    IfOk-weaker c.chains_in_parts.result _ _
    (λ set held. longer_steps c.in_ok-steps.steps.items c.args.steps.now
    (IsInstantBetween c.args.from c.args.to) (Scales-instants c.args.from c.args.to)
    (rw c.zones.ensures.same at c.in_ok-steps.ensures) (LastsUpTo c.args.longest) set
    (rw c.deref.ensures.value at held))
    c.chains_in_parts.ensures
