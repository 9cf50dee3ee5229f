use Rattle.std.proofs.lemmas.Result.{on_ok_weaker}
use Rattle.tre_zone.specs.Longest.{LastsUpTo}
use Rattle.tre_zone.specs.Zone.{IsInstantBetween}
use Rattle.tre_zone.specs.ZoneList.{SetHolds}
use Rattle.tre_zone.proofs.Lasting.{LastsUpTo-downward, LastsUpTo-scales}
use Rattle.tre_star.proofs.Chaining.{Scales-instants, instants-rising}
use Rattle.tre_star.proofs.Short.{HoldExactly-same}
use Rattle.tre_star.proofs.Single.{single_exact, HasNoPair-part, HasNoPair-found, part_added}
use Rattle.tre_star.proofs.chains.add_part.Goals as goal

pub push_found-requires : goal.push_found-requires
push_found-requires c =
    let limits = c.args.limits.now in
    HasNoPair-found (SetHolds c.args.chains.now) _ c.composed_up_to-found.result
    (single_exact (LastsUpTo limits.longest) (IsInstantBetween limits.from limits.to)
    (LastsUpTo-downward limits.longest) (LastsUpTo-scales limits.longest)
    (Scales-instants limits.from limits.to) (instants-rising limits.from limits.to)
    c.args.steps.now c.requires.steps (c.is_single.ensures c.if-is_single.true)
    c.index-steps-0.result c.index-steps-0.is c.instants-instants.result
    c.instants-instants.ensures.held c.composed_up_to-found.result c.composed_up_to-found.ensures)
    c.requires.apart

pub returns-then-is_single : goal.returns-then-is_single
returns-then-is_single c =
    let limits = c.args.limits.now in
    on_ok_weaker c.push_found.result
    (λ held. HoldExactly-same c.push_found.new.chains (SetHolds c.args.chains.now) _ _
    (single_exact (LastsUpTo limits.longest) (IsInstantBetween limits.from limits.to)
    (LastsUpTo-downward limits.longest) (LastsUpTo-scales limits.longest)
    (Scales-instants limits.from limits.to) (instants-rising limits.from limits.to)
    c.args.steps.now c.requires.steps (c.is_single.ensures c.if-is_single.true)
    c.index-steps-0.result c.index-steps-0.is c.instants-instants.result
    c.instants-instants.ensures.held c.composed_up_to-found.result c.composed_up_to-found.ensures)
    held)
    c.push_found.ensures

pub join_disjoint-requires : goal.join_disjoint-requires
join_disjoint-requires c =
    HasNoPair-part (SetHolds _) _ c.in_ok-part.part c.in_ok-part.ensures c.requires.apart

pub returns : goal.returns
returns c =
    on_ok_weaker c.join_disjoint.result
    (λ held. part_added (SetHolds c.args.chains.now) _ c.in_ok-part.part c.join_disjoint.new.self
    c.in_ok-part.ensures held)
    c.join_disjoint.ensures.held
