use Rattle.std.proofs.Common.{refl, rules}
use Rattle.tre_pairs.specs.Pairs.{Pairs, Lasting}
use Rattle.tre_zone.specs.Longest.{LastsUpTo}
use Rattle.tre_zone.specs.Zone.{IsInstantBetween}
use Rattle.tre_zone.proofs.ZoneListLemmas.{SetHolds-empty}
use Rattle.tre_zoneset.proofs.Unions.{HoldExactly-all, HoldExactly-none}
use Rattle.tre_star.specs.Parts.{SomeSteps}
use Rattle.tre_star.proofs.Separate.{LieBefore-next, part_canonical, parts_disjoint, parts_joined, parts_none}
use Rattle.tre_star.proofs.chains.chains_in_parts.Goals as goal

pub loop-start-init : goal.loop-start-init
loop-start-init c = search (rules, parts_none, HoldExactly-none, SetHolds-empty)

pub loop-start-preserved : goal.loop-start-preserved
loop-start-preserved c =
    search (rules, LieBefore-next, parts_joined, c.args.steps.now, c.loop-start.start)

pub returns : goal.returns
returns c =
    HoldExactly-all (λ (R : Pairs). Lasting (LastsUpTo c.args.limits.now.longest)
    (SomeSteps R (IsInstantBetween c.args.limits.now.from c.args.limits.now.to)))
    c.loop-start.chains c.args.steps.now c.args.steps.now c.loop-start.start
    c.loop-start-test.false refl c.loop-start.invariant.held

pub add_part-requires-clause-apart : goal.add_part-requires-clause-apart
add_part-requires-clause-apart c =
    search (rules, parts_disjoint, c.loop-start.start, c.part_end-end.result, c.args.steps.now)

pub add_part-requires-clause-steps : goal.add_part-requires-clause-steps
add_part-requires-clause-steps c =
    search (rules, part_canonical, c.loop-start.start, c.part_end-end.result, c.args.steps.now)
