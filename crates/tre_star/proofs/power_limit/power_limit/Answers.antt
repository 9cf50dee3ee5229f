use Rattle.std.proofs.Common.{◌≡◌, ◌*◌, refl, arith}
use Rattle.tre_star.proofs.Powers.{most_rises, limit_leads, limit_given}
use Rattle.tre_star.proofs.power_limit.power_limit.Goals as goal

pub most_of-most-requires-clause-rising : goal.most_of-most-requires-clause-rising
most_of-most-requires-clause-rising c =
    rw c.bounds-bounds.ensures.same
    (most_rises c.args.zone.now c.bounds-bounds.ensures.canonical)

pub returns : goal.returns
returns c =
    let total : c.from.result * c.from-2.result
    ≡ c.fewest_steps-fewest.result * c.least_of-least.result =
    rw (c.from.ensures, c.from-2.ensures) refl in
    limit_given c.new.result c.limit_of.result c.args.zone.now c.new.ensures
    (limit_leads c.limit_of.result c.args.zone.now c.least_of-least.result c.most_of-most.result _
    (rw c.bounds-bounds.ensures.same at c.limit_of.ensures)
    (rw c.bounds-bounds.ensures.same at c.least_of-least.ensures.value)
    (rw c.bounds-bounds.ensures.same at c.most_of-most.ensures.value)
    c.fewest_steps-fewest.result (omega (arith, total))
    c.fewest_steps-fewest.ensures.some (omega (arith, c.if-most-least.false))
    c.fewest_steps-fewest.ensures.overlap)
