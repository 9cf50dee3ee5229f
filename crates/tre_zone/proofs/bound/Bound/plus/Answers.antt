use Rattle.std.proofs.Common.{arith}
use Rattle.std.proofs.lemmas.Int.{ints}
use Rattle.tre_zone.specs.Bound.{sum_of}
use Rattle.tre_zone.proofs.Bounds.{split, value_of-sum_of, weakness_of-sum_of}
use Rattle.tre_zone.proofs.bound.Bound.plus.Goals as goal

pub overflow_sub-result : goal.overflow_sub-result
overflow_sub-result c =
    let one = split c.args.self.now in
    let two = split c.args.other.now in
    omega (arith, ints)

pub returns-clause-key : goal.returns-clause-key
unfolding sum_of
returns-clause-key c =
    let one = split c.args.self.now in
    let two = split c.args.other.now in
    omega (arith, ints)

pub returns-clause-value : goal.returns-clause-value
returns-clause-value c =
    rw (returns-clause-key c) (value_of-sum_of c.args.self.now c.args.other.now)

pub returns-clause-weak : goal.returns-clause-weak
returns-clause-weak c =
    let one = split c.args.self.now in
    let two = split c.args.other.now in
    let least = weakness_of-sum_of c.args.self.now c.args.other.now in
    rw (returns-clause-key c) ((λ h. (omega arith, omega arith)), (λ h. omega arith))
