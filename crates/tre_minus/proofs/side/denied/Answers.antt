use Rattle.std.proofs.Common.{◌≡◌, arith}
use Rattle.std.proofs.lemmas.Int.{ints}
use Rattle.tre_zone.specs.Bound.{weakness_of}
use Rattle.tre_zone.proofs.Bounds.{split}
use Rattle.tre_minus.proofs.Denying.{value-key}
use Rattle.tre_minus.proofs.side.denied.Goals as goal

pub overflow_sub-value : goal.overflow_sub-value
overflow_sub-value c =
    let v = value-key c.args.bound.now c.requires in
    omega (arith, ints)

pub strict-requires-clause-low : goal.strict-requires-clause-low
strict-requires-clause-low c =
    let v = value-key c.args.bound.now c.requires in
    omega (arith, ints)

pub strict-requires-clause-high : goal.strict-requires-clause-high
strict-requires-clause-high c =
    let v = value-key c.args.bound.now c.requires in
    omega (arith, ints)

pub overflow_sub-value-else-is_weak : goal.overflow_sub-value-else-is_weak
overflow_sub-value-else-is_weak c =
    let v = value-key c.args.bound.now c.requires in
    omega (arith, ints)

pub weak-requires-clause-low : goal.weak-requires-clause-low
weak-requires-clause-low c =
    let v = value-key c.args.bound.now c.requires in
    omega (arith, ints)

pub weak-requires-clause-high : goal.weak-requires-clause-high
weak-requires-clause-high c =
    let v = value-key c.args.bound.now c.requires in
    omega (arith, ints)

pub returns-then-is_weak : goal.returns-then-is_weak
returns-then-is_weak c =
    let v = value-key c.args.bound.now c.requires in
    let s = split c.args.bound.now in
    let weak : weakness_of c.args.bound.now ≡ 1 = c.is_weak.ensures.0 c.if-is_weak.true in
    omega (arith, ints)

pub returns-else-is_weak : goal.returns-else-is_weak
returns-else-is_weak c =
    let v = value-key c.args.bound.now c.requires in
    let s = split c.args.bound.now in
    let strict : weakness_of c.args.bound.now ≡ 1 → ⊥ =
    λ weak. let told = c.is_weak.ensures.1 weak in absurd (cc) in
    let none : weakness_of c.args.bound.now ≡ 0 = omega arith in
    omega (arith, ints)
