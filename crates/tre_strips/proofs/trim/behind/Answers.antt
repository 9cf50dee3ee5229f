use Rattle.std.proofs.Common.{refl, sym, true≢false, arith}
use Rattle.std.proofs.lemmas.Int.{ints}
use Rattle.tre_zone.proofs.Bounds.{split, not_weak}
use Rattle.tre_strips.proofs.trim.behind.Goals as goal

pub overflow_sub-value : goal.overflow_sub-value
overflow_sub-value c =
    let s = split c.args.last.now in
    let v = c.value.ensures in
    let low = c.requires.low in
    let high = c.requires.high in
    omega (arith, ints)

pub strict-requires-clause-low : goal.strict-requires-clause-low
strict-requires-clause-low c =
    let s = split c.args.last.now in
    let v = c.value.ensures in
    let low = c.requires.low in
    let high = c.requires.high in
    omega (arith, ints)

pub strict-requires-clause-high : goal.strict-requires-clause-high
strict-requires-clause-high c =
    let s = split c.args.last.now in
    let v = c.value.ensures in
    let low = c.requires.low in
    let high = c.requires.high in
    omega (arith, ints)

pub overflow_sub-value-else-is_weak : goal.overflow_sub-value-else-is_weak
overflow_sub-value-else-is_weak c =
    let s = split c.args.last.now in
    let v = c.value-else-is_weak.ensures in
    let low = c.requires.low in
    let high = c.requires.high in
    omega (arith, ints)

pub weak-requires-clause-low : goal.weak-requires-clause-low
weak-requires-clause-low c =
    let s = split c.args.last.now in
    let v = c.value-else-is_weak.ensures in
    let low = c.requires.low in
    let high = c.requires.high in
    omega (arith, ints)

pub weak-requires-clause-high : goal.weak-requires-clause-high
weak-requires-clause-high c =
    let s = split c.args.last.now in
    let v = c.value-else-is_weak.ensures in
    let low = c.requires.low in
    let high = c.requires.high in
    omega (arith, ints)

pub returns-then-is_weak : goal.returns-then-is_weak
returns-then-is_weak c =
    let s = split c.args.last.now in
    let v = c.value.ensures in
    let low = c.requires.low in
    let high = c.requires.high in
    let weak = c.if-is_weak.ensures.0 refl in
    let key = c.strict.ensures.key in
    omega (arith, ints)

pub returns-else-is_weak : goal.returns-else-is_weak
returns-else-is_weak c =
    let s = split c.args.last.now in
    let v = c.value-else-is_weak.ensures in
    let low = c.requires.low in
    let high = c.requires.high in
    let strict = not_weak c.args.last.now
    (λ one. true≢false (sym (c.if-is_weak.ensures.1 one))) in
    let key = c.weak.ensures.key in
    omega (arith, ints)
