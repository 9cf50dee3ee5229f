use Rattle.std.proofs.Common.{◌≡◌, ◌+◌, min, pos, neg_ℤ, ◌+ℤ◌, ◌*ℤ◌, arith, rules}
use Rattle.std.proofs.lemmas.Int.{ints}
use Rattle.tre_pairs.specs.declared.TheConstants.{TIME_MAX}
use Rattle.tre_strips.proofs.StripZones.{LowMeans-strict, LowMeans-weak, same_flags}
use Rattle.tre_strips.proofs.strip_zone.low_bound.Goals as goal

pub returns-then-end-clause-meaning : goal.returns-then-end-clause-meaning
returns-then-end-clause-meaning c =
    let shown = c.shown.ensures in
    let key = c.strict.ensures.key in
    let is : c.strict.result ≡ pos 2 *ℤ neg_ℤ (pos (min c.args.end.now.ticks (TIME_MAX + 1))) =
    omega (arith, ints) in
    LowMeans-strict c.strict.result c.args.end.now c.args.moves is
    (same_flags c.args.end.now.moves c.args.moves c.if-end-moves.false) c.if-end.true

pub returns-else-end-clause-meaning : goal.returns-else-end-clause-meaning
returns-else-end-clause-meaning c =
    let shown = c.shown-else-end.ensures in
    let key = c.weak-else-end.ensures.key in
    let is : c.weak-else-end.result
    ≡ (pos 2 *ℤ neg_ℤ (pos (min c.args.end.now.ticks (TIME_MAX + 1)))) +ℤ pos 1 =
    omega (arith, ints) in
    LowMeans-weak c.weak-else-end.result c.args.end.now c.args.moves is
    (same_flags c.args.end.now.moves c.args.moves c.if-end-moves.false) c.if-end.false

pub returns-then-end-clause-value : goal.returns-then-end-clause-value
returns-then-end-clause-value c = search (rules, c.shown.ensures, c.strict.ensures.value)

pub returns-else-end-clause-value : goal.returns-else-end-clause-value
returns-else-end-clause-value c =
    search (rules, c.shown-else-end.ensures, c.weak-else-end.ensures.value)
