use Rattle.std.proofs.Common.{◌≡◌, ◌+◌, min, pos, ◌+ℤ◌, ◌*ℤ◌, arith, rules}
use Rattle.std.proofs.lemmas.Int.{ints}
use Rattle.tre_pairs.specs.declared.TheConstants.{TIME_MAX}
use Rattle.tre_strips.proofs.StripZones.{HighMeans-strict, HighMeans-weak, same_flags}
use Rattle.tre_strips.proofs.strip_zone.high_bound.Goals as goal

pub returns-then-end-clause-meaning : goal.returns-then-end-clause-meaning
returns-then-end-clause-meaning c =
    let shown = c.shown.ensures in
    let key = c.weak-then-end.ensures.key in
    let is : c.weak-then-end.result
    ≡ (pos 2 *ℤ pos (min c.args.end.now.ticks (TIME_MAX + 1))) +ℤ pos 1 =
    omega (arith, ints) in
    HighMeans-weak c.weak-then-end.result c.args.end.now c.args.moves is
    (same_flags c.args.end.now.moves c.args.moves c.if-end-moves.false) c.if-end.true

pub returns-else-end-clause-meaning : goal.returns-else-end-clause-meaning
returns-else-end-clause-meaning c =
    let shown = c.shown-else-end.ensures in
    let key = c.strict.ensures.key in
    let is : c.strict.result ≡ pos 2 *ℤ pos (min c.args.end.now.ticks (TIME_MAX + 1)) =
    omega (arith, ints) in
    HighMeans-strict c.strict.result c.args.end.now c.args.moves is
    (same_flags c.args.end.now.moves c.args.moves c.if-end-moves.false) c.if-end.false

pub returns-then-end-clause-value : goal.returns-then-end-clause-value
returns-then-end-clause-value c = search (rules, c.shown.ensures, c.weak-then-end.ensures.value)

pub returns-else-end-clause-value : goal.returns-else-end-clause-value
returns-else-end-clause-value c = search (rules, c.shown-else-end.ensures, c.strict.ensures.value)
