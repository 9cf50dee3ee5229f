use Rattle.std.proofs.Common.{◌+◌, ◌*◌, refl, arith, pos, ◌-ℤ◌}
use Rattle.std.proofs.lemmas.Int.{ints}
use Rattle.tre_edges.proofs.SpansWithin.{cut-canonical, cut-exact, cut-never}
use Rattle.tre_edges.proofs.span_within.span_within.Goals as goal

pub from_canonical-requires : goal.from_canonical-requires
from_canonical-requires c =
    rw (c.plus-2.ensures.key, c.plus-3.ensures.key)
    (cut-canonical c.args.begin c.args.end c.weak-from.result c.weak-to.result
    c.least_of-low.result c.most_of-high.result c.requires.limit
    (omega (arith, ints, c.weak-from.ensures.key)) (omega (arith, ints, c.weak-to.ensures.key))
    c.least_of-low.ensures.rising c.most_of-high.ensures.high c.requires.rising
    (omega (arith, ints, c.if-key-lt1.false, c.key.ensures, c.plus.ensures.key)))

pub returns-then-key-lt1 : goal.returns-then-key-lt1
returns-then-key-lt1 c =
    cut-never c.args.begin c.args.end (pos 1 -ℤ pos (2 * c.args.begin)) (pos (2 * c.args.end + 1))
    c.least_of-low.result c.most_of-high.result c.args.interval.now refl refl c.requires.rising
    c.least_of-low.ensures.meaning c.most_of-high.ensures.meaning
    (λ room. omega (arith, ints, room, c.if-key-lt1.true, c.key.ensures, c.plus.ensures.key))

pub returns : goal.returns
returns c =
    rw (c.from_canonical.ensures, c.plus-2.ensures.key, c.plus-3.ensures.key)
    (cut-exact c.args.begin c.args.end c.weak-from.result c.weak-to.result
    c.least_of-low.result c.most_of-high.result c.args.interval.now
    (omega (arith, ints, c.weak-from.ensures.key)) (omega (arith, ints, c.weak-to.ensures.key))
    c.requires.rising c.least_of-low.ensures.meaning c.most_of-high.ensures.meaning)
