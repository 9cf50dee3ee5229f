use Rattle.std.proofs.Common.{arith}
use Rattle.std.proofs.lemmas.Int.{ints}
use Rattle.tre_node.proofs.Early.{early_canonical, early_exact, early_all, early_none, end_within}
use Rattle.tre_node.proofs.outer.ending_before.Goals as goal

pub returns-then-key : goal.returns-then-key
returns-then-key c =
    early_all c.args.zone.now c.args.time c.strict-end.result (omega (arith, ints, c.strict-end.ensures.key, c.requires))
    (rw (← c.bounds-bounds.ensures.same) (omega (arith, ints)))

pub plus-requires-clause-others : goal.plus-requires-clause-others
plus-requires-clause-others c = record {
  low = omega (arith, ints, c.strict-end.ensures.key, c.requires);
  high = omega (arith, ints, c.strict-end.ensures.key, c.requires);
}

pub returns-then-key-lt1 : goal.returns-then-key-lt1
returns-then-key-lt1 c =
    early_none c.args.zone.now c.args.time c.strict-end.result (omega (arith, ints, c.strict-end.ensures.key, c.requires))
    (rw (← c.bounds-bounds.ensures.same) (omega (arith, ints)))

pub from_canonical-requires : goal.from_canonical-requires
from_canonical-requires c =
    rw (c.early_of.ensures, c.bounds-bounds.ensures.same)
    (early_canonical c.args.zone.now c.bounds-bounds.ensures.canonical c.strict-end.result
    (rw (← c.bounds-bounds.ensures.same) (omega (arith, ints)))
    (rw (← c.bounds-bounds.ensures.same) (omega (arith, ints)))
    (end_within c.args.zone.now c.args.time c.strict-end.result (omega (arith, ints, c.strict-end.ensures.key, c.requires)) c.requires))

pub returns : goal.returns
returns c =
    rw (c.from_canonical.ensures, c.early_of.ensures, c.bounds-bounds.ensures.same)
    (early_exact c.args.zone.now c.args.time c.strict-end.result (omega (arith, ints, c.strict-end.ensures.key, c.requires))
    (rw (← c.bounds-bounds.ensures.same) (omega (arith, ints))))
