use Rattle.tre_compose.specs.Begins.{begins_of}
use Rattle.tre_compose.proofs.Midpoints.{begins-canonical, begins-exact}
use Rattle.tre_compose.proofs.begins.Goals as goal

pub from_canonical-requires : goal.from_canonical-requires
unfolding begins_of
from_canonical-requires c =
    rw (c.weak-zero.ensures.key, c.bounds-bounds.ensures.same)
    (begins-canonical c.args.zone.now c.bounds-bounds.ensures.canonical)

pub returns : goal.returns
unfolding begins_of
returns c =
    rw (c.from_canonical.ensures, c.weak-zero.ensures.key, c.bounds-bounds.ensures.same)
    (begins-exact c.args.zone.now c.bounds-bounds.ensures.canonical)
