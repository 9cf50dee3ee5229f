use Rattle.std.proofs.Common.{refl}
use Rattle.tre_compose.proofs.Joined.{composed-canonical}
use Rattle.tre_compose.proofs.Midpoints.{halfway, touch-exact, apart-never}
use Rattle.tre_compose.proofs.compose.Goals as goal

pub touch-requires-clause-first : goal.touch-requires-clause-first
touch-requires-clause-first c = rw c.bounds-before.ensures.same c.bounds-before.ensures.keys

pub touch-requires-clause-second : goal.touch-requires-clause-second
touch-requires-clause-second c = rw c.bounds-after.ensures.same c.bounds-after.ensures.keys

pub composed-requires-clause-first : goal.composed-requires-clause-first
composed-requires-clause-first c = rw c.bounds-before.ensures.same c.bounds-before.ensures.keys

pub composed-requires-clause-second : goal.composed-requires-clause-second
composed-requires-clause-second c = rw c.bounds-after.ensures.same c.bounds-after.ensures.keys

pub from_canonical-requires : goal.from_canonical-requires
from_canonical-requires c =
    let touch = rw (c.bounds-before.ensures.same, c.bounds-after.ensures.same)
    at (c.if-touch.ensures.0 refl) in
    rw (c.composed.ensures, c.bounds-before.ensures.same, c.bounds-after.ensures.same)
    (composed-canonical c.args.first.now c.args.second.now c.bounds-before.ensures.canonical
    c.bounds-after.ensures.canonical touch)

pub returns-then-touch-clause-pairs : goal.returns-then-touch-clause-pairs
returns-then-touch-clause-pairs c =
    let touch = rw (c.bounds-before.ensures.same, c.bounds-after.ensures.same)
    at (c.if-touch.ensures.0 refl) in
    rw (
      c.from_canonical.ensures,
      c.composed.ensures,
      c.bounds-before.ensures.same,
      c.bounds-after.ensures.same,
    )
    (touch-exact c.args.first.now c.args.second.now c.bounds-before.ensures.canonical
    c.bounds-after.ensures.canonical touch)

pub returns-then-touch-clause-halfway : goal.returns-then-touch-clause-halfway
returns-then-touch-clause-halfway c =
    let touch = rw (c.bounds-before.ensures.same, c.bounds-after.ensures.same)
    at (c.if-touch.ensures.0 refl) in
    rw (
      c.from_canonical.ensures,
      c.composed.ensures,
      c.bounds-before.ensures.same,
      c.bounds-after.ensures.same,
    )
    (halfway c.args.first.now c.args.second.now c.bounds-before.ensures.canonical
    c.bounds-after.ensures.canonical touch)

pub returns-else-touch-clause-pairs : goal.returns-else-touch-clause-pairs
returns-else-touch-clause-pairs c =
    apart-never c.args.first.now c.args.second.now
    (λ t.
    let e = c.if-touch.ensures.1 (rw (c.bounds-before.ensures.same, c.bounds-after.ensures.same) t)
    in
    (cc))
