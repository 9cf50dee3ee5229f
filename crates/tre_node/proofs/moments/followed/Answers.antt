use Rattle.tre_node.proofs.AtMoments.{moments_exact, meet_canonical, meet_exact}
use Rattle.tre_node.proofs.moments.followed.Goals as goal

pub meet_at_moment-requires : goal.meet_at_moment-requires
meet_at_moment-requires c = rw c.bounds-before.ensures.same c.bounds-before.ensures.keys

pub followed_at-requires-clause-first : goal.followed_at-requires-clause-first
followed_at-requires-clause-first c = rw c.bounds-before.ensures.same c.bounds-before.ensures.keys

pub followed_at-requires-clause-second : goal.followed_at-requires-clause-second
followed_at-requires-clause-second c = rw c.bounds-after.ensures.same c.bounds-after.ensures.keys

pub from_canonical-requires : goal.from_canonical-requires
from_canonical-requires c =
    rw (c.followed_at.ensures, c.bounds-before.ensures.same, c.bounds-after.ensures.same)
    (meet_canonical c.args.first.now c.args.second.now c.bounds-before.ensures.canonical
    c.bounds-after.ensures.canonical
    (rw (c.bounds-before.ensures.same, c.bounds-after.ensures.same) at
    (c.meet_at_moment.ensures c.if-meet_at_moment.true)))

pub returns-then-are_moments_before : goal.returns-then-are_moments_before
returns-then-are_moments_before c =
    moments_exact c.args.first.now c.args.second.now c.bounds-before.ensures.canonical
    c.bounds-after.ensures.canonical
    (rw (c.bounds-before.ensures.same, c.bounds-after.ensures.same) at
    (c.are_moments_before.ensures c.if-are_moments_before.true))

pub returns-then-meet_at_moment : goal.returns-then-meet_at_moment
returns-then-meet_at_moment c =
    rw (
      c.from_canonical.ensures,
      c.followed_at.ensures,
      c.bounds-before.ensures.same,
      c.bounds-after.ensures.same,
    )
    (meet_exact c.args.first.now c.args.second.now c.bounds-before.ensures.canonical
    c.bounds-after.ensures.canonical
    (rw (c.bounds-before.ensures.same, c.bounds-after.ensures.same) at
    (c.meet_at_moment.ensures c.if-meet_at_moment.true)))

pub returns : goal.returns
returns c = c.compose.ensures.pairs
