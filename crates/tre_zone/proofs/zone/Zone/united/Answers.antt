use Rattle.std.proofs.Common.{rules}
use Rattle.tre_zone.proofs.Unions.{looser-canonical, union-exact, union-all}
use Rattle.tre_zone.proofs.zone.Zone.united.Goals as goal

pub from_canonical-whole-requires : goal.from_canonical-whole-requires
from_canonical-whole-requires c =
    rw (c.looser-whole.ensures, c.bounds-one.ensures.same, c.bounds.ensures.same)
    (looser-canonical c.args.self.now c.args.other.now c.bounds-one.ensures.canonical
    c.bounds.ensures.canonical)

pub returns-then-are_held_beyond : goal.returns-then-are_held_beyond
returns-then-are_held_beyond c =
    search (rules, union-exact, c.if-are_held_beyond.ensures.0, c.args.self.now, c.args.other.now)

pub returns-else-are_held_beyond : goal.returns-else-are_held_beyond
returns-else-are_held_beyond c =
    search (rules, union-all, c.args.self.now, c.args.other.now, c.bounds.ensures.canonical)
