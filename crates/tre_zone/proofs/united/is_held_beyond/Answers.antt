use Rattle.std.proofs.Common.{◌^◌, rules}
use Rattle.tre_zone.specs.Beyond.{key_at}
use Rattle.tre_zone.proofs.Unions.{held-beyond, held-covered, cut-framed, cut-keys, key-within}
use Rattle.tre_zone.proofs.united.is_held_beyond.Goals as goal

pub returns-then-covers : goal.returns-then-covers
returns-then-covers c =
    search (rules, held-covered, c.args.side, c.args.whole.now, c.if-covers.ensures.0)

pub is_held-requires-clause-framed : goal.is_held-requires-clause-framed
is_held-requires-clause-framed c =
    rw c.cut_at.ensures
    (cut-framed c.args.side c.args.whole.now c.opposite.result c.requires.whole.framed)

pub is_held-requires-clause-keys : goal.is_held-requires-clause-keys
is_held-requires-clause-keys c =
    rw (c.cut_at.ensures, c.opposite.ensures, c.at-bound.ensures)
    (cut-keys c.args.side c.args.whole.now (key_at c.args.side c.args.one.now) c.requires.keys
    (key-within c.args.side (2 ^ 42) c.args.one.now c.requires.one))

pub returns : goal.returns
returns c =
    search (rules, held-beyond, c.args.side, c.args.whole.now, c.args.one.now, c.args.other.now)
