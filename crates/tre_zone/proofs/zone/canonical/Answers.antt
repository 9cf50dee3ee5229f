use Rattle.std.proofs.Common.{◌^◌, arith, rules}
use Rattle.tre_zone.proofs.Closing.{holds-loops}
use Rattle.tre_zone.proofs.Tightness.{keys-wider}
use Rattle.tre_zone.proofs.zone.canonical.Goals as goal

pub leaves_room-requires : goal.leaves_room-requires
leaves_room-requires c = keys-wider (2 ^ 45) (2 ^ 47) (omega arith) _ c.requires.keys

pub returns-then-not-leaves_room : goal.returns-then-not-leaves_room
returns-then-not-leaves_room c =
    search (rules, holds-loops, c.if-not-leaves_room.ensures.1, c.args.bounds.now)
