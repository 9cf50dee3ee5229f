use Rattle.std.proofs.Common.{◌≡◌, ◌*◌, ◌+◌, refl, arith, pos, ◌-ℤ◌}
use Rattle.std.proofs.lemmas.Int.{ints}
use Rattle.tre_zone.proofs.ZoneKeys.{zones_same}
use Rattle.tre_node.specs.NodeTree.{stretch_zone}
use Rattle.tre_node.proofs.holding.ends_at.Goals as goal

pub returns : goal.returns
unfolding stretch_zone
returns c =
    let low : c.weak-low.result ≡ pos 1 -ℤ pos (2 * c.args.time) =
    omega (arith, ints, c.weak-low.ensures.key, c.requires.limit) in
    let high : c.weak-high.result ≡ pos (2 * c.args.time + 1) =
    omega (arith, ints, c.weak-high.ensures.key, c.requires.limit) in
    zones_same _ _ refl refl low high (rw low at c.plus.ensures.key)
    (rw high at c.plus-2.ensures.key)
