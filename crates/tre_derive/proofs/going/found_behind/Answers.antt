use Rattle.std.proofs.lemmas.Result.{IfOk-weaker}
use Rattle.tre_pairs.specs.Pairs.{Composed}
use Rattle.tre_zone.specs.Held.{Held}
use Rattle.tre_derive.proofs.Held.{held_composed, held_exactly, same_set}
use Rattle.tre_derive.proofs.going.found_behind.Goals as goal

pub returns : goal.returns
returns c =
    let first = c.args.first.now in
    let second = c.args.second.now in
    let one = c.in_ok-first.first in
    let other = c.in_ok-second.second in
    IfOk-weaker c.composed.result _ _
    (λ found composed.
    held_exactly found (Composed (Held first) (Held second))
    (held_composed one other found (Held first) (Held second) composed
    (same_set one first c.in_ok-first.ensures) (same_set other second c.in_ok-second.ensures)))
    c.composed.ensures
