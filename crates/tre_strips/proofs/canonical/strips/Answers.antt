use Rattle.tre_strips.proofs.Answering.{AreStrips-found, AreListed-found, HoldExactly-found}
use Rattle.tre_strips.proofs.Trimming.{HaveSamePairs-exact, HaveSamePairs-trans}
use Rattle.tre_strips.proofs.canonical.strips.Goals as goal

pub in_turn-zones-requires : goal.in_turn-zones-requires
in_turn-zones-requires c = c.in_ok-fewer.ensures.canonical

pub returns : goal.returns
returns c =
    let canonical = c.zones.ensures.set.canonical in
    let fewer = HaveSamePairs-exact c.args.set.now c.in_ok-fewer.fewer.items canonical
    c.in_ok-fewer.ensures.canonical (rw c.zones.ensures.same at c.in_ok-fewer.ensures.held) in
    let same = HaveSamePairs-trans c.args.set.now c.in_ok-fewer.fewer.items
    c.in_turn-zones.result.items fewer c.in_turn-zones.ensures.same in
    let found = c.in_ok-found.ensures c.args.set.now canonical
    (rw c.deref.ensures.value same) in
    record {
      strips = AreStrips-found c.args.set.now canonical c.in_ok-found.found.items _ found
          c.in_order.ensures.same;
      listed = AreListed-found c.args.set.now canonical c.in_ok-found.found.items _ found
          c.in_order.ensures.same c.in_order.ensures.order;
      held = HoldExactly-found c.args.set.now c.in_ok-found.found.items _ found
          c.in_order.ensures.same;
    }
