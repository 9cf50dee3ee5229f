use Rattle.std.proofs.Common.{arith, refl}
use Rattle.tre_zone.specs.Zone.{IsInSpan}
use Rattle.tre_edges.specs.Piece.{end_of_piece}
use Rattle.tre_node.proofs.Lists.{zone_alike}
use Rattle.tre_node.proofs.SetsOf.{set_of}
use Rattle.tre_node.proofs.holding.hold_on.Goals as goal

pub returns : goal.returns
returns c =
    let T = c.args.piece.now.begin in
    let T' = end_of_piece c.args.piece.now in
    record {
      made = record { counts = refl; enters = refl };
      on = refl;
      found = rw (c.in_ok-push.ensures.items, c.clear.ensures.items)
          (set_of (zone_alike c.span.result (IsInSpan T T') (record { le = λ a b n h. let lasts = h.lasts in omega (arith, lasts) })
          c.span.ensures.held));
      told = rw c.deref.ensures.value at c.in_ok-put_onward.ensures;
      cut = c.cut_begun.ensures;
      idle = rw c.deref-2.ensures.value at c.has_begun-around.ensures;
    }

pub put_onward-requires : goal.put_onward-requires
put_onward-requires c = record { begun = rw c.deref.ensures.value c.requires.begun }
