use Rattle.std.proofs.Common.{arith, refl}
use Rattle.tre_index.proofs.Turns.{AreInTurn-same, AreInTurn-fewer}
use Rattle.tre_index.proofs.turn.are_in_turn.Goals as goal

pub returns-then-count-items : goal.returns-then-count-items
returns-then-count-items g c = (
  (λ t. absurd (cc)),
  (λ turn. absurd (AreInTurn-fewer g.T.HasRow.row_of c.args.items.now c.count_in_turn-count.result
      c.if-count-items.true (c.count_in_turn-count.ensures.most c.if-count-items.true) turn)),
)

pub returns : goal.returns
returns g c = (
  (λ t. AreInTurn-same g.T.HasRow.row_of c.args.items.now c.count_in_turn-count.result
      (omega (arith, c.if-count-items.false, c.count_in_turn-count.ensures.within))
      c.count_in_turn-count.ensures.turn),
  (λ turn. refl),
)
