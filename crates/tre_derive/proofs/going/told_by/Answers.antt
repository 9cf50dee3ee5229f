use Rattle.std.proofs.Common.{subst}
use Rattle.tre_pairs.specs.Pairs.{Composed, Either}
use Rattle.tre_zone.specs.Held.{Held}
use Rattle.tre_zone.specs.ZoneList.{HoldExactly}
use Rattle.tre_node.specs.declared.node.Around.{Around}
use Rattle.tre_derive.proofs.going.told_by.Goals as goal

pub returns : goal.returns
returns c = record {
  looked = c.look.new.node;
  looks = c.in_ok-look.ensures;
  entered = c.in_ok-enter.ensures;
  holds = subst (λ (a : Around). HoldExactly c.in_ok-told.told (Either (Held a.ended.items)
      (Composed (Held c.args.entering.now) (Held a.inside.items)))) c.around.ensures
      c.in_ok-told.ensures;
}
