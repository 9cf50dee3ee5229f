use Rattle.std.proofs.Common.{subst, sym}
use Rattle.tre_node.specs.declared.node.Stretch.{Stretch}
use Rattle.tre_node.specs.Telling.{IsTooLong}
use Rattle.tre_node.proofs.BegunAt.{some_stretch}
use Rattle.tre_node.proofs.holding.is_first_too_old.Goals as goal

pub returns-then-not-is_empty : goal.returns-then-not-is_empty
returns-then-not-is_empty c said = record {
  some = some_stretch c.args.begun.now c.is_empty.result c.is_empty.ensures c.if-not-is_empty.true;
  stretch = c.index-begun-0.result;
  is = c.index-begun-0.is;
  old = subst (λ (s : Stretch). IsTooLong c.args.longest c.args.time s.high)
      (sym c.index-begun-0.is) (c.is_too_old.ensures said);
}
