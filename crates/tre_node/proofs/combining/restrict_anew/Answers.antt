use Rattle.tre_node.proofs.SetsOf.{none_lasting}
use Rattle.tre_node.proofs.combining.restrict_anew.Goals as goal

pub returns-then-is_none : goal.returns-then-is_none
returns-then-is_none c =
    none_lasting _ c.clear.ensures.items (c.is_none.ensures.0 c.if-is_none.true)
