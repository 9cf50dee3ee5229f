use Rattle.tre_node.proofs.SetsOf.{none_both}
use Rattle.tre_node.proofs.combining.meet_anew.Goals as goal

pub returns-then-is_one_none : goal.returns-then-is_one_none
returns-then-is_one_none c =
    none_both c.clear.ensures.items (c.is_one_none.ensures.0 c.if-is_one_none.true)
