use Rattle.std.proofs.Common.{refl}
use Rattle.tre_node.specs.Outer.{early_of}
use Rattle.tre_node.proofs.outer.early_of.Goals as goal

pub returns : goal.returns
unfolding early_of
returns c = rw (c.tighter.ensures, c.tighter-2.ensures, c.plus.ensures.key, c.plus-2.ensures.key) refl
