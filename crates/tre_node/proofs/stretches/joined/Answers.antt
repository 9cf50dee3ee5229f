use Rattle.std.proofs.Common.{refl}
use Rattle.tre_node.proofs.Begins.{of_both}
use Rattle.tre_node.proofs.stretches.joined.Goals as goal

pub returns : goal.returns
returns c =
    of_both c.args.one.now c.args.other.now _ (c.if-not-goes_on_as.ensures refl) refl c.later.ensures
