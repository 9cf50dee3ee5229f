use Rattle.std.proofs.Common.{ap, sym, subst}
use Rattle.tre_state.specs.StateTree.{StateTree}
use Rattle.tre_state.specs.declared.names.TheConstants.{NAMES_MAX}
use Rattle.tre_syntax.specs.PatternTree.{NumbersBelow, fall, atom}
use Rattle.tre_node.proofs.NewNodes.{parts_new}
use Rattle.tre_node.proofs.making.make_fall.Goals as goal

pub returns : goal.returns
returns c =
    let same = c.in-Ok.ensures.same in
    parts_new c.requires.longest c.around.ensures
    (subst (λ (t : StateTree). NumbersBelow NAMES_MAX (atom (fall t))) (sym same)
    c.requires.numbers)
    (ap (λ t. atom (fall t)) same)
