use Rattle.std.proofs.Common.{sym, subst}
use Rattle.tre_state.specs.declared.names.TheConstants.{NAMES_MAX}
use Rattle.tre_syntax.specs.PatternTree.{PatternTree, NumbersBelow}
use Rattle.tests_matching.proofs.forms.joined.Goals as goal

pub returns : goal.returns
returns c time =
    c.at.ensures.well time (record {
      well = subst (λ (tree : PatternTree). NumbersBelow NAMES_MAX tree)
          (sym c.in_ok-expr.ensures.same) c.requires;
    })
