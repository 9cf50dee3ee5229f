use Rattle.tre_mark.proofs.NodeCounts.{shaped, limited, forms_below}
use Rattle.tre_mark.proofs.laws.nodes.Goals as goal

pub returns-clause-limit : goal.returns-clause-limit
returns-clause-limit c time mark tree well = limited time mark tree well.well

pub returns-clause-exact : goal.returns-clause-exact
returns-clause-exact c time mark tree well none = shaped time mark tree well.well none

pub returns-clause-bound : goal.returns-clause-bound
returns-clause-bound c tree = forms_below tree
