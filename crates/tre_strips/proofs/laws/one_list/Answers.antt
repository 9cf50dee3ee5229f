use Rattle.tre_strips.proofs.Answering.{one_list}
use Rattle.tre_strips.proofs.laws.one_list.Goals as goal

pub returns : goal.returns
returns c = one_list
