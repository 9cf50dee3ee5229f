use Rattle.tre_answer.proofs.Said.{both_ways}
use Rattle.tre_answer.proofs.laws.both_ways.Goals as goal

pub returns : goal.returns
returns c = both_ways
