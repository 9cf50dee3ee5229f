use Rattle.tre_text.proofs.Naming.{among-is}
use Rattle.tre_text.proofs.laws.naming.Goals as goal

pub returns : goal.returns
returns c = among-is
