use Rattle.tre_decimal.proofs.Written.{read_back}
use Rattle.tre_decimal.proofs.laws.written_is_read.Goals as goal

pub returns : goal.returns
returns c = read_back
