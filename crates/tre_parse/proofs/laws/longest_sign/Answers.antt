use Rattle.tre_parse.proofs.Table.{longest, only_signs}
use Rattle.tre_parse.proofs.laws.longest_sign.Goals as goal

pub returns : goal.returns
returns c = record { longest = longest; only = only_signs }
