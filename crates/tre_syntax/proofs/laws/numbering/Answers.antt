use Rattle.tre_syntax.specs.PatternTree.{numbers_of}
use Rattle.tre_syntax.proofs.FirstUses.{in_order_iff}
use Rattle.tre_syntax.proofs.laws.numbering.Goals as goal

pub returns : goal.returns
returns c = λ kind tree count. in_order_iff (numbers_of kind tree) count
