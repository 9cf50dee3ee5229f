use Rattle.tre_syntax.proofs.CutMeaning.{crossing_repetition}
use Rattle.tre_syntax.proofs.cut.repetitions.Goals as goal

pub returns : goal.returns
returns c = λ tree cut a b n long some. crossing_repetition cut long.front tree a b n some
