use Rattle.tre_syntax.proofs.CutMeaning.{crossing_sequence}
use Rattle.tre_syntax.proofs.cut.sequences.Goals as goal

pub returns : goal.returns
returns c = λ left right cut a b n long some.
    crossing_sequence cut long.front left right a b n some
