use Rattle.tre_syntax.proofs.AtomCuts.{crossing_event}
use Rattle.tre_syntax.proofs.cut.events.Goals as goal

pub returns : goal.returns
returns c = λ number cut a b n long some.
    crossing_event number cut.start cut.before cut.front cut.back long.front a b n some
