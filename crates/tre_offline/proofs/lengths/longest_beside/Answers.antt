use Rattle.tre_syntax.specs.Meaning.{MatchesRest}
use Rattle.tre_offline.proofs.LastingUpTo.{LastUpTo-exact}
use Rattle.tre_offline.proofs.lengths.longest_beside.Goals as goal

pub returns-then-is_atom-clause-all : goal.returns-then-is_atom-clause-all
returns-then-is_atom-clause-all c = λ tree rest exact.
    LastUpTo-exact c.args.longest c.args.set.now (MatchesRest tree rest) exact
