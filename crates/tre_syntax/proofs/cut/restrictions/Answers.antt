use Rattle.tre_pairs.proofs.CutLaws.{crossing_lasting}
use Rattle.tre_syntax.specs.Cut.{time_of, uncut}
use Rattle.tre_syntax.specs.Meaning.{MatchesRest}
use Rattle.tre_zone.specs.Interval.{LastsWithin}
use Rattle.tre_syntax.proofs.cut.restrictions.Goals as goal

pub returns : goal.returns
returns c = λ tree ends cut a b n.
    crossing_lasting (time_of cut) (LastsWithin ends) (MatchesRest tree (uncut cut)) a b n
