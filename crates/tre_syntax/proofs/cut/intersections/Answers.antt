use Rattle.tre_pairs.proofs.CutLaws.{crossing_both}
use Rattle.tre_syntax.specs.Cut.{time_of, uncut}
use Rattle.tre_syntax.specs.Meaning.{MatchesRest}
use Rattle.tre_syntax.proofs.cut.intersections.Goals as goal

pub returns : goal.returns
returns c = λ left right cut a b n.
    crossing_both (time_of cut) (MatchesRest left (uncut cut)) (MatchesRest right (uncut cut))
    a b n
