use Rattle.tre_pairs.proofs.CutLaws.{Scales-Crossing}
use Rattle.tre_syntax.specs.Cut.{time_of, uncut}
use Rattle.tre_syntax.specs.Meaning.{MatchesRest}
use Rattle.tre_syntax.proofs.CutMeaning.{Scales-rest}
use Rattle.tre_syntax.proofs.cut.scaling.Goals as goal

pub returns : goal.returns
returns c = λ tree cut k a b n pos.
    let law =
    Scales-Crossing (time_of cut) (MatchesRest tree (uncut cut)) (Scales-rest tree (uncut cut))
    in
    (law.up k a b n pos, law.down k a b n pos)
