use Rattle.tre_pairs.proofs.Chains.{Composed-assoc}
use Rattle.tre_syntax.specs.Meaning.{MatchesRest}
use Rattle.tre_syntax.specs.Rest.{AtomMatches}
use Rattle.tre_syntax.proofs.Atoms.{Scales-Atom}
use Rattle.tre_syntax.proofs.MeaningLaws.{Scales-Meaning}
use Rattle.tre_syntax.proofs.laws.grouping.Goals as goal

pub returns : goal.returns
returns c = λ e f g rest a b n.
    let law = Scales-Meaning (AtomMatches rest) (Scales-Atom rest) in
    Composed-assoc (MatchesRest e rest) (MatchesRest f rest) (MatchesRest g rest) (law e)
    (law g) a b n
