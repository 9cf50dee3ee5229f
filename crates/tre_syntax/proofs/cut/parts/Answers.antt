use Rattle.tre_syntax.specs.Cut.{time_of, uncut, MatchesBefore, MatchesBehind, front_of}
use Rattle.tre_syntax.specs.Meaning.{MatchesRest}
use Rattle.tre_syntax.specs.Rest.{AtomMatches}
use Rattle.tre_pairs.proofs.CutLaws.{cut_parts}
use Rattle.tre_syntax.proofs.Atoms.{IsOrdered-Atom, IsInstant-Empty}
use Rattle.tre_syntax.proofs.CutMeaning.{IsCut-Matches}
use Rattle.tre_syntax.proofs.Growth.{ImpliesBefore-cut}
use Rattle.tre_syntax.proofs.MeaningLaws.{ImpliesBefore-Meaning}
use Rattle.tre_syntax.proofs.cut.parts.Goals as goal

pub returns : goal.returns
returns c = record {
  all = λ tree cut a b n long some.
      cut_parts (time_of cut) (MatchesRest tree (uncut cut)) (MatchesBefore tree cut)
      (MatchesBehind tree cut) (IsCut-Matches cut long.front tree) a b n some;
  before = λ tree cut a b n early h.
      (ImpliesBefore-Meaning (AtomMatches (uncut cut)) (AtomMatches (front_of cut)) (time_of cut)
      (IsOrdered-Atom (uncut cut)) (IsInstant-Empty (uncut cut))
      (ImpliesBefore-cut cut.start cut.before cut.front cut.back) tree).at a b n early h;
  behind = λ tree cut a b n long some late h.
      (IsCut-Matches cut long.front tree).late.at a b n some late h;
}
