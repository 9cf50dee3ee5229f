use Rattle.tre_trace.specs.Trace.{end_of}
use Rattle.tre_syntax.specs.Rest.{AtomMatches}
use Rattle.tre_syntax.proofs.Atoms.{IsBounded-Atom, IsOrdered-Atom, IsInstant-Empty}
use Rattle.tre_syntax.proofs.MeaningLaws.{IsBounded-Meaning, IsOrdered-Meaning}
use Rattle.tre_syntax.proofs.laws.bounds.Goals as goal

pub returns : goal.returns
returns c = record {
  begin =
      λ tree rest.
      (IsBounded-Meaning (AtomMatches rest) rest.start (end_of rest.start rest.segments)
      (IsBounded-Atom rest) tree).begin;
  order =
      λ tree rest.
      (IsOrdered-Meaning (AtomMatches rest) (IsOrdered-Atom rest) (IsInstant-Empty rest) tree).le;
  end =
      λ tree rest.
      (IsBounded-Meaning (AtomMatches rest) rest.start (end_of rest.start rest.segments)
      (IsBounded-Atom rest) tree).end;
}
