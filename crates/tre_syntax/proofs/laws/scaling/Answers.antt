use Rattle.tre_syntax.specs.Rest.{AtomMatches, whole}
use Rattle.tre_syntax.proofs.Atoms.{Scales-Atom}
use Rattle.tre_syntax.proofs.MeaningLaws.{Scales-Meaning}
use Rattle.tre_syntax.proofs.laws.scaling.Goals as goal

pub returns : goal.returns
returns c = record {
  rest = λ tree rest k a b n pos. let law =
      Scales-Meaning (AtomMatches rest) (Scales-Atom rest) tree in
      (law.up k a b n pos, law.down k a b n pos);
  whole = λ tree trace k a b n pos.
      let law = Scales-Meaning (AtomMatches (whole trace)) (Scales-Atom (whole trace)) tree in
      (law.up k a b n pos, law.down k a b n pos);
}
