-- What a repetition is, by its first step, and that a repetition of one is the same.
use Rattle.std.proofs.Common.{ℕ, ◌↔◌, ⊎_elim, refl, arith}
use Rattle.tre_pairs.proofs.Chains.{Chain-none, Chain-step, Chain-cases, Chain-Chain}
use Rattle.tre_trace.specs.Trace.{end_of}
use Rattle.tre_syntax.specs.Meaning.{MatchesRest}
use Rattle.tre_syntax.specs.PatternTree.{PatternTree, atom, empty, sequence, alternation, repetition}
use Rattle.tre_syntax.specs.Rest.{Rest, AtomMatches, EmptyMatches}
use Rattle.tre_syntax.proofs.Atoms.{Scales-Atom, IsBounded-Atom, IsOrdered-Atom, IsInstant-Empty}
use Rattle.tre_syntax.proofs.MeaningLaws.{Scales-Meaning, IsBounded-Meaning, IsOrdered-Meaning}

pub repetition_steps : (e : PatternTree) (rest : Rest) (a b n : ℕ)
    → MatchesRest (repetition e) rest a b n
    ↔ MatchesRest (alternation (atom empty) (sequence e (repetition e))) rest a b n
repetition_steps e rest a b n =
    let step = MatchesRest e rest in
    let moment = EmptyMatches rest in
    let scales = Scales-Meaning (AtomMatches rest) (Scales-Atom rest) e in (
      Chain-cases step moment (Scales-Atom rest empty) a b n,
      ⊎_elim (Chain-none step moment a b n)
          (Chain-step step moment scales (Scales-Atom rest empty) a b n),
    )

-- the end of a repetition is a moment of the rest
ends_within : (e : PatternTree) (rest : Rest) (a b n : ℕ) → MatchesRest (repetition e) rest a b n
    → EmptyMatches rest b b n
ends_within e rest a b n h =
    let bounds = IsBounded-Meaning (AtomMatches rest) rest.start (end_of rest.start rest.segments)
    (IsBounded-Atom rest) (repetition e) in
    let order = IsOrdered-Meaning (AtomMatches rest) (IsOrdered-Atom rest) (IsInstant-Empty rest)
    (repetition e) in
    record {
      begin = omega (arith, bounds.begin a b n h, order.le a b n h);
      same = refl;
      end =
          bounds.end a b n h;
    }

pub repetition_nested : (e : PatternTree) (rest : Rest) (a b n : ℕ)
    → MatchesRest (repetition (repetition e)) rest a b n ↔ MatchesRest (repetition e) rest a b n
repetition_nested e rest a b n =
    Chain-Chain (MatchesRest _ _) (EmptyMatches _) (Scales-Meaning (AtomMatches _) (Scales-Atom _)
    _) (Scales-Atom _ empty) (IsInstant-Empty _) (ends_within _ _) _ _ _
