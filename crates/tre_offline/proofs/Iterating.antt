-- One or more times, one or more times, is one or more times.
use Rattle.std.proofs.Common.{ℕ, ◌*◌, ◌↔◌, ⊎_elim, inl, refl, arith}
use Rattle.tre_pairs.specs.Pairs.{Pairs, Composed, Either, Chain}
use Rattle.tre_pairs.proofs.Laws.{Scales, IsInstant, Implies}
use Rattle.tre_pairs.proofs.Scaling.{Scales-Chain}
use Rattle.tre_pairs.proofs.Implication.{Implies-Composed, Implies-Chain}
use Rattle.tre_pairs.proofs.Chains.{Composed-at, Composed-assoc_right, Chain-none, Chain-one, Chain-join, Chain-step, Chain-cases, Chain-flat}
use Rattle.tre_trace.specs.Trace.{end_of}
use Rattle.tre_syntax.specs.Meaning.{MatchesRest}
use Rattle.tre_syntax.specs.PatternTree.{PatternTree, atom, empty, sequence, alternation, repetition}
use Rattle.tre_syntax.specs.Rest.{Rest, AtomMatches, EmptyMatches}
use Rattle.tre_syntax.proofs.Atoms.{Scales-Atom, IsBounded-Atom, IsOrdered-Atom, IsInstant-Empty}
use Rattle.tre_syntax.proofs.MeaningLaws.{Scales-Meaning, IsBounded-Meaning, IsOrdered-Meaning}

-- Where the end of each chain is in range.
module _ (R E : Pairs) (r : Scales R) (e : Scales E) (same : IsInstant E)
    (ends : (a b n : ℕ) → Chain R E a b n → E b b n) where
  abbrev Once : Pairs
  Once = Composed R (Chain R E)

  Implies-same : (S : Pairs) → Implies S S
  Implies-same S = record { at = λ a b n h. h }

  Implies-step : Implies Once (Chain R E)
  Implies-step = record { at = Chain-step R E r e }

  flat : Implies (Chain Once E) (Chain R E)
  flat = record {
    at = λ a b n h. Chain-flat R E r e same a b n
        ((Implies-Chain Once (Chain R E) E E Implies-step (Implies-same E)).at a b n h);
  }

  joined : Implies (Composed (Chain R E) (Chain R E)) (Chain R E)
  joined = record {
    at = λ a b n h. (Scales-Chain R E r e).down h.factor a b n h.positive
        (Chain-join R E r e same (h.factor * a) h.midpoint (h.factor * b) (h.factor * n) h.left
        h.right);
  }

  -- any number of these is any number of steps
  pub Chain-once : (a b n : ℕ) → Chain Once E a b n ↔ Chain R E a b n
  Chain-once a b n = (
    flat.at a b n,
    λ h. ⊎_elim (Chain-none Once E a b n)
        (λ more. Chain-one Once E a b n more (ends a b n h)) (Chain-cases R E e a b n h),
  )

  -- and at least one of these is at least one step
  pub Composed-once : (a b n : ℕ) → Composed Once (Chain Once E) a b n ↔ Once a b n
  Composed-once a b n = (
    λ h. (Implies-Composed R R (Composed (Chain R E) (Chain R E)) (Chain R E) (Implies-same R)
        joined).at a b n
        (Composed-assoc_right R (Chain R E) (Chain R E) (Scales-Chain R E r e) a b n
        ((Implies-Composed Once Once (Chain Once E) (Chain R E) (Implies-same Once) flat).at
        a b n h)),
    λ h. Composed-at Once (Chain Once E) a b b n h
        (Chain-none Once E b b n (ends a b n (Chain-step R E r e a b n h))),
  )

-- the end of a match is a moment of the rest
pub ends_within : (tree : PatternTree) (rest : Rest) (a b n : ℕ) → MatchesRest tree rest a b n
    → EmptyMatches rest b b n
ends_within tree rest a b n h =
    let bounds = IsBounded-Meaning (AtomMatches rest) rest.start (end_of rest.start rest.segments)
    (IsBounded-Atom rest) tree in
    let order = IsOrdered-Meaning (AtomMatches rest) (IsOrdered-Atom rest) (IsInstant-Empty rest)
    tree in
    record {
      begin = omega (arith, bounds.begin a b n h, order.le a b n h);
      same = refl;
      end = bounds.end a b n h;
    }

module _ (e : PatternTree) (rest : Rest) where
  scales : Scales (MatchesRest e rest)
  scales = Scales-Meaning (AtomMatches rest) (Scales-Atom rest) e

  pub repetition_once : (a b n : ℕ)
      → MatchesRest (repetition (sequence e (repetition e))) rest a b n
      ↔ MatchesRest (repetition e) rest a b n
  repetition_once a b n = Chain-once (MatchesRest e rest) (EmptyMatches rest) scales
      (Scales-Atom rest empty) (IsInstant-Empty rest) (ends_within (repetition e) rest) a b n

  pub sequence_once : (a b n : ℕ)
      → MatchesRest (sequence (sequence e (repetition e))
      (repetition (sequence e (repetition e)))) rest a b n
      ↔ MatchesRest (sequence e (repetition e)) rest a b n
  sequence_once a b n = Composed-once (MatchesRest e rest) (EmptyMatches rest) scales
      (Scales-Atom rest empty) (IsInstant-Empty rest) (ends_within (repetition e) rest) a b n

  option : Implies (Either (MatchesRest e rest) (EmptyMatches rest)) (MatchesRest (repetition e) rest)
  option = record {
    at = λ a b n. ⊎_elim
        (λ h. Chain-one (MatchesRest e rest) (EmptyMatches rest) a b n h
        (ends_within e rest a b n h))
        (Chain-none (MatchesRest e rest) (EmptyMatches rest) a b n);
  }

  -- any number of times a match or the empty stretch is any number of matches
  pub repetition_option : (a b n : ℕ)
      → MatchesRest (repetition (alternation e (atom empty))) rest a b n
      ↔ MatchesRest (repetition e) rest a b n
  repetition_option a b n = (
    λ h. Chain-flat (MatchesRest e rest) (EmptyMatches rest) scales (Scales-Atom rest empty)
        (IsInstant-Empty rest) a b n
        ((Implies-Chain (Either (MatchesRest e rest) (EmptyMatches rest))
        (MatchesRest (repetition e) rest) (EmptyMatches rest) (EmptyMatches rest) option
        (record { at = λ a b n x. x })).at a b n h),
    λ h. (Implies-Chain (MatchesRest e rest) (Either (MatchesRest e rest) (EmptyMatches rest))
        (EmptyMatches rest) (EmptyMatches rest) (record { at = λ a b n x. inl x })
        (record { at = λ a b n x. x })).at a b n h,
  )
