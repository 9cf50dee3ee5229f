-- A law that every atom keeps, every expression keeps.
use Rattle.std.proofs.Common.{ℕ, ◌*◌, ◌<◌, ◌≤◌, Bool, true, false, Option, Some, None}
use Rattle.std.specs.Prelude.{MatchBool, MatchOption}
use Rattle.tre_pairs.specs.Pairs.{Pairs}
use Rattle.tre_pairs.proofs.Laws.{Scales, DurationScales, IsOrdered, IsInstant, IsBounded, Implies, ImpliesBefore}
use Rattle.tre_pairs.proofs.Scaling.{Scales-Composed, Scales-Either, Scales-Both, Scales-Lasting, Scales-Chain}
use Rattle.tre_pairs.proofs.Order.{IsOrdered-Composed, IsOrdered-Either, IsOrdered-Both, IsOrdered-Lasting, IsOrdered-Chain, IsBounded-Composed, IsBounded-Either, IsBounded-Both, IsBounded-Lasting, IsBounded-Chain}
use Rattle.tre_pairs.proofs.Implication.{Implies-Composed, Implies-Either, Implies-Both, Implies-Lasting, Implies-Chain, ImpliesBefore-Composed, ImpliesBefore-Either, ImpliesBefore-Both, ImpliesBefore-Lasting, ImpliesBefore-Chain}
use Rattle.tre_pairs.proofs.Ticks.{le_up, le_down, ge_up, ge_down, lt_up, lt_down, gt_up, gt_down}
use Rattle.tre_zone.specs.Interval.{IntervalEnds, LastsWithin}
use Rattle.tre_syntax.specs.PatternTree.{Atom, PatternTree, empty, atom, sequence, alternation, intersection, repetition, restriction}
use Rattle.tre_syntax.specs.Meaning.{Meaning}

-- an end of an interval, compared with a duration under a finer name
low_up : (weak : Bool) (low k d n : ℕ) → 0 < k → MatchBool weak (low * n ≤ d) (low * n < d)
    → MatchBool weak (low * (k * n) ≤ k * d) (low * (k * n) < k * d)
low_up true low k d n pos h = le_up k low d n h
low_up false low k d n pos h = lt_up k low d n pos h

low_down : (weak : Bool) (low k d n : ℕ) → 0 < k
    → MatchBool weak (low * (k * n) ≤ k * d) (low * (k * n) < k * d)
    → MatchBool weak (low * n ≤ d) (low * n < d)
low_down true low k d n pos h = le_down k low d n pos h
low_down false low k d n pos h = lt_down k low d n h

high_up : (weak : Bool) (high k d n : ℕ) → 0 < k → MatchBool weak (d ≤ high * n) (d < high * n)
    → MatchBool weak (k * d ≤ high * (k * n)) (k * d < high * (k * n))
high_up true high k d n pos h = ge_up k high d n h
high_up false high k d n pos h = gt_up k high d n pos h

high_down : (weak : Bool) (high k d n : ℕ) → 0 < k
    → MatchBool weak (k * d ≤ high * (k * n)) (k * d < high * (k * n))
    → MatchBool weak (d ≤ high * n) (d < high * n)
high_down true high k d n pos h = ge_down k high d n pos h
high_down false high k d n pos h = gt_down k high d n h

top_up : (high : Option ℕ) (weak : Bool) (k d n : ℕ) → 0 < k
    → MatchOption high (Unit {0}) (λ h. MatchBool weak (d ≤ h * n) (d < h * n))
    → MatchOption high (Unit {0}) (λ h. MatchBool weak (k * d ≤ h * (k * n)) (k * d < h * (k * n)))
top_up None weak k d n pos h = tt
top_up (Some high) weak k d n pos h = high_up weak high k d n pos h

top_down : (high : Option ℕ) (weak : Bool) (k d n : ℕ) → 0 < k
    → MatchOption high (Unit {0}) (λ h. MatchBool weak (k * d ≤ h * (k * n)) (k * d < h * (k * n)))
    → MatchOption high (Unit {0}) (λ h. MatchBool weak (d ≤ h * n) (d < h * n))
top_down None weak k d n pos h = tt
top_down (Some high) weak k d n pos h = high_down weak high k d n pos h

-- what an interval admits is a duration, and not the numbers that name it
pub DurationScales-LastsWithin : (ends : IntervalEnds) → DurationScales (LastsWithin ends)
DurationScales-LastsWithin ends = record {
  up = λ k d n pos h. (
    low_up ends.low_weak ends.low k d n pos h.0,
    top_up ends.high ends.high_weak k d n pos h.1,
  );
  down = λ k d n pos h. (
    low_down ends.low_weak ends.low k d n pos h.0,
    top_down ends.high ends.high_weak k d n pos h.1,
  );
}

module _ (reading : Atom → Pairs) where
  pub Scales-Meaning : ((x : Atom) → Scales (reading x)) → (tree : PatternTree)
      → Scales (Meaning reading tree)
  Scales-Meaning atoms (atom x) = atoms x
  Scales-Meaning atoms (sequence e f) = Scales-Composed (Meaning reading e) (Meaning reading f)
      (Scales-Meaning atoms e) (Scales-Meaning atoms f)
  Scales-Meaning atoms (alternation e f) = Scales-Either (Meaning reading e) (Meaning reading f)
      (Scales-Meaning atoms e) (Scales-Meaning atoms f)
  Scales-Meaning atoms (intersection e f) =
      Scales-Both (Meaning reading e) (Meaning reading f) (Scales-Meaning atoms e)
      (Scales-Meaning atoms f)
  Scales-Meaning atoms (repetition e) =
      Scales-Chain (Meaning reading e) (reading empty) (Scales-Meaning atoms e) (atoms empty)
  Scales-Meaning atoms (restriction e ends) =
      Scales-Lasting (LastsWithin ends) (Meaning reading e) (DurationScales-LastsWithin ends)
      (Scales-Meaning atoms e)

  pub IsOrdered-Meaning : ((x : Atom) → IsOrdered (reading x)) → IsInstant (reading empty)
      → (tree : PatternTree) → IsOrdered (Meaning reading tree)
  IsOrdered-Meaning atoms same (atom x) = atoms x
  IsOrdered-Meaning atoms same (sequence e f) =
      IsOrdered-Composed (Meaning reading e) (Meaning reading f) (IsOrdered-Meaning atoms same e)
      (IsOrdered-Meaning atoms same f)
  IsOrdered-Meaning atoms same (alternation e f) =
      IsOrdered-Either (Meaning reading e) (Meaning reading f) (IsOrdered-Meaning atoms same e)
      (IsOrdered-Meaning atoms same f)
  IsOrdered-Meaning atoms same (intersection e f) =
      IsOrdered-Both (Meaning reading e) (Meaning reading f) (IsOrdered-Meaning atoms same e)
  IsOrdered-Meaning atoms same (repetition e) =
      IsOrdered-Chain (Meaning reading e) (reading empty) (IsOrdered-Meaning atoms same e) same
  IsOrdered-Meaning atoms same (restriction e ends) =
      IsOrdered-Lasting (LastsWithin ends) (Meaning reading e) (IsOrdered-Meaning atoms same e)

  pub IsBounded-Meaning : (low high : ℕ) → ((x : Atom) → IsBounded low high (reading x))
      → (tree : PatternTree) → IsBounded low high (Meaning reading tree)
  IsBounded-Meaning low high atoms (atom x) = atoms x
  IsBounded-Meaning low high atoms (sequence e f) =
      IsBounded-Composed (Meaning reading e) (Meaning reading f) low high
      (IsBounded-Meaning low high atoms e) (IsBounded-Meaning low high atoms f)
  IsBounded-Meaning low high atoms (alternation e f) =
      IsBounded-Either (Meaning reading e) (Meaning reading f) low high
      (IsBounded-Meaning low high atoms e) (IsBounded-Meaning low high atoms f)
  IsBounded-Meaning low high atoms (intersection e f) =
      IsBounded-Both (Meaning reading e) (Meaning reading f) low high
      (IsBounded-Meaning low high atoms e)
  IsBounded-Meaning low high atoms (repetition e) =
      IsBounded-Chain (Meaning reading e) (reading empty) low high
      (IsBounded-Meaning low high atoms e) (atoms empty)
  IsBounded-Meaning low high atoms (restriction e ends) =
      IsBounded-Lasting (LastsWithin ends) (Meaning reading e) low high
      (IsBounded-Meaning low high atoms e)

module _ (reading reading' : Atom → Pairs) where
  pub Implies-Meaning : ((x : Atom) → Implies (reading x) (reading' x)) → (tree : PatternTree)
      → Implies (Meaning reading tree) (Meaning reading' tree)
  Implies-Meaning atoms (atom x) = atoms x
  Implies-Meaning atoms (sequence e f) = Implies-Composed (Meaning reading e) (Meaning reading' e)
      (Meaning reading f) (Meaning reading' f) (Implies-Meaning atoms e) (Implies-Meaning atoms f)
  Implies-Meaning atoms (alternation e f) = Implies-Either (Meaning reading e) (Meaning reading' e)
      (Meaning reading f) (Meaning reading' f) (Implies-Meaning atoms e) (Implies-Meaning atoms f)
  Implies-Meaning atoms (intersection e f) =
      Implies-Both (Meaning reading e) (Meaning reading' e) (Meaning reading f) (Meaning reading' f)
      (Implies-Meaning atoms e) (Implies-Meaning atoms f)
  Implies-Meaning atoms (repetition e) = Implies-Chain (Meaning reading e) (Meaning reading' e)
      (reading empty) (reading' empty) (Implies-Meaning atoms e) (atoms empty)
  Implies-Meaning atoms (restriction e ends) =
      Implies-Lasting (LastsWithin ends) (Meaning reading e) (Meaning reading' e)
      (Implies-Meaning atoms e)

  module _ (T : ℕ) (ordered : (x : Atom) → IsOrdered (reading x))
      (same : IsInstant (reading empty)) where
    pub ImpliesBefore-Meaning : ((x : Atom) → ImpliesBefore T (reading x) (reading' x))
        → (tree : PatternTree) → ImpliesBefore T (Meaning reading tree) (Meaning reading' tree)
    ImpliesBefore-Meaning atoms (atom x) = atoms x
    ImpliesBefore-Meaning atoms (sequence e f) =
        ImpliesBefore-Composed T (Meaning reading e) (Meaning reading' e) (Meaning reading f)
        (Meaning reading' f) (IsOrdered-Meaning reading ordered same f)
        (ImpliesBefore-Meaning atoms e) (ImpliesBefore-Meaning atoms f)
    ImpliesBefore-Meaning atoms (alternation e f) =
        ImpliesBefore-Either T (Meaning reading e) (Meaning reading' e) (Meaning reading f)
        (Meaning reading' f) (ImpliesBefore-Meaning atoms e) (ImpliesBefore-Meaning atoms f)
    ImpliesBefore-Meaning atoms (intersection e f) =
        ImpliesBefore-Both T (Meaning reading e) (Meaning reading' e) (Meaning reading f)
        (Meaning reading' f) (ImpliesBefore-Meaning atoms e) (ImpliesBefore-Meaning atoms f)
    ImpliesBefore-Meaning atoms (repetition e) =
        ImpliesBefore-Chain T (Meaning reading e) (Meaning reading' e) (reading empty)
        (reading' empty) (IsOrdered-Meaning reading ordered same e) same
        (ImpliesBefore-Meaning atoms e) (atoms empty)
    ImpliesBefore-Meaning atoms (restriction e ends) =
        ImpliesBefore-Lasting T (LastsWithin ends) (Meaning reading e) (Meaning reading' e)
        (ImpliesBefore-Meaning atoms e)
