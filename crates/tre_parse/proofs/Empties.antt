-- Where empty intervals stand among words.
use Rattle.std.proofs.Common.{◌≡◌, ℕ, ◌+◌, ◌<◌, ◌≤◌, List, [], ◌∷◌, ◌++◌, length, ap, arith, length-append, rules}
use Rattle.std.specs.Prelude.{codes}
use Rattle.tre_pairs.specs.declared.TheConstants.{TIME_MAX}
use Rattle.tre_trace.specs.Reading.{Vocabulary}
use Rattle.tre_zone.specs.Interval.{IntervalEnds, HasNoDuration, IsIntervalWithin}
use Rattle.tre_parse.specs.Words.{Words}
use Rattle.tre_parse.specs.Parts.{IsFineInterval}
use Rattle.tre_parse.specs.Outcome.{HasEmptyAt}
use Rattle.tre_parse.specs.Unkept.{NoneEmptyBefore, NoneEmpty}

-- An interval that can't be kept is empty, where no number is too big.
pub unkept_empty : (ends : IntervalEnds) → IsIntervalWithin TIME_MAX ends
    → (IsFineInterval ends → ⊥)
    → HasNoDuration ends
unkept_empty ends w h = search rules

module _ (scale : ℕ) (known : Vocabulary) (words : Words) where
  -- A place where an empty interval stands is among the words, after the first.
  place_within : (place : ℕ) → HasEmptyAt scale known words place
      → (0 < place) × (place ≤ length words)
  place_within place h =
      let count = length-append h.front (codes "%" ∷ (h.body ++ h.rest)) in
      (omega (arith, h.here), omega (arith, h.here, ap length h.split, count))

  pub none_before_one : NoneEmptyBefore scale known words (0 + 1)
  none_before_one = λ k lt h. omega (arith, (place_within k h).0)

  pub none_before_more : (place : ℕ) → NoneEmptyBefore scale known words (place + 1)
      → (HasEmptyAt scale known words (place + 1) → ⊥)
      → NoneEmptyBefore scale known words (place + 1 + 1)
  none_before_more place none here = search rules

  pub none_empty : (place : ℕ) → length words ≤ place
      → NoneEmptyBefore scale known words (place + 1) → NoneEmpty scale known words
  none_empty place le none = λ k h. none k (omega (arith, (place_within k h).1)) h
