-- The laws of instants, whatever is said of their times.
use Rattle.std.proofs.Common.{ℕ, ◌*◌, ◌<◌, ◌≤◌, sym, ◌∙◌, le_of_mul-le-mul_right, arith}
use Rattle.std.proofs.Math.Nat.{mul-le-mul_right, lt_of_mul-lt-mul_right}
use Rattle.tre_pairs.proofs.CutLaws.{ImpliesFrom}
use Rattle.tre_pairs.proofs.Laws.{Scales, IsOrdered, IsBounded, Implies, ImpliesBefore}
use Rattle.tre_pairs.proofs.Ticks.{eq_up, eq_down}
use Rattle.tre_syntax.specs.Rest.{InstantMatches}

module _ (M : ℕ → Type 0) where
  pub Scales-Instant : Scales (InstantMatches M)
  Scales-Instant = record {
    up = λ k a b n pos h. record {
      time = h.time;
      begin = eq_up k h.time a n h.begin;
      end = eq_up k h.time b n h.end;
      there = h.there;
    };
    down = λ k a b n pos h. record {
      time = h.time;
      begin = eq_down k h.time a n pos h.begin;
      end = eq_down k h.time b n pos h.end;
      there = h.there;
    };
  }

  pub IsOrdered-Instant : IsOrdered (InstantMatches M)
  IsOrdered-Instant = record { le = λ a b n h. let e = h.begin ∙ sym h.end in omega arith }

  pub IsBounded-Instant : (low high : ℕ) → ((t : ℕ) → M t → low ≤ t) → ((t : ℕ) → M t → t ≤ high)
      → IsBounded low high (InstantMatches M)
  IsBounded-Instant low high begins ends = record {
    begin = λ a b n h.
        let le = mul-le-mul_right n (begins h.time h.there) in omega (arith, le, h.begin);
    end = λ a b n h.
        let le = mul-le-mul_right n (ends h.time h.there) in omega (arith, le, h.end);
  }

module _ (M N : ℕ → Type 0) where
  pub Implies-Instant : ((t : ℕ) → M t → N t) → Implies (InstantMatches M) (InstantMatches N)
  Implies-Instant at = record {
    at = λ a b n h. record {
      time = h.time;
      begin = h.begin;
      end = h.end;
      there = at h.time h.there;
    };
  }

  pub ImpliesBefore-Instant : (T : ℕ) → ((t : ℕ) → t < T → M t → N t)
      → ImpliesBefore T (InstantMatches M) (InstantMatches N)
  ImpliesBefore-Instant T at = record {
    at = λ a b n early h.
        let ticks : h.time * n < T * n = omega (arith, early, h.end) in
        record {
          time = h.time;
          begin = h.begin;
          end = h.end;
          there = at h.time (lt_of_mul-lt-mul_right n ticks) h.there;
        };
  }

  pub ImpliesFrom-Instant : (T : ℕ) → ((t : ℕ) → T ≤ t → M t → N t)
      → ImpliesFrom T (InstantMatches M) (InstantMatches N)
  ImpliesFrom-Instant T at = record {
    at = λ a b n some late h.
        let ticks : T * n ≤ h.time * n = omega (arith, late, h.begin) in
        record {
          time = h.time;
          begin = h.begin;
          end = h.end;
          there = at h.time (le_of_mul-le-mul_right ticks some) h.there;
        };
  }
