-- Between which ends of an interval a duration lies.
use Rattle.std.proofs.Common.{◌≡◌, refl, ℕ, ◌+◌, ◌*◌, ◌<◌, ◌≤◌, Bool, true, false, Option, Some, None, MatchOption, arith, rules}
use Rattle.std.proofs.Math.Nat.{mul-le-mul_right}
use Rattle.std.proofs.lemmas.Option.{none-some}
use Rattle.tre_pairs.specs.declared.TheConstants.{TIME_MAX}
use Rattle.tre_zone.specs.Interval.{LastsWithin, HasNoDuration, HasRoom, IntervalEnds, IsInterval, ends_of}

-- The interval holds d/n.
pub record Lasts (ends : IntervalEnds) : Type 0 where
  pub d : ℕ
  pub n : ℕ
  pub some : 0 < n
  pub within : LastsWithin ends d n

pub no_end : (low : ℕ) (low_weak high_weak : Bool)
    → Lasts (record { low = low; low_weak = low_weak; high = None; high_weak = high_weak })
no_end low true high_weak = record {
  d = low + 1;
  n = 1;
  some = omega arith;
  within =
      (omega arith, tt);
}
no_end low false high_weak = record {
  d = low + 1;
  n = 1;
  some = omega arith;
  within =
      (omega arith, tt);
}

pub room : (low : ℕ) (low_weak : Bool) (high : ℕ) (high_weak : Bool)
    → HasRoom low low_weak high high_weak
    → Lasts (record { low = low; low_weak = low_weak; high = Some high; high_weak = high_weak })
room low true high true h = record {
  d = low + high;
  n = 2;
  some = omega arith;
  within =
      (omega arith, omega arith);
}
room low true high false h = record {
  d = low + high;
  n = 2;
  some = omega arith;
  within =
      (omega arith, omega arith);
}
room low false high true h = record {
  d = low + high;
  n = 2;
  some = omega arith;
  within =
      (omega arith, omega arith);
}
room low false high false h = record {
  d = low + high;
  n = 2;
  some = omega arith;
  within =
      (omega arith, omega arith);
}

scale : (low high n : ℕ) → high ≤ low → high * n ≤ low * n
scale low high n le = mul-le-mul_right n le

scale_more : (low high n : ℕ) → 0 < n → high < low → high * n + 1 ≤ low * n
scale_more low high n some lt = search rules

pub no_room : (low : ℕ) (low_weak : Bool) (high : ℕ) (high_weak : Bool)
    → (HasRoom low low_weak high high_weak → ⊥)
    → (d n : ℕ) → 0 < n → LastsWithin (record
    { low = low; low_weak = low_weak; high = Some high; high_weak = high_weak }) d n → ⊥
no_room low true high true h d n some w = search (rules, scale_more, n, some)
no_room low true high false h d n some w = search (rules, scale, n)
no_room low false high true h d n some w = search (rules, scale, n)
no_room low false high false h d n some w = search (rules, scale, n)

pub not_empty : (ends : IntervalEnds) → Lasts ends
    → (true ≡ false → HasNoDuration ends) × (HasNoDuration ends → true ≡ false)
not_empty ends l = ((λ e. (cc)), (λ h. absurd (h l.d l.n l.some l.within)))

pub interval_without_end : (low : ℕ) (low_weak : Bool) → low ≤ TIME_MAX
    → IsInterval (ends_of low low_weak None false)
interval_without_end low low_weak le = record {
  within = record { low = le; high = tt };
  kept = refl;
  some = λ none. let l = no_end low low_weak false in none l.d l.n l.some l.within;
}

pub interval_to : (low : ℕ) (low_weak : Bool) (high : ℕ) (high_weak : Bool)
    → low ≤ TIME_MAX → high ≤ TIME_MAX → HasRoom low low_weak high high_weak
    → IsInterval (ends_of low low_weak (Some high) high_weak)
interval_to low low_weak high high_weak le high_le has = record {
  within = record { low = le; high = high_le };
  kept = refl;
  some = λ none.
      let l = room low low_weak high high_weak has in none l.d l.n l.some l.within;
}

pub high_within : (high : Option ℕ) (top limit : ℕ) → high ≡ Some top
    → MatchOption high (Unit {0}) (λ h. h ≤ limit) → top ≤ limit
high_within None top limit e le = absurd (none-some top e)
high_within (Some h) top limit e le = search rules
