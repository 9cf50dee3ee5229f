-- What durations up to a longest one are.
use Rattle.std.proofs.Common.{◌≡◌, ℕ, ◌+◌, ◌*◌, ◌≤◌, ◌↔◌, Bool, true, false, Option, Some, None, arith, ℤ, pos, ◌≤ℤ◌, rules}
use Rattle.std.proofs.lemmas.Option.{none-some}
use Rattle.tre_pairs.specs.Pairs.{Lasting}
use Rattle.tre_pairs.proofs.Laws.{DurationScales}
use Rattle.tre_pairs.proofs.Shortening.{IsDownward}
use Rattle.tre_pairs.proofs.Ticks.{ge_up, ge_down}
use Rattle.tre_zone.specs.Interval.{IntervalEnds, LastsWithin, HasNoDuration, ends_of, kept_weak}
use Rattle.tre_zone.specs.Longest.{LastsUpTo, AllLastUpTo}
use Rattle.tre_zone.specs.Zone.{ZoneHolds, GivesZone, IsTight}
use Rattle.tre_zone.specs.declared.zone_bounds.ZoneBounds.{ZoneBounds}
use Rattle.tre_zone.proofs.Bounds.{Meets-at_most}
use Rattle.tre_zone.proofs.Paths.{Meets-looser}

pub LastsUpTo-downward : (longest : Option ℕ) → IsDownward (LastsUpTo longest)
LastsUpTo-downward None = record { at = λ d d' n le h. record { within = tt } }
LastsUpTo-downward (Some high) = search rules

pub LastsUpTo-scales : (longest : Option ℕ) → DurationScales (LastsUpTo longest)
LastsUpTo-scales None = search rules
LastsUpTo-scales (Some high) = search (rules, ge_up, ge_down)

-- ---- the longest inside an interval

below_high : (low : ℕ) (low_weak : Bool) (top : Option ℕ) (high_weak : Bool) (high : ℕ)
    → top ≡ Some high → (d n : ℕ) → LastsWithin (ends_of low low_weak top high_weak) d n
    → d ≤ high * n
below_high low low_weak None high_weak high is d n h = absurd (none-some high is)
below_high low low_weak (Some top) true high is d n h = search rules
below_high low low_weak (Some top) false high is d n h = search rules

pub inside : (ends : IntervalEnds) (high shortest : ℕ) (longest : Option ℕ)
    → ends.high ≡ Some high
    → ((d n : ℕ) → d ≤ high * n → d ≤ shortest * n ↔ LastsUpTo longest d n)
    → (d n : ℕ) → LastsWithin ends d n → LastsUpTo (Some shortest) d n ↔ LastsUpTo longest d n
inside ends high shortest longest is same d n h = search rules

-- ---- zones of such durations

-- By its key: the bound from above on the duration is no looser.
pub key_up_to : (zone : ZoneBounds) (high : ℕ) (key : ℤ) → key ≡ pos (2 * high + 1)
    → zone.dur_high ≤ℤ key → AllLastUpTo (Some high) zone
key_up_to zone high key is le = record {
  each = λ a b n some rising h.
      let most = (Meets-at_most key high is b a n).0
      (Meets-looser zone.dur_high key b a n some le h.dur_high) in
      record { within = omega (arith, most, rising) };
}

pub up_to_key : (zone : ZoneBounds) (high : ℕ) (key : ℤ) → key ≡ pos (2 * high + 1)
    → IsTight zone → AllLastUpTo (Some high) zone → zone.dur_high ≤ℤ key
up_to_key zone high key is tight all =
    search (rules, Meets-at_most, tight.dur_high.tightest, all.each)

pub all_up_to : (zone : ZoneBounds) → AllLastUpTo None zone
all_up_to zone = record { each = λ a b n some le h. record { within = tt } }

pub within_short : (longest : Option ℕ) (ends : IntervalEnds) (answer : Option ZoneBounds)
    (zone : ZoneBounds) → ends ≡ ends_of 0 true longest (kept_weak longest true)
    → GivesZone answer (Lasting (LastsWithin ends) (ZoneHolds zone))
    → GivesZone answer (Lasting (LastsUpTo longest) (ZoneHolds zone))
within_short longest ends answer zone is given = search rules

-- There is always such a duration.
pub never_short : (longest : Option ℕ) → HasNoDuration (ends_of 0 true longest true) → ⊥
never_short None none = none 0 1 (omega arith) (omega arith, tt)
never_short (Some high) none = none 0 1 (omega arith) (omega arith, omega arith)
