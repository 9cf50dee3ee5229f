-- Times over which ends of bars keep their order.
use Rattle.std.specs.Prelude.{◌≡◌, ℕ, ◌+◌, ◌-◌, ◌*◌, ◌<◌, ◌≤◌, ◌⊎◌, Bool, MatchBool, min, max}
use Rattle.tre_strips.specs.Bar.{place_of}
use Rattle.tre_strips.specs.Profile.{IsIn}
use Rattle.tre_strips.specs.declared.bar.BarEnd.{BarEnd}
use Rattle.tre_strips.specs.declared.times.Times.{Times}

-- a/n is one of the times.
pub record IsAmongTimes (times : Times) (a n : ℕ) : Type 0 where
  pub some : 0 < n
  pub inside : IsIn times.from times.until a n

-- The times were cut at their end, and some are left where there were some.
pub record Narrows (old new : Times) : Type 0 where
  pub from : new.from ≡ old.from
  pub until : new.until ≤ old.until
  pub single : old.from ≡ old.until → new.until ≡ old.until
  pub many : old.from < old.until → new.from < new.until

-- One of the times, in halves of a tick.
unfoldable pub sample_of : Times → ℕ
sample_of times = 2 * times.from + min 1 (times.until - times.from)

-- Over each of the times the one end stands before the other, or over none.
pub record IsSettled (times : Times) (one other : BarEnd) : Type 0 where
  pub order : ((a n : ℕ) → IsAmongTimes times a n → place_of one a n < place_of other a n)
      ⊎ ((a n : ℕ) → IsAmongTimes times a n → place_of other a n ≤ place_of one a n)

-- Whether over each of the times the one end stands before the other, and else it does over none.
pub record Compares (before : Bool) (times : Times) (one other : BarEnd) : Type 0 where
  pub told : (a n : ℕ) → IsAmongTimes times a n
      → MatchBool before (place_of one a n < place_of other a n)
      (place_of other a n ≤ place_of one a n)

-- The end stands where the later one of the two does.
pub record IsLater (times : Times) (one other picked : BarEnd) : Type 0 where
  pub place : (a n : ℕ) → IsAmongTimes times a n
      → place_of picked a n ≡ max (place_of one a n) (place_of other a n)

-- The end stands where the earlier one of the two does.
pub record IsEarlier (times : Times) (one other picked : BarEnd) : Type 0 where
  pub place : (a n : ℕ) → IsAmongTimes times a n
      → place_of picked a n ≡ min (place_of one a n) (place_of other a n)
