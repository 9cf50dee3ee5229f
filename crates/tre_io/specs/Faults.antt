-- Counts of faults, and what a failed call shows.
use Rattle.std.specs.Prelude.{◌≡◌, ℕ, ◌+◌, ◌-◌, ◌^◌, ◌<◌, ◌≤◌, min, Result, OnOk, OnErr}
use Rattle.tre_io.specs.declared.faults.Failed.{Failed}

-- the number after this one; the last that a u64 can hold stays
abbrev pub count_after : ℕ → ℕ
count_after n = min (n + 1) (2 ^ 64 - 1)

-- a count that rose, or stood at its last value
abbrev pub CountRises : ℕ → ℕ → Type 0
CountRises before now = count_after before ≤ now

-- Ok leaves the count of faults as it was, and a call that failed counted one fault more.
pub record HasCause {T : Type 0} (before now : ℕ) (result : Result T Failed) : Type 0 where
  pub later : before ≤ now
  pub fits : before < 2 ^ 64 → now < 2 ^ 64
  pub ok : OnOk result (now ≡ before)
  pub failed : OnErr result (now ≡ count_after before)
