-- The calls of a source or a sink in memory.
use Rattle.std.specs.Prelude.{ℕ, List, Bool, ◌==◌}
use Rattle.std.specs.List.{list_any}
use Rattle.tre_io.specs.Faults.{count_after}

-- Which calls are to fail, numbered from 1, how many were made, and how many failed.
pub record CallCounts : Type 0 where
  pub fails : List ℕ
  pub made : ℕ
  pub faults : ℕ

-- no call was made
abbrev pub new_calls : List ℕ → CallCounts
new_calls numbers = record { fails = numbers; made = 0; faults = 0 }

-- the next call is one of those that are to fail
abbrev pub is_next_failing : CallCounts → Bool
is_next_failing calls = list_any (λ number. number == count_after calls.made) calls.fails

-- one fault more
abbrev pub with_fault : CallCounts → CallCounts
with_fault calls = record calls { faults = count_after calls.faults }

-- after a call that did its work
abbrev pub after_call : CallCounts → CallCounts
after_call calls = record calls { made = count_after calls.made }

-- after a call that failed
abbrev pub after_fault : CallCounts → CallCounts
after_fault calls = with_fault (after_call calls)
