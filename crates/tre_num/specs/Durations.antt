-- How long a row lasts.
use Rattle.std.specs.Prelude.{ℕ, ◌+◌, nat_le, ◌==◌, Option, Some, None, List, Result, Ok, Err, option_and_then, if◌then◌else◌, slice_get}
use Rattle.tre_pairs.specs.declared.TheConstants.{TIME_MAX}
use Rattle.tre_decimal.specs.Decimal.{units_of}
use Rattle.tre_trace.specs.declared.fault.TraceKind.{TraceKind}
use Rattle.tre_trace.specs.declared.fault.TraceKind.TheVariants.{BadNumber, Zero, TooLate}

-- so many units behind a trace that ends at `end`
abbrev pub units_say : ℕ → Option ℕ → Result ℕ TraceKind
units_say end None = Err BadNumber
units_say end (Some len) =
    if len == 0 then Err Zero else (if nat_le (end + len) TIME_MAX then Ok len else Err TooLate)

-- the first field of a row, which is a decimal
abbrev pub duration_says : ℕ → ℕ → List (List ℕ) → Result ℕ TraceKind
duration_says scale end fields =
    units_say end (option_and_then (units_of scale) (slice_get fields 0))
