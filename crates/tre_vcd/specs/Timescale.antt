-- How long a tick of a dump takes, and how many units of time ticks are.
use Rattle.std.specs.Prelude.{ℕ, ◌+◌, ◌*◌, ◌/◌, ◌%◌, ◌^◌, ◌==◌, List, [], ◌∷◌, take, drop, Option, Some, None, codes, if◌then◌else◌}
use Rattle.std.specs.Char.{is_ascii_digit}
use Rattle.std.specs.List.{prefix_len}
use Rattle.std.specs.Str.{bytes_eq}
use Rattle.tre_unit.specs.Units.{unit_named, places_of}
use Rattle.tre_unit.specs.declared.unit.TimeUnit.{TimeUnit}
use Rattle.tre_vcd.specs.declared.timescale.Tick.{Tick}

-- 1, 10 and 100 by their powers of ten
abbrev pub tens_of : List ℕ → Option ℕ
tens_of number =
    if bytes_eq number (codes "1") then Some 0
    else (if bytes_eq number (codes "10") then Some 1
    else (if bytes_eq number (codes "100") then Some 2 else None))

-- a tick of 10^tens of a unit
abbrev pub tick_by : Option ℕ → Option TimeUnit → Option Tick
tick_by (Some tens) (Some unit) = Some (record { tens = tens; unit = unit })
tick_by _ _ = None

-- What the tokens of a `$timescale` say: digits and a unit, in one token or in two.
abbrev pub tick_of : List (List ℕ) → Option Tick
tick_of (both ∷ []) = tick_by (tens_of (take (prefix_len is_ascii_digit both) both))
    (unit_named (drop (prefix_len is_ascii_digit both) both))
tick_of (number ∷ unit ∷ []) = tick_by (tens_of number) (unit_named unit)
tick_of _ = None

-- n * 10^more * 10^-less, where that is a whole number
abbrev pub shifted : ℕ → ℕ → ℕ → Option ℕ
shifted more less n =
    if n * 10 ^ more % 10 ^ less == 0 then Some (n * 10 ^ more / 10 ^ less) else None

-- So many ticks, in units of time, where that is a whole number. A unit of time is 10^-scale of the
-- unit that is asked for, however long a tick takes, and 10^-scale of a tick where none is.
abbrev pub units_by : ℕ → Option TimeUnit → Option Tick → ℕ → Option ℕ
units_by scale None tick ticks = Some (ticks * 10 ^ scale)
units_by scale (Some unit) None ticks = None
units_by scale (Some unit) (Some tick) ticks =
    shifted (places_of unit + scale + tick.tens) (places_of tick.unit) ticks
