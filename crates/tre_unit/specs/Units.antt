-- Units of time (IEEE Std 1364-2005, 18.2.3.5).
use Rattle.std.specs.Prelude.{ℕ, List, Option, Some, None, codes, if◌then◌else◌}
use Rattle.std.specs.Str.{bytes_eq}
use Rattle.tre_unit.specs.declared.unit.TimeUnit.{TimeUnit}
use Rattle.tre_unit.specs.declared.unit.TimeUnit.TheVariants.{Seconds, Milliseconds, Microseconds, Nanoseconds, Picoseconds, Femtoseconds}

abbrev pub unit_named : List ℕ → Option TimeUnit
unit_named name =
    if bytes_eq name (codes "s") then Some Seconds
    else (if bytes_eq name (codes "ms") then Some Milliseconds
    else (if bytes_eq name (codes "us") then Some Microseconds
    else (if bytes_eq name (codes "ns") then Some Nanoseconds
    else (if bytes_eq name (codes "ps") then Some Picoseconds
    else (if bytes_eq name (codes "fs") then Some Femtoseconds else None)))))

-- It is 10^-places of a second.
abbrev pub places_of : TimeUnit → ℕ
places_of Seconds = 0
places_of Milliseconds = 3
places_of Microseconds = 6
places_of Nanoseconds = 9
places_of Picoseconds = 12
places_of Femtoseconds = 15
