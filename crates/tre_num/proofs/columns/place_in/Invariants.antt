use Rattle.std.proofs.Common.{◌≡◌, drop}
use Rattle.std.specs.List.{position_from}
use Rattle.std.specs.Str.{bytes_eq}
use Rattle.csv.specs.Records.{fields_of}
use Rattle.tre_num.specs.Rows.{place_in}
use Rattle.tre_num.proofs.columns.place_in.Given as goal

-- the first column of the name is the first from this place on
abbrev pub invariant-loop-place : goal.invariant-loop-place
invariant-loop-place l = place_in (fields_of l.header) l.name
    ≡ position_from (λ field. bytes_eq field l.name) l.place (drop l.place (fields_of l.header))
