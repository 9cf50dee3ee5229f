use Rattle.std.proofs.Common.{◌≡◌, drop}
use Rattle.csv.specs.Records.{fields_of}
use Rattle.tre_num.specs.Rows.{are_whole}
use Rattle.tre_num.proofs.row.are_whole.Given as goal

-- all of them are whole exactly where all from here on are
abbrev pub invariant-loop-column : goal.invariant-loop-column
invariant-loop-column l = are_whole l.columns (fields_of l.row)
    ≡ are_whole (drop l.column-index l.columns) (fields_of l.row)
