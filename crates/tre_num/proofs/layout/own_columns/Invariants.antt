use Rattle.std.proofs.Common.{◌≡◌, map, take}
use Rattle.csv.specs.Records.{fields_of}
use Rattle.tre_num.specs.Rows.{compared_column}
use Rattle.tre_num.proofs.layout.own_columns.Given as goal

-- the columns of the names before this one
abbrev pub invariant-loop-number : goal.invariant-loop-number
invariant-loop-number l = l.own.items
    ≡ map (compared_column l.definitions (fields_of l.header)) (take l.number l.names)
