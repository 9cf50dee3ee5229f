use Rattle.std.proofs.Common.{◌≡◌, ◌++◌, drop}
use Rattle.std.specs.Option.{option_map}
use Rattle.csv.specs.Records.{fields_of}
use Rattle.tre_num.specs.Rows.{columns_of}
use Rattle.tre_num.proofs.columns.columns_of.Given as goal

-- the columns of the names before this one, and those of the others behind them
abbrev pub invariant-loop-number : goal.invariant-loop-number
invariant-loop-number l = columns_of l.definitions (fields_of l.header) l.names
    ≡ option_map (λ others. l.columns.items ++ others)
    (columns_of l.definitions (fields_of l.header) (drop l.number l.names))
