use Rattle.std.proofs.Common.{◌≡◌, ◌++◌, drop, flat_map}
use Rattle.std.specs.Option.{option_map}
use Rattle.csv.specs.Records.{fields_of}
use Rattle.tre_num.specs.Needs.{declared_of, definitions_of}
use Rattle.tre_num.specs.Rows.{columns_of}
use Rattle.tre_num.proofs.layout.all_columns.Given as goal

-- the columns of those before this one, and those of the others behind them
abbrev pub invariant-loop-asked : goal.invariant-loop-asked
invariant-loop-asked l = columns_of (definitions_of l.needed) (fields_of l.header)
    (flat_map (λ asked. asked.names) (declared_of l.needed))
    ≡ option_map (λ others. l.all.items ++ others)
    (columns_of (definitions_of l.needed) (fields_of l.header)
    (flat_map (λ asked. asked.names) (drop l.asked-index (declared_of l.needed))))
