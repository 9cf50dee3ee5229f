use Rattle.std.proofs.Common.{◌≡◌, drop}
use Rattle.std.specs.List.{list_any}
use Rattle.tre_num.specs.Told.{stands_at}
use Rattle.tre_num.proofs.layout.stands_among.Given as goal

-- one of them stands there exactly where one from here on does
abbrev pub invariant-loop-column : goal.invariant-loop-column
invariant-loop-column l = list_any (stands_at l.place) l.columns
    ≡ list_any (stands_at l.place) (drop l.column-index l.columns)
