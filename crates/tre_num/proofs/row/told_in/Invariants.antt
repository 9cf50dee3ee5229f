use Rattle.std.proofs.Common.{◌≡◌, ◌≤◌, length, drop}
use Rattle.std.specs.List.{list_all}
use Rattle.csv.specs.Records.{fields_of}
use Rattle.tre_num.specs.Told.{is_whole_in, valuation_of}
use Rattle.tre_num.proofs.row.told_in.Given as goal

-- what the row says of the names from this one on
abbrev pub invariant-loop-left : goal.invariant-loop-left
invariant-loop-left l = record {
  within : l.left ≤ length l.columns;
  valuation : l.valuation ≡ valuation_of (drop l.left l.columns) (fields_of l.row);
  whole : l.are_whole ≡ list_all (is_whole_in (fields_of l.row)) (drop l.left l.columns);
}

abbrev pub decreases-loop-left : goal.decreases-loop-left
decreases-loop-left l = l.left
