use Rattle.std.proofs.Common.{ℕ, ◌≤◌, List, length}
use Rattle.tre_pairs.specs.declared.TheConstants.{TIME_MAX}
use Rattle.tre_num.specs.Left.{IsLeft}
use Rattle.tre_num.specs.Told.{IsUnder, TableTerms}
use Rattle.tre_num.proofs.Reading.{HasRead}
use Rattle.tre_num.proofs.table.read_behind.Given as goal

-- the segments behind those that stood there are those of the rows so far
abbrev pub invariant-loop : goal.invariant-loop
invariant-loop g l = record {
  in_time : l.end ≤ TIME_MAX;
  more : length l.fn.segments.items ≤ length l.segments.items;
  reads : (by : TableTerms) (header : List (List ℕ)) (left : List (List (List ℕ)))
      → IsUnder by header l.layout → IsLeft g.R.Read.remaining l.fn.rows left
      → HasRead g.R.Read.remaining by header l.layout left l.rows l.fn.segments.items
      l.segments.items l.end;
}
