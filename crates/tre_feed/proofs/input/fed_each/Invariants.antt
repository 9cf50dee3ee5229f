use Rattle.std.proofs.Common.{◌≡◌, ◌++◌, []}
use Rattle.std.specs.List.{AllByRecursion}
use Rattle.tre_feed.specs.Each.{readers_in}
use Rattle.tre_feed.proofs.input.fed_each.Given as goal

-- the readers so far, and those that are left
abbrev pub invariant-loop-reader : goal.invariant-loop-reader
invariant-loop-reader g l = record {
  can : (goal.iterator-loop-reader g).can_next l.reader-iterator;
  ends : (goal.iterator-loop-reader g).is_finite l.reader-iterator;
  left : readers_in l.each.items ++ l.reader-iterator.rest.items ≡ l.fn.readers.items;
  none : AllByRecursion (λ fed. fed.row.items ≡ []) l.each.items;
}
