use Rattle.std.proofs.Common.{map, take}
use Rattle.tre_vcd.specs.Sorted.{AreSorted, JoinsNames, wanted}
use Rattle.tre_vcd.proofs.needed.add_all.Given as goal

-- the names so far are there
abbrev pub invariant-loop-number : goal.invariant-loop-number
invariant-loop-number l = record {
  joins : JoinsNames (wanted (map (λ name. name.items) l.fn.set.keys) l.fn.defined.items)
      (take l.number l.names) (wanted (map (λ name. name.items) l.set.keys) l.defined.items);
  sorted : AreSorted l.definitions (map (λ name. name.items) l.fn.set.keys) l.fn.defined.items
      → AreSorted l.definitions (map (λ name. name.items) l.set.keys) l.defined.items;
}
