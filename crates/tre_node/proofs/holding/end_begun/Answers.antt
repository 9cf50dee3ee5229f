use Rattle.std.proofs.Common.{◌∙◌, ◌++◌, ap, refl}
use Rattle.tre_node.specs.NodeTree.{begun_at}
use Rattle.tre_node.proofs.holding.end_begun.Goals as goal

pub put_begun-requires-clause-begun : goal.put_begun-requires-clause-begun
put_begun-requires-clause-begun c = rw c.deref.ensures.value c.requires.begun

pub returns : goal.returns
returns c = record {
  made = record { counts = refl; enters = refl };
  off = refl;
  found = c.clear.ensures.items;
  told = c.in_ok-put_begun.ensures
      ∙ ap (λ list. list ++ begun_at c.args.time c.deref.result.now) c.clear-2.ensures.items
      ∙ ap (λ list. begun_at c.args.time list) c.deref.ensures.value;
  none = c.clear-3.ensures.items;
}
