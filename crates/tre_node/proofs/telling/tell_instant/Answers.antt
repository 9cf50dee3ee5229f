use Rattle.std.proofs.Common.{refl}
use Rattle.tre_node.proofs.Lists.{exact_alone}
use Rattle.tre_node.proofs.telling.tell_instant.Goals as goal

pub returns : goal.returns
returns c = record {
  made = record { counts = refl; enters = refl };
  found = exact_alone c.clear-2.ensures.items c.in_ok-gather.ensures;
  none = c.clear.ensures.items;
}
