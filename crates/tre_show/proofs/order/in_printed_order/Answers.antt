use Rattle.std.proofs.Common.{◌∙◌}
use Rattle.tre_zone.proofs.ZoneListLemmas.{AreCanonical-tight}
use Rattle.tre_zoneset.proofs.Thinning.{SetHolds-permutation}
use Rattle.tre_show.proofs.Orders.{IsApart-permutation, AreCanonical-permutation, written_back}
use Rattle.tre_show.proofs.order.in_printed_order.Goals as goal

pub returns : goal.returns
returns c =
    let order = rw c.deref_mut.ensures.value at c.sort.ensures.same in
    rw (written_back c.sort.new.zones c.args.zones.items c.args.zones.len
    (c.sort.auto.zones ∙ c.deref_mut.ensures.len)) (record {
      same = order;
      held = λ a b n. SetHolds-permutation _ _ a b n order;
      set = λ set. record {
        apart = IsApart-permutation _ _ order set.apart;
        canonical = AreCanonical-permutation _ _ order set.canonical;
      };
      tight = λ set.
          AreCanonical-tight _ (AreCanonical-permutation _ _ order set.canonical);
      rising = c.sort.ensures.rising;
    })
