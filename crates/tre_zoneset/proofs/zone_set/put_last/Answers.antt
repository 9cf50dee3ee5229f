use Rattle.tre_zoneset.proofs.zone_set.put_last.Goals as goal

pub returns-clause-ok : goal.returns-clause-ok
returns-clause-ok c = record {
  kept = c.drop_included.new.zones.items;
  without = rw c.reserve.ensures.items at c.drop_included.ensures.kept;
  last = c.in_ok-push.ensures.items;
}
