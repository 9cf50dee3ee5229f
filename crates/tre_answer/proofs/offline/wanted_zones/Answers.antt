use Rattle.tre_answer.proofs.offline.wanted_zones.Goals as goal

pub returns : goal.returns
returns c = record {
  set = c.in_ok-set.set;
  is_set = c.in_ok-zones.ensures.set;
  exact = c.in_ok-set.ensures;
  asked = c.in_ok-zones.ensures.zones;
}
