use Rattle.tre_zone.proofs.ZoneListLemmas.{SetHolds-empty}
use Rattle.tests_zones.proofs.sets.pushed.Goals as goal

pub push_disjoint-requires : goal.push_disjoint-requires
push_disjoint-requires g c = rw c.new-set.ensures
    (record { never = λ a b n some le h. SetHolds-empty a b n h.left })
