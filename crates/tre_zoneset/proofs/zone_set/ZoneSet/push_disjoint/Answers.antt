use Rattle.tre_zoneset.proofs.Kept.{IsApartFrom-disjoint}
use Rattle.tre_zoneset.proofs.zone_set.ZoneSet.push_disjoint.Goals as goal

pub push_apart-requires : goal.push_apart-requires
push_apart-requires c =
    IsApartFrom-disjoint c.args.zone c.args.self.now
    (λ a b n some le x y. c.requires.never a b n some le (record { left = x; right = y }))
    c.bounds-bounds.ensures.some (rw c.self.view_is at c.self.invariant).canonical
