use Rattle.tre_pairs.specs.Pairs.{Both}
use Rattle.tre_zone.specs.Zone.{ZoneHolds}
use Rattle.tre_zone.proofs.ZoneListLemmas.{SetHolds-empty}
use Rattle.tre_zoneset.proofs.Searching.{IsKeyOf-canonical}
use Rattle.tre_zoneset.proofs.Stretches.{HoldExactly-stretch}
use Rattle.tre_zoneset.proofs.Unions.{Both-additive_right}
use Rattle.tre_zoneset.proofs.zone_set.gather_near_meets.Goals as goal

pub returns : goal.returns
returns c =
    HoldExactly-stretch (Both (ZoneHolds c.args.zone.now))
    (Both-additive_right (ZoneHolds c.args.zone.now)) c.args.found.now.items c.args.others.now
    c.gather_each_meet.new.found.items c.key_meeting-key.result
    (IsKeyOf-canonical (Both (ZoneHolds c.args.zone.now)) c.args.others.now c.key_meeting-key.result
    c.requires.others c.key_meeting-key.ensures.others) c.args.zone.now
    c.find_stretch-stretch.result c.find_stretch-stretch.ensures
    (λ a b n h. SetHolds-empty a b n h.right)
    c.in_ok-gather_each_meet.ensures

pub slice_bounds-gather_each_meet-count : goal.slice_bounds-gather_each_meet-count
slice_bounds-gather_each_meet-count c = c.find_stretch-stretch.ensures.rising
