use Rattle.std.proofs.Common.{refl}
use Rattle.tre_pairs.specs.Pairs.{Both}
use Rattle.tre_pairs.specs.Except.{Except}
use Rattle.tre_zone.specs.Zone.{ZoneHolds}
use Rattle.tre_zone.specs.ZoneList.{SetHolds}
use Rattle.tre_zoneset.proofs.Searching.{IsKeyOf-canonical}
use Rattle.tre_minus.proofs.Differences.{Together-first, HoldExactly-beside}
use Rattle.tre_minus.proofs.Stretched.{canonical_stretch, Except-stretch}
use Rattle.tre_minus.proofs.difference.leave_near.Goals as goal

pub compare_all-requires-clause-taken : goal.compare_all-requires-clause-taken
compare_all-requires-clause-taken c =
    canonical_stretch c.args.taken.now _ _ c.find_stretch-stretch.ensures.rising c.requires.taken

pub returns-clause-held : goal.returns-clause-held
returns-clause-held c =
    HoldExactly-beside c.compare_all.new.found.items (SetHolds c.args.found.now.items) _
    (Except (ZoneHolds c.args.zone.now) (SetHolds c.args.taken.now))
    (Except-stretch c.args.zone.now c.args.taken.now c.key_meeting.result
    (IsKeyOf-canonical (Both (ZoneHolds c.args.zone.now)) c.args.taken.now c.key_meeting.result
    c.requires.taken c.key_meeting.ensures.others)
    c.find_stretch-stretch.result c.find_stretch-stretch.ensures)
    (Together-first _ c.args.found.now.items c.args.zone.now c.args.parts.now.items _
    c.compare_all.new.found.items c.requires.none refl refl
    (rw c.in_ok-push.ensures.items at c.in_ok-compare_all.ensures.held))
