use Rattle.tre_pairs.specs.Pairs.{Both}
use Rattle.tre_zone.specs.Zone.{ZoneHolds}
use Rattle.tre_zoneset.proofs.Searching.{IsKeyOf-canonical}
use Rattle.tre_minus.proofs.Comparing.{IsCompared-found, IsCompared-next}
use Rattle.tre_minus.proofs.difference.compare.Goals as goal

pub returns-in_ok-take_away-in-Some : goal.returns-in_ok-take_away-in-Some
returns-in_ok-take_away-in-Some c =
    IsCompared-next c.args.taken.now c.args.part.now c.args.found.now.items
    c.args.parts.now.items c.key_meeting.result
    (IsKeyOf-canonical (Both (ZoneHolds c.args.part.now.zone)) c.args.taken.now
    c.key_meeting.result c.requires.taken c.key_meeting.ensures.others)
    c.in-Some.next c.index-taken-next.result c.take_away.new.parts.items c.in-Some.ensures
    (c.index-taken-next.is) c.in_ok-take_away-in-Some.ensures

pub returns-in_ok-push-in-None : goal.returns-in_ok-push-in-None
returns-in_ok-push-in-None c =
    rw c.in_ok-push-in-None.ensures.items
    (IsCompared-found c.args.taken.now c.args.part.now c.args.found.now.items
    c.args.parts.now.items c.key_meeting.result
    (IsKeyOf-canonical (Both (ZoneHolds c.args.part.now.zone)) c.args.taken.now
    c.key_meeting.result c.requires.taken c.key_meeting.ensures.others)
    c.in-None.ensures)
