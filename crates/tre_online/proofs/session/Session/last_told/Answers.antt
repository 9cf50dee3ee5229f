use Rattle.tre_syntax.specs.Pattern.{pattern_tree}
use Rattle.tre_zoneset.proofs.Kept.{IsZoneSet-kept}
use Rattle.tre_online.specs.Session.{ended_of}
use Rattle.tre_online.proofs.NewZones.{none_apart}
use Rattle.tre_online.proofs.AtTheEnd.{tells_nothing, tells_at_end}
use Rattle.tre_online.proofs.session.Session.last_told.Goals as goal

pub returns-then-events-eq0-clause-tells : goal.returns-then-events-eq0-clause-tells
returns-then-events-eq0-clause-tells c u standing =
    let session = c.args.self.now in
    tells_nothing (pattern_tree session.pattern) u c.args.events (ended_of session)
    c.new.result.items c.if-events-eq0.true c.new.ensures.items

pub returns-then-events-eq0-clause-apart : goal.returns-then-events-eq0-clause-apart
returns-then-events-eq0-clause-apart c = rw c.new.ensures.items none_apart

pub found_at_end-requires-clause-node : goal.found_at_end-requires-clause-node
found_at_end-requires-clause-node c = c.args.self.now.well.node_is

pub found_at_end-requires-clause-made : goal.found_at_end-requires-clause-made
found_at_end-requires-clause-made c = c.args.self.now.well.made

pub returns-clause-apart : goal.returns-clause-apart
returns-clause-apart c =
    (IsZoneSet-kept _ c.in_ok-told.told.items c.drop_told.new.zones.items
    c.in_ok-drop_told.ensures c.in_ok-told.ensures.set).apart

pub returns-clause-tells : goal.returns-clause-tells
returns-clause-tells c u standing =
    let session = c.args.self.now in
    tells_at_end session u c.args.events c.in_ok-told.told.items c.drop_told.new.zones.items
    standing c.in_ok-told.ensures.set
    (rw c.deref.ensures.value at c.in_ok-drop_told.ensures)
    c.in_ok-told.ensures.tells c.if-events-eq0.false
