use Rattle.std.proofs.Common.{◌∙◌, List, ◌++◌, ap, sym}
use Rattle.std.proofs.lemmas.List.{append-nil, take_all}
use Rattle.tre_zone.specs.declared.zone_bounds.ZoneBounds.{ZoneBounds}
use Rattle.tre_node.proofs.Lists.{put_next}
use Rattle.tre_node.proofs.vectors.put_behind.Goals as goal

pub loop-zone-init : goal.loop-zone-init
loop-zone-init c = sym (append-nil c.args.found.now.items)

pub loop-zone-preserved : goal.loop-zone-preserved
loop-zone-preserved c =
    put_next c.args.found.now.items c.args.zones.now c.loop-zone.found.items c.push.new.self.items
    c.loop-zone.zone-index c.zone-item.result c.loop-zone.invariant c.in_ok-push.ensures.items
    c.loop-zone-test.true c.zone-item.is

pub returns : goal.returns
returns c =
    c.loop-zone.invariant
    ∙ ap (λ (list : List ZoneBounds). c.args.found.now.items ++ list)
    (take_all c.loop-zone.zone-index c.args.zones.now c.loop-zone-test.false)
