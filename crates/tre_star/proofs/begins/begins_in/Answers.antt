use Rattle.std.proofs.Common.{take}
use Rattle.std.proofs.lemmas.List.{take_more}
use Rattle.tre_star.proofs.SetBegins.{begins-none, begins-more}
use Rattle.tre_star.proofs.begins.begins_in.Goals as goal

pub loop-zone-init : goal.loop-zone-init
loop-zone-init c = rw c.new-found.ensures.items begins-none

pub loop-zone-preserved : goal.loop-zone-preserved
loop-zone-preserved c =
    rw (
      c.in_ok-push.ensures.items,
      take_more c.args.zones.now c.loop-zone.zone-index c.zone-item.result
          c.loop-zone-test.true,
      ← c.zone-item.is,
    )
    (begins-more c.loop-zone.found.items (take c.loop-zone.zone-index c.args.zones.now)
    c.begins.result c.zone-item.result c.loop-zone.invariant c.begins.ensures)
