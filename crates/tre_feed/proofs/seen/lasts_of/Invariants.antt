use Rattle.std.proofs.Common.{◌≡◌, map, take}
use Rattle.tre_feed.specs.Seen.{last_seen, lasts_in}
use Rattle.tre_feed.proofs.seen.lasts_of.Given as goal

abbrev pub invariant-loop-view : goal.invariant-loop-view
invariant-loop-view g l = l.lasts.items
    ≡ map (last_seen (lasts_in l.each)) (take l.view-index l.views)
