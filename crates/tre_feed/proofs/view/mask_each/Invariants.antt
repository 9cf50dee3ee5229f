use Rattle.std.proofs.Common.{◌≡◌, ◌++◌, map, take, drop}
use Rattle.tre_feed.specs.Shown.{masked_segment}
use Rattle.tre_feed.proofs.view.mask_each.Given as goal

abbrev pub invariant-loop-segment : goal.invariant-loop-segment
invariant-loop-segment l = l.segment-items
    ≡ map (masked_segment l.names l.events) (take l.segment-index l.fn.row)
    ++ drop l.segment-index l.fn.row
