use Rattle.std.proofs.Common.{◌≤◌, All, take}
use Rattle.tre_trace.specs.declared.segment.Segment.{Segment}
use Rattle.tre_feed.proofs.view.are_up_to.Given as goal

abbrev pub invariant-loop-segment : goal.invariant-loop-segment
invariant-loop-segment l =
    All (λ (segment : Segment). (segment.val ≤ l.values) × (segment.ev ≤ l.happen))
    (take l.segment-index l.row)
