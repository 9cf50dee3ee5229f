use Rattle.std.proofs.Common.{All, take}
use Rattle.tre_zone.specs.Held.{Held}
use Rattle.tre_forms.specs.Begun.{BeginsBefore}
use Rattle.tre_node.specs.IsNode.{IsStretch}
use Rattle.tre_node.specs.Stretches.{AddsMoments}
use Rattle.tre_node.proofs.stretches.add_begins.Given as goal

abbrev pub invariant-loop-zone : goal.invariant-loop-zone
invariant-loop-zone l =
    AddsMoments l.initial.begun.items (BeginsBefore l.time (Held (take l.zone-index l.entering)))
    l.begun.items
    × (All (IsStretch l.time) l.initial.begun.items → All (IsStretch l.time) l.begun.items)
