use Rattle.std.proofs.Common.{◌≡◌, ◌≤◌, ◌++◌, length, drop}
use Rattle.tre_tell.specs.Blocks.{lines_with}
use Rattle.tre_tell.proofs.text.put_lines.Given as goal

-- the lines of the zones from the place on
abbrev pub invariant-loop-left : goal.invariant-loop-left
invariant-loop-left l = record {
  count : l.left ≤ length l.zones;
  within : l.at ≤ length l.text.items;
  lines : drop l.at l.text.items
      ≡ lines_with l.scale l.label (drop l.left l.zones) ++ drop l.begin l.initial.text.items;
}

abbrev pub decreases-loop-left : goal.decreases-loop-left
decreases-loop-left l = l.left
