use Rattle.std.proofs.Common.{◌≡◌, ◌-◌, ◌*◌, ◌+◌, ◌++◌, ◌≤◌, codes, drop, length}
use Rattle.std.specs.List.{slice_range}
use Rattle.tre_tell.specs.Blocks.{lines_with}
use Rattle.tre_answer.specs.Listed.{listed_zones}
use Rattle.tre_answer.proofs.verdicts.write_named.Given as goal

-- the lines of the zones from the place on
abbrev pub invariant-loop-left : goal.invariant-loop-left
invariant-loop-left l = record {
  late : l.from ≤ l.left;
  early : l.left ≤ l.to;
  within : l.begin ≤ length l.buffer;
  room : (l.left - l.from) * (length l.name + 193) ≤ l.begin;
  lines : drop l.begin l.buffer ≡ lines_with l.scale (l.name ++ codes " ")
      (slice_range (listed_zones l.zones) l.left l.to);
}

abbrev pub decreases-loop-left : goal.decreases-loop-left
decreases-loop-left l = l.left
