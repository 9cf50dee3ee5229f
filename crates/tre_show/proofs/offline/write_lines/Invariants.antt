use Rattle.std.proofs.Common.{◌≡◌, ◌-◌, ◌*◌, ◌++◌, ◌≤◌, drop}
use Rattle.std.specs.List.{slice_range}
use Rattle.tre_show.specs.Line.{lines_of}
use Rattle.tre_show.proofs.offline.write_lines.Given as goal

-- the lines of the zones from the place on
abbrev pub invariant-loop-left : goal.invariant-loop-left
invariant-loop-left g l = record {
  late : l.from ≤ l.left;
  early : l.left ≤ l.to;
  room : (l.left - l.from) * 192 ≤ l.begin;
  within : l.begin ≤ l.end;
  lines : drop l.begin l.buffer
      ≡ lines_of l.scale (slice_range (g.Z.Zones.zones l.zones) l.left l.to)
      ++ drop l.end l.initial.buffer;
}

abbrev pub decreases-loop-left : goal.decreases-loop-left
decreases-loop-left g l = l.left
