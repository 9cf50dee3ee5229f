use Rattle.std.proofs.Common.{◌-◌, ◌≤◌, length, take}
use Rattle.tre_show.specs.Line.{lines_of}
use Rattle.tre_tell.specs.Outputs.{output_told}
use Rattle.tre_tell.specs.Streams.{WroteText}
use Rattle.tre_answer.proofs.printing.write_matches.Given as goal

-- the lines of the zones so far were written
abbrev pub invariant-loop-from : goal.invariant-loop-from
invariant-loop-from g l = record {
  within : l.from ≤ length (g.Z.Zones.zones l.zones);
  written : WroteText (output_told (g.O.Sink.told l.initial.out) (g.O.Sink.told l.out))
      (lines_of l.scale (take l.from (g.Z.Zones.zones l.zones)));
}

abbrev pub decreases-loop-from : goal.decreases-loop-from
decreases-loop-from g l = length (g.Z.Zones.zones l.zones) - l.from
