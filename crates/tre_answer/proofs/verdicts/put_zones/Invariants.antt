use Rattle.std.proofs.Common.{◌-◌, ◌++◌, ◌≤◌, codes, length, take}
use Rattle.tre_tell.specs.Blocks.{lines_with}
use Rattle.tre_tell.specs.Outputs.{output_told}
use Rattle.tre_tell.specs.Streams.{WroteText}
use Rattle.tre_answer.specs.Listed.{listed_zones}
use Rattle.tre_answer.proofs.verdicts.put_zones.Given as goal

-- the lines of the zones so far were written
abbrev pub invariant-loop-from : goal.invariant-loop-from
invariant-loop-from g l = record {
  within : l.from ≤ length (listed_zones l.zones);
  written : WroteText (output_told (g.O.Sink.told l.initial.out) (g.O.Sink.told l.out))
      (lines_with l.scale (l.name ++ codes " ") (take l.from (listed_zones l.zones)));
}

abbrev pub decreases-loop-from : goal.decreases-loop-from
decreases-loop-from g l = length (listed_zones l.zones) - l.from
