use Rattle.std.proofs.Common.{length, ◌-◌, ◌≤◌}
use Rattle.tre_parse.specs.Scan.{LeadsTo}
use Rattle.tre_parse.proofs.scan.scan_text.Given as goal

abbrev pub invariant-loop-at : goal.invariant-loop-at
invariant-loop-at l = record {
  leads : LeadsTo l.text l.initial.scan 0 l.scan l.at;
  within : l.at ≤
      length l.text;
}

abbrev pub decreases-loop-at : goal.decreases-loop-at
decreases-loop-at l = length l.text - l.at
