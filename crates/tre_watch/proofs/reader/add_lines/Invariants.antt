use Rattle.std.proofs.Common.{◌+◌, ◌≤◌, length}
use Rattle.tre_watch.specs.Steps.{spelt_checks}
use Rattle.tre_watch.proofs.Lines.{Reaches}
use Rattle.tre_watch.proofs.reader.add_lines.Given as goal

abbrev pub invariant-loop-end : goal.invariant-loop-end
invariant-loop-end l = record {
  reaches : Reaches l.verdicts l.scale l.bytes (spelt_checks l.fn.checks) (spelt_checks l.checks)
      l.number l.rest;
  small : l.number + length l.rest ≤ length l.bytes + 1;
}

abbrev pub decreases-loop-end : goal.decreases-loop-end
decreases-loop-end l = length l.rest
