use Rattle.std.proofs.Common.{◌≡◌, drop, map, string_bytes}
use Rattle.tre_answer.specs.Printing.{finding_of}
use Rattle.tre_answer.proofs.Rulings.{AreSoFar}
use Rattle.tre_answer.proofs.checks.check_all.Given as goal

-- the checks before the place are judged, and the traces behind them are left
abbrev pub invariant-loop-form : goal.invariant-loop-form
invariant-loop-form l = record {
  left : l.left.items ≡ drop l.place l.fn.traces.items;
  so_far : AreSoFar l.normal l.asked.forms.items (map string_bytes l.asked.labels.items)
      l.asked.patterns.items l.fn.traces.items l.form-index l.place (map finding_of l.all.items);
}
