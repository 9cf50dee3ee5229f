use Rattle.std.proofs.Common.{◌≡◌, length, take}
use Rattle.std.specs.List.{sum_by}
use Rattle.tre_answer.specs.Listed.{listed_zones}
use Rattle.tre_answer.specs.declared.checks.Checked.{Checked}
use Rattle.tre_answer.proofs.checks.count_zones.Given as goal

-- those of the checks so far
abbrev pub invariant-loop-checked : goal.invariant-loop-checked
invariant-loop-checked l = l.zones
    ≡ sum_by (λ (checked : Checked). length (listed_zones checked.zones))
    (take l.checked-index l.checks)
