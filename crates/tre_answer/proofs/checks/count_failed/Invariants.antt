use Rattle.std.proofs.Common.{◌≡◌, take}
use Rattle.std.specs.List.{count_by}
use Rattle.tre_answer.specs.Findings.{is_failed}
use Rattle.tre_answer.specs.declared.checks.Checked.{Checked}
use Rattle.tre_answer.proofs.checks.count_failed.Given as goal

-- those of the checks so far
abbrev pub invariant-loop-checked : goal.invariant-loop-checked
invariant-loop-checked l = l.failed
    ≡ count_by (λ (checked : Checked). is_failed checked.verdict) (take l.checked-index l.checks)
