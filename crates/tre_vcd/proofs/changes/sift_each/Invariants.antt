use Rattle.std.proofs.Common.{◌≡◌, ◌<◌, ℕ, Some}
use Rattle.tre_define.specs.declared.part.Part.{Part}
use Rattle.tre_state.specs.Sieve.{MayBe}
use Rattle.tre_vcd.specs.VcdReading.{Asked}
use Rattle.tre_vcd.specs.Signals.{part_at}
use Rattle.tre_vcd.proofs.changes.sift_each.Given as goal

-- those so far were told
abbrev pub invariant-loop-number : goal.invariant-loop-number
invariant-loop-number l = (k : ℕ) (asked : Asked Part) → k < l.number
    → part_at l.list k ≡ Some asked → MayBe l.sieve asked.identifier k
