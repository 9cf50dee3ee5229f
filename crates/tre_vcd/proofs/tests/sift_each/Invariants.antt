use Rattle.std.proofs.Common.{◌≡◌, ◌<◌, ℕ, Some}
use Rattle.tre_define.specs.declared.test.Test.{Test}
use Rattle.tre_state.specs.Sieve.{MayBe}
use Rattle.tre_vcd.specs.VcdReading.{Asked}
use Rattle.tre_vcd.specs.Signals.{test_at}
use Rattle.tre_vcd.proofs.tests.sift_each.Given as goal

-- those so far were told
abbrev pub invariant-loop-number : goal.invariant-loop-number
invariant-loop-number l = (k : ℕ) (asked : Asked Test) → k < l.number
    → test_at l.list k ≡ Some asked → MayBe l.sieve asked.identifier k
