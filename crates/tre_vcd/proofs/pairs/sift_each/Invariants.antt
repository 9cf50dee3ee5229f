use Rattle.std.proofs.Common.{◌≡◌, ◌<◌, ℕ, List, Some, true}
use Rattle.std.specs.List.{slice_get}
use Rattle.tre_state.specs.Sieve.{MayBe}
use Rattle.tre_vcd.specs.Pairs.{reads_pair}
use Rattle.tre_vcd.specs.declared.pairs.Paired.{Paired}
use Rattle.tre_vcd.proofs.pairs.sift_each.Given as goal

-- those so far were told
abbrev pub invariant-loop-number : goal.invariant-loop-number
invariant-loop-number l = record {
  told : (k : ℕ) (paired : Paired) → k < l.number → slice_get l.list k ≡ Some paired
      → (identifier : List ℕ) → reads_pair paired identifier ≡ true → MayBe l.sieve identifier k;
  kept : (other : List ℕ) (k : ℕ) → MayBe l.initial.sieve other k → MayBe l.sieve other k;
}
