use Rattle.std.proofs.Common.{◌≡◌, ◌≢◌, ◌∷◌, ℕ, List, false}
use Rattle.std.specs.Int.{bit_at}
use Rattle.std.specs.List.{slice_get}
use Rattle.tre_vcd.specs.VcdReading.{Form, Statement, change}
use Rattle.tre_vcd.specs.Pairs.{KnowsPairAt, SamePaired, reads_at}
use Rattle.tre_vcd.proofs.pairs.tell.Given as goal

-- those that were looked at are told, and the others are as they were
abbrev pub invariant-loop-left : goal.invariant-loop-left
invariant-loop-left l = record {
  told : (past : List Statement) (form : Form)
      → ((k : ℕ) → KnowsPairAt past (slice_get l.fn.list k) (bit_at l.fn.values k))
      → ((k : ℕ) → bit_at l.numbers k ≢ 1 → reads_at (slice_get l.fn.list k) l.identifier ≡ false)
      → (k : ℕ) → bit_at l.left k ≢ 1 → KnowsPairAt (change form l.identifier l.letters ∷ past)
      (slice_get l.list k) (bit_at l.values k);
  left : (past : List Statement)
      → ((k : ℕ) → KnowsPairAt past (slice_get l.fn.list k) (bit_at l.fn.values k)) → (k : ℕ)
      → bit_at l.left k ≡ 1 → KnowsPairAt past (slice_get l.list k) (bit_at l.values k);
  same : SamePaired l.fn.list l.list;
}

abbrev pub decreases-loop-left : goal.decreases-loop-left
decreases-loop-left l = l.left
