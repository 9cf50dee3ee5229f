use Rattle.std.proofs.Common.{◌≡◌, ◌≢◌, ◌∷◌, ℕ, List, false}
use Rattle.std.specs.Int.{bit_at}
use Rattle.tre_vcd.specs.VcdReading.{Form, Statement, change}
use Rattle.tre_vcd.specs.Signals.{KnowsAt, SameAsked, part_at, reads_part, watched_at}
use Rattle.tre_vcd.proofs.changes.tell.Given as goal

-- those that were looked at are told, and the others are as they were
abbrev pub invariant-loop-left : goal.invariant-loop-left
invariant-loop-left l = record {
  told : (past : List Statement) (form : Form)
      → ((k : ℕ) → KnowsAt (watched_at l.fn.list k) (bit_at l.fn.said k) (bit_at l.fn.happened k)
      past) → ((k : ℕ) → bit_at l.numbers k ≢ 1
      → reads_part (part_at l.fn.list k) l.identifier ≡ false) → (k : ℕ) → bit_at l.left k ≢ 1
      → KnowsAt (watched_at l.list k) (bit_at l.said k) (bit_at l.happened k)
      (change form l.identifier l.letters ∷ past);
  left : (past : List Statement)
      → ((k : ℕ) → KnowsAt (watched_at l.fn.list k) (bit_at l.fn.said k) (bit_at l.fn.happened k)
      past) → (k : ℕ) → bit_at l.left k ≡ 1
      → KnowsAt (watched_at l.list k) (bit_at l.said k) (bit_at l.happened k) past;
  same : SameAsked l.fn.list l.list;
}

abbrev pub decreases-loop-left : goal.decreases-loop-left
decreases-loop-left l = l.left
