use mathlib.Core.Bool.{beq}
use Rattle.std.proofs.Common.{◌≡◌, Bool, true, false, sym, ◌∙◌, true≢false, arith}
use Rattle.tre_strips.proofs.Order.{IsSettled-cut}
use Rattle.tre_strips.proofs.times.Times.settle.Goals as goal
use Rattle.tre_strips.proofs.times.Times.settle.Goals.{then-one, else-one}

contrary : (m k : Bool) → beq m k ≡ true → m ≡ true → k ≡ false → ⊥
contrary true true e p q = true≢false q
contrary true false e p q = true≢false (sym e)
contrary false k e p q = true≢false (sym p)

contrary'' : (m k : Bool) → beq m k ≡ true → m ≡ false → k ≡ true → ⊥
contrary'' true k e p q = true≢false p
contrary'' false true e p q = true≢false (sym e)
contrary'' false false e p q = true≢false (sym q)

contrary' : (m : Bool) → m ≡ true → m ≡ false → ⊥
contrary' m p q = true≢false (sym p ∙ q)

pub returns-then-one-other-clause-settled : goal.returns-then-one-other-clause-settled
returns-then-one-other-clause-settled c =
    IsSettled-cut c.args.self.now c.args.one.now c.args.other.now (
      (λ p q lt. absurd (contrary c.args.one.now.moves c.args.other.now.moves
          c.if-one-other.true p q)),
      (λ p q lt. absurd (contrary'' c.args.one.now.moves c.args.other.now.moves
          c.if-one-other.true p q)),
    )

pub returns-then-self-meeting-clause-settled : goal.returns-then-self-meeting-clause-settled
returns-then-self-meeting-clause-settled c =
    let cut = c.min-self.ensures in
    IsSettled-cut _ c.args.one.now c.args.other.now (elim c.if-one.branch [
      | then-one w ↦
          let meeting = w.saturating_sub-meeting.ensures in
          let is = w.meeting-is in
          ((λ p q lt. omega arith), (λ p q lt. absurd (contrary' _ w.if-one.true p)))
      | else-one w ↦
          let meeting = w.saturating_sub-meeting-else-one.ensures in
          let is = w.meeting-is in
          ((λ p q lt. absurd (contrary' _ p w.if-one.false)), (λ p q lt. omega arith))
    ])

pub returns-else-self-meeting-clause-settled : goal.returns-else-self-meeting-clause-settled
returns-else-self-meeting-clause-settled c =
    let past = c.if-self-meeting.false in
    IsSettled-cut c.args.self.now c.args.one.now c.args.other.now (elim c.if-one.branch [
      | then-one w ↦
          let meeting = w.saturating_sub-meeting.ensures in
          let is = w.meeting-is in
          ((λ p q lt. absurd (omega arith)), (λ p q lt. absurd (contrary' _ w.if-one.true p)))
      | else-one w ↦
          let meeting = w.saturating_sub-meeting-else-one.ensures in
          let is = w.meeting-is in
          ((λ p q lt. absurd (contrary' _ p w.if-one.false)), (λ p q lt. absurd (omega arith)))
    ])
