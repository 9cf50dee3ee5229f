use Rattle.std.proofs.Common.{◌≡◌, ◌+◌, ◌-◌, min, length, inl, inr, sym, subst, ◌∙◌, arith, rules}
use Rattle.std.proofs.lemmas.Bool.{cases_lt}
use Rattle.std.proofs.lemmas.Bool.Decides.{nat_tests}
use Rattle.tre_define.specs.Values.{letter_at}
use Rattle.tre_define.proofs.Differing.{has-at, has-none, same-letter}
use Rattle.tre_define.proofs.part.Part.has.Goals as goal

pub returns-then-letter_at-letter : goal.returns-then-letter_at-letter
returns-then-letter_at-letter c =
    sym (has-at c.args.letter c.args.self.low c.args.self.width c.loop-step.step c.args.letters.now
    (omega (arith, c.loop-step-test.true, c.min-count.ensures))
    (sym c.letter_at.ensures ∙ c.if-letter_at-letter.true))

pub loop-step-preserved : goal.loop-step-preserved
loop-step-preserved c = λ k below here.
    elim (cases_lt k c.loop-step.step) [
      | inl before ↦ c.loop-step.invariant k before here
      | inr not_before ↦
          let at : k ≡ c.loop-step.step = omega (arith, below, not_before) in
          c.if-letter_at-letter.false (c.letter_at.ensures
          ∙ subst (λ n. letter_at c.args.letters.now (c.args.self.low + n) ≡ c.args.letter) at here)
    ]

pub returns : goal.returns
returns c =
    let letters = c.args.letters.now in
    let low = c.args.self.low in
    let most = length letters in
    let count : c.min-count.result ≡ min c.args.self.width (most - low + 1) =
    omega (arith, c.min-count.ensures, c.saturating_sub.ensures) in
    sym (has-none c.args.letter low c.args.self.width letters (λ k below here.
    elim (cases_lt k c.loop-step.step) [
      | inl before ↦ c.loop-step.invariant k before here
      | inr not_before ↦
          let all : c.loop-step.step ≡ most - low + 1 =
          omega (arith, below, not_before, count, c.loop-step-test.false, c.loop-step.auto) in
          c.loop-step.invariant (most - low) (omega (arith, all))
          (same-letter letters (low + (most - low)) (low + k) (omega arith)
          (omega (arith, all, not_before)) ∙ here)
    ]))
