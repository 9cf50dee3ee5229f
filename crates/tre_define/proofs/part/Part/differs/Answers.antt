use Rattle.std.proofs.Common.{◌≡◌, ◌+◌, ◌-◌, min, max, length, inl, inr, sym, subst, arith, rules}
use Rattle.std.proofs.lemmas.Bool.{cases_lt}
use Rattle.std.proofs.lemmas.Bool.Decides.{nat_tests}
use Rattle.tre_define.specs.Values.{letter_at}
use Rattle.tre_define.proofs.Differing.{differ-at, differ-none, same-past}
use Rattle.tre_define.proofs.part.Part.differs.Goals as goal

pub returns-then-letter_at : goal.returns-then-letter_at
returns-then-letter_at c =
    search (rules, differ-at, c.args.old.now, c.args.new.now, c.args.self.low, c.loop-step.step)

pub loop-step-preserved : goal.loop-step-preserved
loop-step-preserved c = λ k below.
    elim (cases_lt k c.loop-step.step) [
      | inl before ↦ c.loop-step.invariant k before
      | inr not_before ↦
          let here : k ≡ c.loop-step.step = omega (arith, below, not_before) in
          let same : letter_at c.args.old.now (c.args.self.low + c.loop-step.step)
          ≡ letter_at c.args.new.now (c.args.self.low + c.loop-step.step) =
          grind (arith, nat_tests) in
          subst (λ n. letter_at c.args.old.now (c.args.self.low + n)
          ≡ letter_at c.args.new.now (c.args.self.low + n)) (sym here) same
    ]

pub returns : goal.returns
returns c =
    let old = c.args.old.now in
    let new = c.args.new.now in
    let low = c.args.self.low in
    let most = c.max-most.result in
    let longest : most ≡ max (length old) (length new) = c.max-most.ensures in
    let count : c.min-count.result ≡ min c.args.self.width (most - low + 1) =
    omega (arith, c.min-count.ensures, c.saturating_sub.ensures) in
    sym (differ-none low c.args.self.width old new (λ k below.
    elim (cases_lt k c.loop-step.step) [
      | inl before ↦ c.loop-step.invariant k before
      | inr not_before ↦
          let all : c.loop-step.step ≡ most - low + 1 =
          omega (arith, below, not_before, count, c.loop-step-test.false, c.loop-step.auto) in
          let last = c.loop-step.invariant (most - low) (omega (arith, all)) in
          same-past old new (low + (most - low)) (low + k)
          (omega (arith, longest)) (omega (arith, longest))
          (omega (arith, all, not_before)) last
    ]))
