use Rattle.std.proofs.Common.{◌≢◌, ℕ, Bool, Option, inl, inr, sym, ap, ap₂, ◌∙◌, arith, rules}
use Rattle.std.specs.Int.{bit_at}
use Rattle.std.proofs.lemmas.Bool.{cases_eq}
use Rattle.std.proofs.lemmas.Nat.Bits.{bit_at-zero}
use Rattle.tre_vcd.specs.Signals.{bit_told, test_at, test_told}
use Rattle.tre_vcd.proofs.tests.tell.Goals as goal

pub returns-clause-told : goal.returns-clause-told
returns-clause-told c = search (rules, bit_at-zero, c.loop-left.left, c.loop-left.invariant.told)

pub loop-left-preserved : goal.loop-left-preserved
loop-left-preserved c =
    let number = c.lowest-number.result in
    let before = c.loop-left.invariant in
    let rest = c.without-left.ensures in
    let list = c.args.list.now in
    let told : ℕ → Option Bool = λ k. test_told (test_at list k) c.args.identifier.now c.args.letters.now in
    let was = before.left number c.lowest-number.ensures.set in
    record {
      among = λ k left. before.among k (rest.no_more k left);
      told = λ k set seen. elim (cases_eq k number) [
        | inl same ↦
            ap (bit_at c.set_told.new.values) same
            ∙ c.set_told.ensures.this
            ∙ ap₂ bit_told c.told_at.ensures was
            ∙ ap (λ n. bit_told (told n) (bit_at c.args.values.now n)) (sym same)
        | inr other ↦
            c.set_told.ensures.others k other
            ∙ before.told k set (λ one. seen (rest.kept k other one))
      ];
      left = λ k left.
          let other : k ≢ number = λ same.
          absurd (omega (arith, left, ap (bit_at c.without-left.result) same, rest.gone)) in
          c.set_told.ensures.others k other ∙ before.left k (rest.no_more k left);
      kept = λ k clear.
          let other : k ≢ number = λ same. clear (before.among k
          (ap (bit_at c.loop-left.left) same ∙ c.lowest-number.ensures.set)) in
          c.set_told.ensures.others k other ∙ before.kept k clear;
    }
