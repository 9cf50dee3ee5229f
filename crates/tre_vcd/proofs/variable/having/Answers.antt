use Rattle.std.proofs.Common.{◌≡◌, Some, inl, inr, sym, ap, ◌∙◌, subst, arith}
use Rattle.std.specs.Int.{bit_at}
use Rattle.std.proofs.lemmas.Bool.{cases_eq}
use Rattle.std.proofs.lemmas.Nat.Bits.{bit_at-zero}
use Rattle.tre_vcd.specs.Kept.{identifier_at}
use Rattle.tre_vcd.proofs.variable.having.Goals as goal

pub returns-clause-sound : goal.returns-clause-sound
returns-clause-sound c = λ k set.
    let none : bit_at c.loop-left.left k ≡ 0 =
    ap (λ bits. bit_at bits k) c.loop-left-test.false ∙ bit_at-zero k in
    c.loop-left.invariant.sound k set (λ one. absurd (omega (arith, none, one)))

pub loop-left-preserved : goal.loop-left-preserved
loop-left-preserved c =
    let number = c.lowest-number.result in
    let before = c.loop-left.invariant in
    let test = c.tested-having.ensures in
    let rest = c.without-left.ensures in
    record {
      among = λ k left. elim (cases_eq k number) [
        | inl same ↦
            let gone : bit_at c.without-left.result k ≡ 0 =
            ap (bit_at c.without-left.result) same ∙ rest.gone in
            absurd (omega (arith, gone, left))
        | inr other ↦ (test.others k other).1 (before.among k (rest.no_more k left))
      ];
      sound = λ k set seen. elim (cases_eq k number) [
        | inl same ↦
            subst (λ n. identifier_at c.args.variables.now n ≡ Some c.args.identifier.now) (sym same)
            (test.this.0 (ap (bit_at c.tested-having.result) (sym same) ∙ set))
        | inr other ↦
            before.sound k ((test.others k other).0 set) (λ one. seen (rest.kept k other one))
      ];
      whole = λ k numbered has. elim (cases_eq k number) [
        | inl same ↦
            ap (bit_at c.tested-having.result) same
            ∙ test.this.1
            (subst (λ n. identifier_at c.args.variables.now n ≡ Some c.args.identifier.now) same has)
        | inr other ↦ (test.others k other).1 (before.whole k numbered has)
      ];
    }
