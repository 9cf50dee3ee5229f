use Rattle.std.proofs.Common.{◌≡◌, sym, ap, ◌∙◌, arith}
use Rattle.std.proofs.lemmas.Nat.Bits.{bit_at-zero}
use Rattle.std.specs.Int.{bit_at}
use Rattle.tre_vcd.specs.Kept.{identifier_at}
use Rattle.tre_vcd.proofs.variables.Variables.having.Goals as goal

pub returns-then-numbers-eq0 : goal.returns-then-numbers-eq0
returns-then-numbers-eq0 c = λ sieve. record {
  sound = λ k set. absurd (omega (arith, set, bit_at-zero k));
  whole = λ k at.
      let set : bit_at c.numbers-numbers.result k ≡ 1 =
      c.numbers-numbers.ensures k (sieve.each k c.args.identifier.now at) in
      absurd (omega (
        arith,
        sym (ap (λ bits. bit_at bits k) c.if-numbers-eq0.true) ∙ set,
        bit_at-zero k,
      ));
}

pub returns : goal.returns
returns c = λ sieve.
    let same = c.deref.ensures.value in
    record {
      sound = λ k set. ap (λ all. identifier_at all k) (sym same) ∙ c.having.ensures.sound k set;
      whole = λ k at. c.having.ensures.whole k
          (c.numbers-numbers.ensures k (sieve.each k c.args.identifier.now at))
          (ap (λ all. identifier_at all k) same ∙ at);
    }
