use Rattle.std.proofs.Common.{◌≡◌, bit_and, min, sym, ap, ap₂, ◌∙◌, arith}
use Rattle.std.specs.Int.{bit_at}
use Rattle.std.specs.Int.Bits.{and_zero_r}
use Rattle.std.proofs.lemmas.Bool.Decides.{nat_tests}
use Rattle.std.proofs.lemmas.Nat.Bits.{bit_at_and, bit_at-zero}
use Rattle.tre_vcd.specs.Signals.{bit_told, test_at, test_told}
use Rattle.tre_vcd.proofs.Testing.{tests-changed}
use Rattle.tre_vcd.proofs.tests.Tests.change.Goals as goal

pub returns-clause-knows : goal.returns-clause-knows
returns-clause-knows c = λ all names past form ended knows.
    let kept = c.args.self.now in
    let identifier = c.args.identifier.now in
    let letters = c.args.letters.now in
    tests-changed all names kept past form identifier letters c.numbers-numbers.result
    c.tell.new.values ended c.numbers-numbers.ensures
    (λ k set. c.tell.ensures.told k set
    ∙ ap (λ list. bit_told (test_told (test_at list k) identifier letters) (bit_at kept.values k))
    c.deref.ensures.value)
    c.tell.ensures.kept knows

pub returns-clause-apart : goal.returns-clause-apart
returns-clause-apart c = λ is k may other.
    let numbers = c.numbers-numbers.result in
    let none : bit_and numbers c.args.others ≡ 0 = grind (arith, nat_tests) in
    let both : bit_at (bit_and numbers c.args.others) k ≡ 1 =
    bit_at_and numbers c.args.others k ∙ ap₂ min (c.numbers-numbers.ensures k may) other in
    omega (arith, both, ap (λ n. bit_at n k) none, bit_at-zero k)
