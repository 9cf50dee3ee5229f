use Rattle.std.proofs.Common.{◌≡◌, ◌*◌, ◌%◌, ◌^◌, ◌<◌, suc, ap, ◌∙◌, arith, pow_pos, pow_mono}
use Rattle.std.specs.Int.{bit_at}
use Rattle.std.proofs.lemmas.Nat.Bits.{bit_at-pow_same, bit_at-pow_other}
use Rattle.std.proofs.Math.Nat.{two-pow-succ}
use Rattle.tre_vcd.proofs.variable.set_bit.Goals as goal

pub returns-clause-this : goal.returns-clause-this
returns-clause-this c =
    let k = c.args.number in
    let small : 2 ^ k < 2 ^ 64 =
    omega (arith, two-pow-succ k, pow_pos k, pow_mono {i = suc k} {j = 64} (omega (arith, c.requires))) in
    let one : 1 * 2 ^ k % 2 ^ 64 ≡ 2 ^ k = omega (arith, small) in
    c.set_value.ensures.changed k (ap (λ n. bit_at n k) one ∙ bit_at-pow_same k)

pub returns-clause-others : goal.returns-clause-others
returns-clause-others c = λ i other.
    let k = c.args.number in
    let small : 2 ^ k < 2 ^ 64 =
    omega (arith, two-pow-succ k, pow_pos k, pow_mono {i = suc k} {j = 64} (omega (arith, c.requires))) in
    let one : 1 * 2 ^ k % 2 ^ 64 ≡ 2 ^ k = omega (arith, small) in
    c.set_value.ensures.kept i
    (λ set. absurd (omega (arith, ap (λ n. bit_at n i) one, bit_at-pow_other k i other, set)))
