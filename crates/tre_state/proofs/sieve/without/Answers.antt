use Rattle.std.proofs.Common.{◌≡◌, suc, ◌-◌, ◌*◌, ◌%◌, ◌^◌, ◌<◌, sym, ap, subst, ◌∙◌, arith, w64, bit_and, pow_pos, pow_mono, inl, inr}
use Rattle.std.specs.Int.{bit_not}
use Rattle.std.proofs.lemmas.Bool.{cases_lt}
use Rattle.std.proofs.lemmas.Nat.Bits.{bit_at_clear_other, bit_at_clear_same, bit_at_and, bit_at_above, bit_at-lt, and_pow}
use Rattle.std.proofs.lemmas.Nat.{and-not, and_comm}
use Rattle.std.proofs.Math.Nat.{two-pow-succ}
use Rattle.tre_state.proofs.sieve.without.Goals as goal

pub returns-clause-kept : goal.returns-clause-kept
returns-clause-kept c k apart set =
    elim (cases_lt k 64) [
      | inl below ↦
          bit_at_clear_other w64 c.args.bits c.args.bit c.requires.within k below apart ∙ set
      | inr above ↦
          absurd (omega (arith, bit_at_above c.args.bits 64 k c.ranges.bits.fits above, set))
    ]

pub returns-clause-no_more : goal.returns-clause-no_more
returns-clause-no_more c k set =
    omega (arith, set, bit_at_and c.args.bits (bit_not w64 (1 * 2 ^ c.args.bit % 2 ^ 64)) k, bit_at-lt c.args.bits k)

pub returns-clause-gone : goal.returns-clause-gone
returns-clause-gone c = bit_at_clear_same w64 c.args.bits c.args.bit c.requires.within

pub returns-clause-less : goal.returns-clause-less
returns-clause-less c =
    let m = c.args.bits in
    let k = c.args.bit in
    let small : 2 ^ k < 2 ^ 64 =
    omega (arith, two-pow-succ k, pow_pos k, pow_mono {i = suc k} {j = 64} (omega (arith, c.requires.within))) in
    let one : 1 * 2 ^ k % 2 ^ 64 ≡ 2 ^ k = omega (arith, small) in
    let parts = and-not 64 (2 ^ k) m small c.ranges.bits.fits in
    let there : bit_and (2 ^ k) m ≡ 1 * 2 ^ k =
    and_comm _ _ ∙ and_pow m k ∙ ap (λ x. x * 2 ^ k) c.requires.set in
    subst (λ x. bit_and m (2 ^ 64 - 1 - x) < m) (sym one)
    (omega (arith, parts, there, and_comm m (2 ^ 64 - 1 - 2 ^ k), pow_pos k))
