-- A bit of a number, as it is tested by a shift, and as it is read.
use Rattle.std.proofs.Common.{◌≡◌, ◌↔◌, ℕ, ◌/◌, ◌^◌, ◌∙◌, sym, arith, bit_and}
use Rattle.std.specs.Prelude.{IsTrue, IsBitSet, nat_eq}
use Rattle.std.specs.Int.{bit_at}
use Rattle.std.proofs.lemmas.Bool.Decides.{nat_tests}
use Rattle.std.proofs.lemmas.Nat.{bit_set_by_shift}
use Rattle.std.proofs.lemmas.Nat.Bits.{shr_and_one}

pub bit_test : (n k : ℕ) → IsTrue (nat_eq (bit_and (n / 2 ^ k) 1) 1) ↔ IsBitSet n k
bit_test n k =
    let shift = bit_set_by_shift n k in
    let test : IsTrue (nat_eq (bit_and (n / 2 ^ k) 1) 1) ↔ (bit_and (n / 2 ^ k) 1 ≡ 1) =
    grind (arith, nat_tests) in
    (λ t. shift.0 (test.0 t), λ s. test.1 (shift.1 s))

pub bit_is : (n k : ℕ) → (bit_at n k ≡ 1) ↔ IsBitSet n k
bit_is n k =
    let shift = bit_set_by_shift n k in
    (λ e. shift.0 (shr_and_one n k ∙ e), λ set. sym (shr_and_one n k) ∙ shift.1 set)
