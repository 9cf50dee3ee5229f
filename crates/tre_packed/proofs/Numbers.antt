-- A number by its bits.
use Rattle.std.proofs.Common.{◌≡◌, ℕ, zero, suc, ◌/◌, ◌^◌, ◌<◌, refl, ◌∙◌, arith}
use Rattle.std.proofs.Math.Nat.{pow-suc}
use Rattle.std.proofs.lemmas.Nat.Bits.{bit_at_lowest, bit_at-suc}
use Rattle.std.specs.Int.{bit_at}
use Rattle.tre_packed.specs.Unpacked.{number_of}

same_number : (count : ℕ) (f g : ℕ → ℕ) → ((i : ℕ) → i < count → f i ≡ g i)
    → number_of count f ≡ number_of count g
unfolding number_of
same_number zero f g same = refl
same_number (suc count) f g same =
    let rest = same_number count (λ i. f (suc i)) (λ i. g (suc i))
    (λ i below. same (suc i) (omega (arith, below))) in
    omega (arith, same 0 (omega arith), rest)

number_again : (count v : ℕ) → v < 2 ^ count → number_of count (bit_at v) ≡ v
unfolding number_of
number_again zero v below = omega (arith, below)
number_again (suc count) v below =
    let half : v / 2 < 2 ^ count = omega (arith, below, pow-suc 2 count) in
    let rest : number_of count (λ i. bit_at v (suc i)) ≡ v / 2 =
    same_number count (λ i. bit_at v (suc i)) (bit_at (v / 2)) (λ i _. bit_at-suc v i)
    ∙ number_again count (v / 2) half in
    omega (arith, bit_at_lowest v, rest)

-- the number that has just these bits
pub number_is : (count : ℕ) (f : ℕ → ℕ) (v : ℕ) → v < 2 ^ count
    → ((i : ℕ) → i < count → f i ≡ bit_at v i) → number_of count f ≡ v
number_is count f v below same = same_number count f (bit_at v) same ∙ number_again count v below
