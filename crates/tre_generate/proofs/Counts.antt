-- How many places a property holds of.
use Rattle.std.proofs.Common.{◌≡◌, ℕ, zero, suc, ◌+◌, ◌≤◌, ◌↔◌, sym, inl, inr, ⊎_elim, ap, ◌∙◌, add-one, arith}
use Rattle.tre_generate.specs.Probes.{IsCounted, IsCountOf}

pub counted_along : {P Q : Type 0} → P ↔ Q → (m n : ℕ) → IsCounted P m n → IsCounted Q m n
counted_along same m n counted =
    ⊎_elim (λ x. inl (same.0 x.0, x.1)) (λ x. inr ((λ q. x.0 (same.1 q)), x.1)) counted

counted_le : {P : Type 0} → (m n : ℕ) → IsCounted P m n → n ≤ m + 1
counted_le m n counted =
    ⊎_elim (λ x. let is = x.1 in omega (arith, is)) (λ x. let is = x.1 in omega (arith, is)) counted

-- No more places are counted than there are.
pub count_le : (P : ℕ → Type 0) (limit number : ℕ) → IsCountOf P limit number → number ≤ limit
count_le P zero number count = omega (arith, count)
count_le P (suc limit) number (fewer, count, counted) =
    let least = count_le P limit fewer count in
    let next = counted_le fewer number counted in
    omega (arith, least, next)

-- One more place.
pub count_next : (P : ℕ → Type 0) (limit fewer number : ℕ) → IsCountOf P limit fewer
    → IsCounted (P limit) fewer number → IsCountOf P (limit + 1) number
count_next P limit fewer number count counted = rw (add-one limit) (fewer, count, counted)

pub count_along : (P Q : ℕ → Type 0) → ((place : ℕ) → P place ↔ Q place) → (limit number : ℕ)
    → IsCountOf P limit number → IsCountOf Q limit number
count_along P Q same zero number count = count
count_along P Q same (suc limit) number (fewer, count, counted) = (
  fewer,
  count_along P Q same limit fewer count,
  counted_along (same limit) fewer number counted,
)

counted_once : {P : Type 0} → (m n m' n' : ℕ) → m ≡ m' → IsCounted P m n → IsCounted P m' n'
    → n ≡ n'
counted_once m n m' n' same one other =
    ⊎_elim
    (λ x. ⊎_elim (λ y. x.1 ∙ ap (λ (k : ℕ). k + 1) same ∙ sym y.1) (λ y. absurd (y.0 x.0)) other)
    (λ x. ⊎_elim (λ y. absurd (x.0 y.0)) (λ y. x.1 ∙ same ∙ sym y.1) other)
    one

-- There is one number of places that a property holds of.
pub count_once : (P : ℕ → Type 0) (limit m n : ℕ) → IsCountOf P limit m → IsCountOf P limit n
    → m ≡ n
count_once P zero m n one other = one ∙ sym other
count_once P (suc limit) m n (fewer, count, counted) (fewer', count', counted') =
    counted_once fewer m fewer' n (count_once P limit fewer fewer' count count') counted counted'
