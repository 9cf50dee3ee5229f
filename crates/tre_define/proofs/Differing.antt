-- Two values that have other letters at a bit of a part, and one that has a letter there.
use Rattle.std.proofs.Common.{◌≡◌, ℕ, zero, suc, ◌+◌, ◌<◌, ◌≤◌, Bool, true, false, List, length, refl, ap, subst, ◌∙◌, arith, rules}
use Rattle.std.specs.Prelude.{not, ◌||◌, ◌==◌}
use Rattle.std.proofs.lemmas.Bool.Decides.{nat_tests}
use Rattle.tre_define.specs.Values.{differ_from, extension, has_from, letter_at}

-- whether the letters of the bits at a place differ
abbrev other_at : ℕ → List ℕ → List ℕ → Bool
other_at bit old new = not (letter_at old bit == letter_at new bit)

other-same : (a b : ℕ) → a ≡ b → not (a == b) ≡ false
other-same a b same = grind (arith, nat_tests)

other-differs : (a b : ℕ) → (a ≡ b → ⊥) → not (a == b) ≡ true
other-differs a b differ = grind (arith, nat_tests)

either : (a b : Bool) → b ≡ true → (a || b) ≡ true
either true b e = refl
either false b e = e

pub differ-at : (low width k : ℕ) (old new : List ℕ) → k < width
    → (letter_at old (low + k) ≡ letter_at new (low + k) → ⊥)
    → differ_from low width old new ≡ true
differ-at low zero k old new below differs = absurd (omega (arith, below))
differ-at low (suc width) zero old new below differs =
    let same : low + 0 ≡ low = omega arith in
    let here = other-differs (letter_at old low) (letter_at new low)
    (subst (λ n. letter_at old n ≡ letter_at new n → ⊥) same differs) in
    ap (λ t. t || differ_from (low + 1) width old new) here
differ-at low (suc width) (suc k) old new below differs =
    let same : low + suc k ≡ low + 1 + k = omega arith in
    either (other_at low old new) (differ_from (low + 1) width old new)
    (differ-at (low + 1) width k old new (omega (arith, below))
    (subst (λ n. letter_at old n ≡ letter_at new n → ⊥) same differs))

pub differ-none : (low width : ℕ) (old new : List ℕ)
    → ((k : ℕ) → k < width → letter_at old (low + k) ≡ letter_at new (low + k))
    → differ_from low width old new ≡ false
differ-none low zero old new all = refl
differ-none low (suc width) old new all =
    let same : low + 0 ≡ low = omega arith in
    let here = other-same (letter_at old low) (letter_at new low)
    (subst (λ n. letter_at old n ≡ letter_at new n) same (all 0 (omega arith))) in
    let more = differ-none (low + 1) width old new (λ k below.
    let next : low + suc k ≡ low + 1 + k = omega arith in
    subst (λ n. letter_at old n ≡ letter_at new n) next (all (suc k) (omega (arith, below)))) in
    ap (λ t. t || differ_from (low + 1) width old new) here ∙ more

-- past its letters a value goes on with one
past : (letters : List ℕ) (bit : ℕ) → length letters ≤ bit → letter_at letters bit ≡ extension letters
past letters bit beyond = search rules

-- Past the letters of both values one bit tells of all others.
pub same-past : (old new : List ℕ) (one other : ℕ) → length old ≤ one → length new ≤ one
    → one ≤ other → letter_at old one ≡ letter_at new one
    → letter_at old other ≡ letter_at new other
same-past old new one other in_old in_new order same = search rules

-- ---- one bit has a letter

has-here : (a b : ℕ) → a ≡ b → (a == b) ≡ true
has-here a b same = grind (arith, nat_tests)

has-not : (a b : ℕ) → (a ≡ b → ⊥) → (a == b) ≡ false
has-not a b other = grind (arith, nat_tests)

pub has-at : (letter low width k : ℕ) (letters : List ℕ) → k < width
    → letter_at letters (low + k) ≡ letter → has_from letter low width letters ≡ true
has-at letter low zero k letters below here = absurd (omega (arith, below))
has-at letter low (suc width) zero letters below here =
    let same : low + 0 ≡ low = omega arith in
    let at_low = has-here (letter_at letters low) letter
    (subst (λ n. letter_at letters n ≡ letter) same here) in
    ap (λ t. t || has_from letter (low + 1) width letters) at_low
has-at letter low (suc width) (suc k) letters below here =
    let same : low + suc k ≡ low + 1 + k = omega arith in
    either (letter_at letters low == letter) (has_from letter (low + 1) width letters)
    (has-at letter (low + 1) width k letters (omega (arith, below))
    (subst (λ n. letter_at letters n ≡ letter) same here))

pub has-none : (letter low width : ℕ) (letters : List ℕ)
    → ((k : ℕ) → k < width → letter_at letters (low + k) ≡ letter → ⊥)
    → has_from letter low width letters ≡ false
has-none letter low zero letters none = refl
has-none letter low (suc width) letters none =
    let same : low + 0 ≡ low = omega arith in
    let here = has-not (letter_at letters low) letter
    (subst (λ n. letter_at letters n ≡ letter → ⊥) same (none 0 (omega arith))) in
    let more = has-none letter (low + 1) width letters (λ k below.
    let next : low + suc k ≡ low + 1 + k = omega arith in
    subst (λ n. letter_at letters n ≡ letter → ⊥) next (none (suc k) (omega (arith, below)))) in
    ap (λ t. t || has_from letter (low + 1) width letters) here ∙ more

pub same-letter : (letters : List ℕ) (one other : ℕ) → length letters ≤ one → one ≤ other
    → letter_at letters one ≡ letter_at letters other
same-letter letters one other beyond order = search rules
