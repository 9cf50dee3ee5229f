-- What a sieve tells of some bytes once a number is added.
use Rattle.std.proofs.Common.{◌≡◌, ℕ, ◌+◌, ◌-◌, ◌*◌, ◌/◌, ◌%◌, ◌^◌, ◌<◌, List, [], ◌∷◌, ◌++◌, length, length-append, get_or, set, inl, inr, refl, sym, ap, subst, ◌∙◌, arith, w64}
use Rattle.std.specs.Prelude.{slice_get, Some}
use Rattle.std.specs.Int.{bit_at}
use Rattle.std.specs.Int.Bits.{bit_or, bit_and}
use Rattle.std.proofs.Math.Seq.{get_or-append_seam}
use Rattle.std.proofs.lemmas.Bool.{cases_eq, cases_lt}
use Rattle.std.proofs.lemmas.List.{get_or-set_same, get_or-set_other, get_or_append_left}
use Rattle.std.proofs.lemmas.Option.{slice_get_within, get_or_from_slice_get}
use Rattle.std.proofs.lemmas.Nat.Bits.{bit_at_set_same, bit_at_or, bit_at_and, bit_at-lt}
use Rattle.tre_state.specs.Sieve.{slot_of, last_of, MayBe, AreSifted}

pub slot_none : (bytes : List ℕ) → length bytes ≡ 0 → 0 ≡ slot_of bytes
unfolding slot_of
slot_none [] none = refl
slot_none (byte ∷ bytes) none = absurd (omega (arith, none))

pub slot_is : (bytes : List ℕ) (last before middle : ℕ) → last ≡ get_or bytes (length bytes - 1) 0
    → before ≡ get_or bytes (length bytes - 2) 0 → middle ≡ get_or bytes (length bytes / 2) 0
    → (last + 10 * before + 4 * middle + 13 * (length bytes % 64)) % 64 ≡ slot_of bytes
unfolding slot_of
slot_is bytes last before middle one two three = rw (one, two, three) refl

or_kept : (a b k : ℕ) → bit_at a k ≡ 1 → bit_at (bit_or a b) k ≡ 1
or_kept a b k set = omega (arith, bit_at_or a b k, set, bit_at-lt b k)

pub last_none : (bytes : List ℕ) → length bytes ≡ 0 → 0 ≡ last_of bytes
unfolding last_of
last_none [] none = refl
last_none (byte ∷ bytes) none = absurd (omega (arith, none))

pub last_is : (bytes : List ℕ) → get_or bytes (length bytes - 1) 0 ≡ last_of bytes
unfolding last_of
last_is bytes = refl

pub slot-added : (masks : List ℕ) (slot k : ℕ) → slot < length masks → k < 64
    → bit_at (get_or (set masks slot (bit_or (get_or masks slot 0) (1 * 2 ^ k % 2 ^ 64))) slot 0) k
    ≡ 1
slot-added masks slot k within small =
    let mask = bit_or (get_or masks slot 0) (1 * 2 ^ k % 2 ^ 64) in
    ap (λ m. bit_at m k) (get_or-set_same masks slot mask 0 within)
    ∙ bit_at_set_same w64 (get_or masks slot 0) k small

pub slot-kept : (masks : List ℕ) (slot more : ℕ) → slot < length masks → (other k : ℕ)
    → bit_at (get_or masks other 0) k ≡ 1
    → bit_at (get_or (set masks slot (bit_or (get_or masks slot 0) more)) other 0) k ≡ 1
slot-kept masks slot more within other k set_there =
    let mask = bit_or (get_or masks slot 0) more in
    elim (cases_eq other slot) [
      | inl same ↦
          ap (λ i. bit_at (get_or (set masks slot mask) i 0) k) same
          ∙ ap (λ m. bit_at m k) (get_or-set_same masks slot mask 0 within)
          ∙ or_kept (get_or masks slot 0) more k
          (ap (λ i. bit_at (get_or masks i 0) k) (sym same) ∙ set_there)
      | inr apart ↦
          ap (λ m. bit_at m k) (get_or-set_other masks slot other mask 0 apart) ∙ set_there
    ]

pub both_set : (a b k : ℕ) → bit_at a k ≡ 1 → bit_at b k ≡ 1 → bit_at (bit_and a b) k ≡ 1
both_set a b k one other = omega (arith, bit_at_and a b k, one, other)

-- one more text, which the sieve was told of
pub sifted-push : (names : List (List ℕ)) (name : List ℕ) (old new : List ℕ) (place : ℕ)
    → place ≡ length names → AreSifted names old → MayBe new name place
    → ((other : List ℕ) (k : ℕ) → MayBe old other k → MayBe new other k)
    → AreSifted (names ++ name ∷ []) new
sifted-push names name old new place is sifted added kept = record {
  each = λ k within. elim (cases_lt k (length names)) [
    | inl before ↦
        subst (λ (text : List ℕ). MayBe new text k)
        (sym (get_or_append_left names (name ∷ []) [] k before))
        (kept (get_or names k []) k (sifted.each k before))
    | inr behind ↦
        let here : k ≡ length names =
        omega (arith, behind, within, length-append names (name ∷ [])) in
        let text : get_or (names ++ name ∷ []) k [] ≡ name =
        ap (λ i. get_or (names ++ name ∷ []) i []) here ∙ get_or-append_seam names name [] [] in
        subst (λ (t : List ℕ). MayBe new t k) (sym text)
        (subst (λ i. MayBe new name i) (is ∙ sym here) added)
  ];
}

-- a text that is held may have its number
pub sifted-held : (names : List (List ℕ)) (sieve bytes : List ℕ) (k : ℕ) → AreSifted names sieve
    → slice_get names k ≡ Some bytes → MayBe sieve bytes k
sifted-held names sieve bytes k sifted held =
    subst (λ (text : List ℕ). MayBe sieve text k) (get_or_from_slice_get names k bytes [] held)
    (sifted.each k (slice_get_within names k bytes held))
