-- The words of one proposition.
use Rattle.std.proofs.Common.{◌≡◌, ℕ, ◌+◌, ◌*◌, ◌/◌, ◌%◌, ◌<◌, ◌≤◌, ◌==◌, true, false, inl, inr, List, [], ◌∷◌, ◌++◌, length, take, get_or, refl, sym, ap, ◌∙◌, arith}
use Rattle.std.proofs.Math.Dec.{eqb-suc-zero}
use Rattle.std.proofs.lemmas.Bool.{cases_eq, cases_lt, false≢true}
use Rattle.std.proofs.lemmas.List.{length-append, length-set, length-take-le, get_or-take, get_or_past}
use Rattle.std.proofs.lemmas.Nat.Bits.{bit_at-lt, bit_at-zero}
use Rattle.std.specs.Int.{bit_at}
use Rattle.tre_trace.specs.declared.segment.Segment.{Segment}
use Rattle.tre_trace.specs.Planes.{IsPlane, bit_in, valuation_at, words_for}
use Rattle.tre_trace.specs.Words.{AreWordsOf, HasRoom, IsStretched, IsWritten}
use Rattle.tre_trace.proofs.Bits.{bit_in-set, bit_in-set_other, with_bit, valuation_at-before, valuation_at-last, valuation_at-past}

pub IsWritten-set : (words : List ℕ) (place bit : ℕ) → place / 64 < length words → bit ≡ 1
    → IsWritten place bit words (with_bit words place)
IsWritten-set words place bit within one = record {
  same_length = length-set words (place / 64) _;
  there =
      bit_in-set words place within
      ∙ omega (arith, one, bit_at-lt (get_or words (place / 64) 0) (place % 64));
  others = bit_in-set_other words place within;
}

-- more words say the same
pub AreWordsOf-stretched : (number : ℕ) (segments : List Segment) (old new : List ℕ)
    → AreWordsOf number segments old → IsStretched (length segments / 64 + 1) old new
    → AreWordsOf number segments new
AreWordsOf-stretched number segments old new are stretched = record {
  enough =
      elim stretched.longer [
        | inl same ↦ rw same are.enough
        | inr longer ↦ inr (omega (arith, longer))
      ];
  bits = λ place. stretched.bits place ∙ are.bits place;
}

-- one more bit says the value on one more segment
pub AreWordsOf-written : (number : ℕ) (segments : List Segment) (segment : Segment)
    (old new : List ℕ) → AreWordsOf number segments old
    → HasRoom (length segments) (bit_at segment.val number) old
    → IsWritten (length segments) (bit_at segment.val number) old new
    → AreWordsOf number (segments ++ segment ∷ []) new
AreWordsOf-written number segments segment old new are room written = record {
  enough =
      elim room.enough [
        | inl none ↦
            let empty : length new ≡ 0 = written.same_length ∙ ap length none in
            inl (none_of new empty)
        | inr more ↦
            inr (omega (arith, more, written.same_length, length-append segments (segment ∷ [])))
      ];
  bits = λ place.
      elim (cases_eq place (length segments)) [
        | inl last ↦ rw last (at_last)
        | inr other ↦
            written.others place other ∙ are.bits place
            ∙ ap (λ valuation. bit_at valuation number)
            (sym (valuation_at-before segments segment place other))
      ];
} where
  none_of : (words : List ℕ) → length words ≡ 0 → words ≡ []
  none_of [] none = refl
  none_of (word ∷ words) none = absurd (omega (arith, none))

  at_last : bit_in new (length segments)
      ≡ bit_at (valuation_at (segments ++ segment ∷ []) (length segments)) number
  at_last =
      let was : bit_in old (length segments) ≡ 0 =
      are.bits (length segments)
      ∙ ap (λ valuation. bit_at valuation number)
      (valuation_at-past segments (length segments) (omega arith))
      ∙ bit_at-zero number in
      let is : bit_in new (length segments) ≡ bit_at segment.val number =
      omega (arith, written.there, was) in
      is ∙ sym (ap (λ valuation. bit_at valuation number) (valuation_at-last segments segment))

-- words that are there are enough
pub enough_of : (number : ℕ) (segments : List Segment) (words : List ℕ)
    → AreWordsOf number segments words → (length words == 0) ≡ false
    → length segments ≤ length words * 64
enough_of number segments [] are some = absurd (false≢true (sym some))
enough_of number segments (word ∷ words) are some =
    elim are.enough [
      | inl none ↦ absurd (omega (arith, ap length none))
      | inr enough ↦ enough
    ]

-- as many of them as are needed are the plane
pub plane_of : (number count : ℕ) (segments : List Segment) (words : List ℕ)
    → count ≡ words_for (length segments) → length segments ≤ length words * 64
    → ((place : ℕ) → bit_in words place ≡ bit_at (valuation_at segments place) number)
    → IsPlane number segments (take count words)
plane_of number count segments words is enough bits = record {
  size = length-take-le count words (omega (arith, is, enough)) ∙ is;
  bits = λ place.
      elim (cases_lt (place / 64) count) [
        | inl early ↦
            ap (λ word. bit_at word (place % 64)) (get_or-take count words (place / 64) 0 early)
            ∙ bits place
        | inr late ↦
            ap (λ word. bit_at word (place % 64)) (get_or_past (take count words) (place / 64) 0
            (omega (arith, late, length-take-le count words (omega (arith, is, enough)))))
            ∙ (bit_at-zero (place % 64) ∙ sym (ap (λ valuation. bit_at valuation number)
            (valuation_at-past segments place (omega (arith, late, is))) ∙ bit_at-zero number))
      ];
}

-- and zeros are that of a proposition that has no words
pub blank_plane : (number count : ℕ) (segments : List Segment) (words blank : List ℕ)
    → count ≡ words_for (length segments) → AreWordsOf number segments words
    → (length words == 0) ≡ true → length segments ≤ length blank * 64
    → ((place : ℕ) → bit_in blank place ≡ 0) → IsPlane number segments (take count blank)
blank_plane number count segments [] blank is are none enough zero =
    plane_of number count segments blank is enough
    (λ place. zero place ∙ sym (bit_at-zero (place % 64)) ∙ are.bits place)
blank_plane number count segments (word ∷ words) blank is are none enough zero =
    absurd (false≢true (sym (eqb-suc-zero (length words)) ∙ none))
