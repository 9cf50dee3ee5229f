-- The bits of words that are combined, turned round, or cut off.
use Rattle.std.proofs.Common.{◌≡◌, ◌≢◌, ℕ, ◌*◌, ◌-◌, ◌/◌, ◌%◌, ◌^◌, min, max, ◌≤◌, ◌<◌, inl, inr, List, length, get_or, set, map, ap, ◌∙◌, arith, w64, bit_and, bit_or, rules}
use Rattle.std.proofs.lemmas.Bool.{cases_eq, cases_lt}
use Rattle.std.proofs.lemmas.List.{get_or-set_same, get_or-set_other, get_or-map, length-set, length-map}
use Rattle.std.proofs.lemmas.Nat.Bits.{bit_at-lt, bit_at_and, bit_at_or, bit_at_ones, bit_at_ones_above, bit_at_not}
use Rattle.std.proofs.lemmas.Simd.{length-zip2, get_or-zip2}
use Rattle.std.specs.Int.{bit_at, bit_not}
use lib.Lanes.{zip2}
use Rattle.tre_trace.proofs.Bits.{bit_in-past}
use Rattle.tre_trace.specs.Planes.{bit_in, words_for}
use Rattle.tre_edges.specs.WordBits.{AreCleared, AreOpposite}

-- words that are combined, bit by bit
module _ (a b : List ℕ) (same : length a ≡ length b) (place : ℕ) where
  pub bit_in-and : bit_in (zip2 bit_and a b) place ≡ min (bit_in a place) (bit_in b place)
  bit_in-and =
      elim (cases_lt (place / 64) (length a)) [
        | inl within ↦
            ap (λ word. bit_at word (place % 64))
            (get_or-zip2 bit_and a b (place / 64) 0 0 0 within (omega (arith, within, same)))
            ∙ bit_at_and (get_or a (place / 64) 0) (get_or b (place / 64) 0) (place % 64)
        | inr past ↦
            let of_a = bit_in-past a place (omega (arith, past)) in
            let of_b = bit_in-past b place (omega (arith, past, same)) in
            let none = bit_in-past (zip2 bit_and a b) place
            (omega (arith, past, length-zip2 bit_and a b same)) in
            omega (arith, of_a, of_b, none)
      ]

  pub bit_in-or : bit_in (zip2 bit_or a b) place ≡ max (bit_in a place) (bit_in b place)
  bit_in-or =
      elim (cases_lt (place / 64) (length a)) [
        | inl within ↦
            ap (λ word. bit_at word (place % 64))
            (get_or-zip2 bit_or a b (place / 64) 0 0 0 within (omega (arith, within, same)))
            ∙ bit_at_or (get_or a (place / 64) 0) (get_or b (place / 64) 0) (place % 64)
        | inr past ↦
            let of_a = bit_in-past a place (omega (arith, past)) in
            let of_b = bit_in-past b place (omega (arith, past, same)) in
            let none = bit_in-past (zip2 bit_or a b) place
            (omega (arith, past, length-zip2 bit_or a b same)) in
            omega (arith, of_a, of_b, none)
      ]

pub bit_in-not : (words : List ℕ) (place : ℕ) → place / 64 < length words
    → get_or words (place / 64) 0 < 2 ^ 64
    → bit_in (map (bit_not w64) words) place ≡ 1 - bit_in words place
bit_in-not words place within fits =
    let small : place % 64 < 64 = omega arith in
    ap (λ word. bit_at word (place % 64)) (get_or-map (bit_not w64) words (place / 64) 0 0 within)
    ∙ bit_at_not w64 (get_or words (place / 64) 0) (place % 64) fits small

-- the low bits of a word
module _ (word low : ℕ) (small : low < 64) where
  mask_is : 1 * 2 ^ low % 2 ^ 64 - 1 ≡ 2 ^ low - 1
  mask_is = search rules

  below : (i : ℕ) → i < low → bit_at (bit_and word (1 * 2 ^ low % 2 ^ 64 - 1)) i ≡ bit_at word i
  below i early = search (rules, mask_is, bit_at_and, bit_at_ones, bit_at-lt)

  above : (i : ℕ) → low ≤ i → bit_at (bit_and word (1 * 2 ^ low % 2 ^ 64 - 1)) i ≡ 0
  above i late = search (rules, mask_is, bit_at_and, bit_at_ones_above)

-- and else the last word is cut off
module _ (count : ℕ) (words : List ℕ) (size : length words ≡ words_for count)
    (part : count % 64 ≢ 0) where
  abbrev cut : ℕ
  cut = bit_and (get_or words (count / 64) 0) (1 * 2 ^ (count % 64) % 2 ^ 64 - 1)

  within : count / 64 < length words
  within = omega (arith, size, part)

  small : count % 64 < 64
  small = omega arith

  pub cleared_part : AreCleared count words (set words (count / 64) cut)
  cleared_part = record {
    size = length-set words (count / 64) cut;
    kept = λ place early.
        elim (cases_eq (place / 64) (count / 64)) [
          | inl here ↦
              rw here (ap (λ w. bit_at w (place % 64))
              (get_or-set_same words (count / 64) cut 0 within)
              ∙ below (get_or words (count / 64) 0) (count % 64) small (place % 64)
              (omega (arith, here, early)))
          | inr before ↦
              ap (λ w. bit_at w (place % 64))
              (get_or-set_other words (count / 64) (place / 64) cut 0 before)
        ];
    past = λ place late.
        elim (cases_eq (place / 64) (count / 64)) [
          | inl here ↦
              rw here (ap (λ w. bit_at w (place % 64))
              (get_or-set_same words (count / 64) cut 0 within)
              ∙ above (get_or words (count / 64) 0) (count % 64) small (place % 64)
              (omega (arith, here, late)))
          | inr behind ↦
              bit_in-past (set words (count / 64) cut) place
              (omega (arith, length-set words (count / 64) cut, size, behind, late))
        ];
  }

-- the opposite words, cut off
pub opposite_cleared : (count : ℕ) (words new : List ℕ) → length words ≡ words_for count
    → ((k : ℕ) → k < length words → get_or words k 0 < 2 ^ 64)
    → AreCleared count (map (bit_not w64) words) new → AreOpposite count words new
opposite_cleared count words new size fits cleared = record {
  size = cleared.size ∙ length-map words (bit_not w64) ∙ size;
  flipped = λ place early.
      let within : place / 64 < length words = omega (arith, size, early) in
      cleared.kept place early ∙ bit_in-not words place within (fits (place / 64) within);
  past = cleared.past;
}
