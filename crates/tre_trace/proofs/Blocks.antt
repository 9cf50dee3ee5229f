-- A block of up to 64 segments behind whole blocks: its words, and what is kept beside it.
use Rattle.std.proofs.Common.{◌≡◌, ◌≢◌, ℕ, zero, suc, ◌+◌, ◌-◌, ◌*◌, ◌/◌, ◌%◌, ◌^◌, ◌≤◌, ◌<◌, ◌⊎◌, inl, inr, List, [], ◌∷◌, ◌++◌, length, take, drop, set, get_or, refl, sym, ap, ◌∙◌, arith, w64, bit_or}
use Rattle.std.proofs.lemmas.Bool.{cases_eq, cases_lt}
use Rattle.std.proofs.lemmas.List.{length-append, length-set, get_or-set_same, get_or-set_other, get_or_past, get_or_default, take-append-le, take_all}
use Rattle.std.proofs.lemmas.Nat.Bits.{bit_at-zero, bit_at-lt, bit_at_or, bit_at_set_same, bit_at_set_other}
use Rattle.std.specs.Int.{bit_at}
use Rattle.tre_trace.specs.Block.{IsUnion, IsWordOf, IsPut, IsToldIn}
use Rattle.tre_trace.specs.declared.segment.Segment.{Segment}
use Rattle.tre_trace.specs.Planes.{valuation_at}
use Rattle.tre_trace.specs.Starts.{AreStarts}
use Rattle.tre_trace.specs.Trace.{end_of}
use Rattle.tre_trace.specs.Words.{words_at, AreWordsOf, IsStretched}
use Rattle.tre_trace.proofs.Bits.{valuation_at-before, valuation_at-last, valuation_at-past}

-- ---- one more segment of a block

pub IsUnion-none : IsUnion [] 0
IsUnion-none = record { unset = λ number none place. bit_at-zero number }

pub IsUnion-more : (block : List Segment) (segment : Segment) (union : ℕ) → IsUnion block union
    → IsUnion (block ++ segment ∷ []) (bit_or union segment.val)
IsUnion-more block segment union is = record {
  unset = λ number none place.
      let both = bit_at_or union segment.val number in
      let was : bit_at union number ≡ 0 = omega (arith, both, none) in
      let last : bit_at segment.val number ≡ 0 = omega (arith, both, none) in
      elim (cases_eq place (length block)) [
        | inl here ↦
            rw here (ap (λ valuation. bit_at valuation number) (valuation_at-last block segment)
            ∙ last)
        | inr other ↦
            ap (λ valuation. bit_at valuation number)
            (valuation_at-before block segment place other) ∙ is.unset number was place
      ];
}

-- The word says the values on the segments so far.
pub record SaysSoFar (number : ℕ) (block : List Segment) (word : ℕ) : Type 0 where
  pub bits : (place : ℕ) → bit_at word place ≡ bit_at (valuation_at block place) number

-- a bit that was 0 is put to this one
put_bit : (word bit place other : ℕ) → place < 64 → bit < 2 → bit_at word place ≡ 0
    → other ≡ place → bit_at (bit_or word (bit * 2 ^ place % 2 ^ 64)) other ≡ bit
put_bit word zero place other below small none same =
    let nothing : 0 * 2 ^ place % 2 ^ 64 ≡ 0 = omega arith in
    rw (same, nothing) (omega (arith, bit_at_or word 0 place, none, bit_at-zero place))
put_bit word (suc zero) place other below small none same =
    rw same (bit_at_set_same w64 word place below)
put_bit word (suc (suc n)) place other below small none same = absurd (omega (arith, small))

keep_bit : (word bit place other : ℕ) → place < 64 → bit < 2 → other ≢ place
    → bit_at (bit_or word (bit * 2 ^ place % 2 ^ 64)) other ≡ bit_at word other
keep_bit word zero place other below small apart =
    let nothing : 0 * 2 ^ place % 2 ^ 64 ≡ 0 = omega arith in
    rw nothing (omega (arith, bit_at_or word 0 other, bit_at-zero other))
keep_bit word (suc zero) place other below small apart =
    bit_at_set_other w64 word place below other apart
keep_bit word (suc (suc n)) place other below small apart = absurd (omega (arith, small))

pub SaysSoFar-none : (number : ℕ) → SaysSoFar number [] 0
SaysSoFar-none number = record { bits = λ place. bit_at-zero place ∙ sym (bit_at-zero number) }

pub SaysSoFar-more : (number : ℕ) (block : List Segment) (segment : Segment) (word place : ℕ)
    → length block ≡ place → place < 64 → SaysSoFar number block word
    → SaysSoFar number (block ++ segment ∷ [])
    (bit_or word (bit_at segment.val number * 2 ^ place % 2 ^ 64))
SaysSoFar-more number block segment word place same below so_far = record {
  bits = λ other.
      let small = bit_at-lt segment.val number in
      let none : bit_at word place ≡ 0 =
      so_far.bits place
      ∙ ap (λ valuation. bit_at valuation number)
      (valuation_at-past block place (omega (arith, same))) ∙ bit_at-zero number in
      elim (cases_eq other place) [
        | inl here ↦
            put_bit word (bit_at segment.val number) place other below small none here
            ∙ ap (λ valuation. bit_at valuation number)
            (sym (ap (valuation_at (block ++ segment ∷ [])) (here ∙ sym same)
            ∙ valuation_at-last block segment))
        | inr apart ↦
            keep_bit word (bit_at segment.val number) place other below small apart
            ∙ so_far.bits other
            ∙ ap (λ valuation. bit_at valuation number)
            (sym (valuation_at-before block segment other (λ e. apart (e ∙ same))))
      ];
}

-- ---- the word is put

pub IsPut-set : (old now : List ℕ) (index word : ℕ) → IsStretched (index + 1) old now
    → index < length now → IsPut index word old (set now index word)
IsPut-set old now index word stretched within = record {
  enough = inr (omega (arith, within, length-set now index word));
  there = λ place here.
      ap (λ w. bit_at w (place % 64))
      (rw here (get_or-set_same now index word 0 within));
  others = λ place apart.
      ap (λ w. bit_at w (place % 64)) (get_or-set_other now index (place / 64) word 0 apart)
      ∙ stretched.bits place;
}

pub IsToldIn-put : (number index word : ℕ) (block : List Segment) (old new : List ℕ)
    → IsWordOf number block word → IsPut index word old new
    → IsToldIn number index block old new
IsToldIn-put number index word block old new is put = record {
  enough = put.enough;
  there = λ place here. put.there place here ∙ is.bits (place % 64) (omega arith);
  others = put.others;
}

-- The words of one more number are told.
module _ (own : List (List ℕ)) (number : ℕ) (item new : List ℕ) (within : number < length own)
  where
    pub told_more : (was : List (List ℕ)) (index word : ℕ) (block : List Segment)
        → ((k : ℕ) → k < number → IsToldIn k index block (words_at was k) (words_at own k))
        → words_at own number ≡ words_at was number
        → IsWordOf number block word → IsPut index word (get_or own number item) new
        → (k : ℕ) → k < number + 1
        → IsToldIn k index block (words_at was k) (words_at (set own number new) k)
    told_more was index word block all same is put k below =
        elim (cases_eq k number) [
          | inl here ↦
              rw (
                here,
                get_or-set_same own number new [] within,
                ← same,
                get_or_default own number [] item within,
              )
              (IsToldIn-put number index word block (get_or own number item) new is put)
          | inr other ↦
              rw (get_or-set_other own number k new [] other)
              (all k (omega (arith, below, other)))
        ]

    pub left_more : (was : List (List ℕ))
        → ((k : ℕ) → number ≤ k → words_at own k ≡ words_at was k)
        → (k : ℕ) → number + 1 ≤ k → words_at (set own number new) k ≡ words_at was k
    left_more was left k late =
        get_or-set_other own number k new [] (λ same. omega (arith, late, same))
        ∙ left k (omega (arith, late))

-- a proposition without a plane has no bit on the block, and needs no word
pub IsToldIn-past : (own new : List (List ℕ)) (number index union : ℕ) (block : List Segment)
    → length new ≡ length own → length own ≤ number → IsUnion block union
    → bit_at union number ≢ 1
    → IsToldIn number index block (words_at own number) (words_at new number)
IsToldIn-past own new number index union block same late is unset =
    let was : words_at own number ≡ [] = get_or_past own number [] late in
    let now : words_at new number ≡ [] = get_or_past new number [] (omega (arith, same, late)) in
    let none : bit_at union number ≡ 0 = omega (arith, unset, bit_at-lt union number) in
    rw (was, now) (record {
      enough = inl refl;
      there = λ place here. bit_at-zero (place % 64) ∙ sym (is.unset number none (place % 64));
      others = λ place apart. refl;
    })

pub told_all : (own new : List (List ℕ)) (index union : ℕ) (block : List Segment)
    → length new ≡ length own → IsUnion block union
    → ((number : ℕ) → number < 64 → bit_at union number ≡ 1 → number < length own)
    → ((number : ℕ) → number < length new
    → IsToldIn number index block (words_at own number) (words_at new number))
    → (number : ℕ) → number < 64
    → IsToldIn number index block (words_at own number) (words_at new number)
told_all own new index union block same is all told number below =
    elim (cases_lt number (length new)) [
      | inl early ↦ told number early
      | inr late ↦
          IsToldIn-past own new number index union block same (omega (arith, same, late)) is
          (λ one. omega (arith, all number below one, same, late))
    ]

-- ---- the valuations of whole blocks and of the one behind them

valuation_at-front : (front block : List Segment) (place : ℕ) → place < length front
    → valuation_at (front ++ block) place ≡ valuation_at front place
valuation_at-front [] block place below = absurd (omega (arith, below))
valuation_at-front (first ∷ rest) block zero below = refl
valuation_at-front (first ∷ rest) block (suc place) below =
    valuation_at-front rest block place (omega (arith, below))

valuation_at-behind : (front block : List Segment) (place : ℕ) → length front ≤ place
    → valuation_at (front ++ block) place ≡ valuation_at block (place - length front)
valuation_at-behind [] block place behind = ap (valuation_at block) (omega arith)
valuation_at-behind (first ∷ rest) block zero behind = absurd (omega (arith, behind))
valuation_at-behind (first ∷ rest) block (suc place) behind =
    let e : suc place - suc (length rest) ≡ place - length rest = omega arith in
    rw e (valuation_at-behind rest block place (omega (arith, behind)))

pub AreWordsOf-block : (number : ℕ) (front block : List Segment) (old new : List ℕ)
    → length front % 64 ≡ 0 → length block ≤ 64 → AreWordsOf number front old
    → IsToldIn number (length front / 64) block old new
    → AreWordsOf number (front ++ block) new
AreWordsOf-block number front block old new whole few are told = record {
  enough =
      elim told.enough [
        | inl none ↦ inl none
        | inr more ↦ inr (omega (arith, more, whole, few, length-append front block))
      ];
  bits = λ place.
      elim (cases_eq (place / 64) (length front / 64)) [
        | inl here ↦
            let e : place - length front ≡ place % 64 = omega (arith, here, whole) in
            told.there place here
            ∙ ap (λ valuation. bit_at valuation number)
            (sym (valuation_at-behind front block place (omega (arith, here, whole))
            ∙ ap (valuation_at block) e))
        | inr other ↦
            told.others place other ∙ are.bits place
            ∙ ap (λ valuation. bit_at valuation number) (sym (same_at place other))
      ];
} where
  same_at : (place : ℕ) → place / 64 ≢ length front / 64
      → valuation_at (front ++ block) place ≡ valuation_at front place
  same_at place other =
      elim (cases_lt place (length front)) [
        | inl early ↦ valuation_at-front front block place early
        | inr late ↦
            valuation_at-past (front ++ block) place
            (omega (arith, late, other, whole, few, length-append front block))
            ∙ sym (valuation_at-past front place late)
      ]

-- ---- the starts, and lists that are cut

pub AreStarts-block : (front block : List Segment) (starts : List ℕ) → AreStarts front starts
    → length front % 64 ≡ 0 → length block ≤ 64 → length front < length starts * 64
    → AreStarts (front ++ block) starts
AreStarts-block front block starts are whole few room = record {
  enough = omega (arith, room, whole, few, length-append front block);
  begun = λ b below. omega (arith, are.begun b below, length-append front block);
  times = λ b below.
      are.times b below
      ∙ ap (end_of 0) (sym (take-append-le (b * 64) front block (are.begun b below)));
}

pub take_in_two : (segments : List Segment) (from to : ℕ) → from ≤ to
    → take from segments ++ take (to - from) (drop from segments) ≡ take to segments
take_in_two segments zero to order = ap (λ n. take n segments) (omega arith)
take_in_two segments (suc from) zero order = absurd (omega (arith, order))
take_in_two [] (suc from) (suc to) order = nothing (suc to - suc from) where
  none : List Segment
  none = []

  nothing : (n : ℕ) → take n none ≡ none
  nothing zero = refl
  nothing (suc n) = refl
take_in_two (segment ∷ rest) (suc from) (suc to) order =
    let step : suc to - suc from ≡ to - from = omega arith in
    rw step (ap (λ l. segment ∷ l) (take_in_two rest from to (omega (arith, order))))

-- no more are taken than there are
pub take_within : (segments : List Segment) (count to : ℕ) → to ≤ count
    → (count ≤ to) ⊎ (length segments ≤ to) → take to segments ≡ take count segments
take_within segments count to below (inl reached) =
    ap (λ n. take n segments) (omega (arith, below, reached))
take_within segments count to below (inr all) =
    take_all to segments all ∙ sym (take_all count segments (omega (arith, all, below)))
