-- What is kept beside segments, by the numbers of the propositions.
use Rattle.std.proofs.Common.{◌≡◌, ◌≢◌, ℕ, ◌+◌, ◌/◌, ◌^◌, max, ◌≤◌, ◌<◌, inl, inr, List, [], length, set, get_or, refl, ◌∙◌, arith, rules}
use Rattle.std.proofs.lemmas.Bool.{cases_eq, cases_lt}
use Rattle.std.proofs.lemmas.List.{get_or-set_same, get_or-set_other, get_or_past, get_or_default}
use Rattle.std.proofs.lemmas.Nat.{pow_pos}
use Rattle.std.proofs.lemmas.Nat.Bits.{bit_at_above, bit_at-lt}
use Rattle.std.specs.Int.{bit_at}
use Rattle.tre_trace.specs.declared.planes.Planes.{Planes}
use Rattle.tre_trace.specs.declared.segment.Segment.{Segment}
use Rattle.tre_trace.specs.Beside.{AreBeside}
use Rattle.tre_trace.specs.Planes.{bit_in}
use Rattle.tre_trace.specs.Starts.{AreStarts}
use Rattle.tre_trace.specs.Words.{words_at, HasRoom, IsStretched, IsWritten}
use Rattle.tre_trace.proofs.Words.{AreWordsOf-stretched}

IsStretched-trans : (count : ℕ) (a b c : List ℕ) → IsStretched count a b → IsStretched count b c
    → IsStretched count a c
IsStretched-trans count a b c first second = search rules

-- The words of one more number are made longer.
module _ (own : List (List ℕ)) (number : ℕ) (item new : List ℕ) (within : number < length own)
  where
    at_number : words_at (set own number new) number ≡ new
    at_number = get_or-set_same own number new [] within

    elsewhere : (other : ℕ) → other ≢ number → words_at (set own number new) other
        ≡ words_at own other
    elsewhere other apart = get_or-set_other own number other new [] apart

    pub stretched_more : (was : List (List ℕ)) (count : ℕ)
        → ((k : ℕ) → IsStretched count (words_at was k) (words_at own k))
        → IsStretched count (get_or own number item) new
        → (k : ℕ) → IsStretched count (words_at was k) (words_at (set own number new) k)
    stretched_more was count all step k =
        elim (cases_eq k number) [
          | inl here ↦
              rw (here, at_number)
              (IsStretched-trans count (words_at was number) (words_at own number) new (all number)
              (rw (get_or_default own number item [] within) at step))
          | inr other ↦ rw (elsewhere k other) (all k)
        ]

    pub room_more : (place valuation : ℕ)
        → ((k : ℕ) → k < number → HasRoom place (bit_at valuation k) (words_at own k))
        → HasRoom place (bit_at valuation number) new
        → (k : ℕ) → k < number + 1
        → HasRoom place (bit_at valuation k) (words_at (set own number new) k)
    room_more place valuation all step k below =
        elim (cases_eq k number) [
          | inl here ↦ rw (here, at_number) step
          | inr other ↦ rw (elsewhere k other) (all k (omega (arith, below, other)))
        ]

    pub written_more : (was : List (List ℕ)) (place valuation bit : ℕ)
        → bit ≡ bit_at valuation number
        → ((k : ℕ) → k < number
        → IsWritten place (bit_at valuation k) (words_at was k) (words_at own k))
        → words_at own number ≡ words_at was number
        → IsWritten place bit (get_or own number item) new
        → (k : ℕ) → k < number + 1
        → IsWritten place (bit_at valuation k) (words_at was k) (words_at (set own number new) k)
    written_more was place valuation bit is all same step k below =
        elim (cases_eq k number) [
          | inl here ↦
              rw (here, at_number)
              (rw (get_or_default own number item [] within, same, is) at step)
          | inr other ↦ rw (elsewhere k other) (all k (omega (arith, below, other)))
        ]

    pub room_here : (was : List (List ℕ)) (place valuation bit : ℕ)
        → bit ≡ bit_at valuation number → words_at own number ≡ words_at was number
        → HasRoom place (bit_at valuation number) (words_at was number)
        → HasRoom place bit (get_or own number item)
    room_here was place valuation bit is same room =
        rw (get_or_default own number item [] within, same, is) room

-- nothing was made longer
pub IsStretched-refl : (count : ℕ) (words : List ℕ) → IsStretched count words words
IsStretched-refl count words = record { longer = inl refl; bits = λ place. refl }

-- What is kept beside segments stays that where its words are made longer.
pub beside_longer : (segments : List Segment) (old new : Planes) → AreBeside segments old
    → AreStarts segments new.starts.items
    → IsStretched (length segments / 64 + 1) old.blank new.blank
    → length new.own.items ≤ 64
    → ((number : ℕ) → IsStretched (length segments / 64 + 1) (words_at old.own.items number)
    (words_at new.own.items number))
    → AreBeside segments new
beside_longer segments old new beside starts blank few own = record {
  starts = starts;
  blank_enough =
      elim blank.longer [
        | inl same ↦ rw same beside.blank_enough
        | inr longer ↦ omega (arith, longer)
      ];
  blank_bits = λ place. blank.bits place ∙ beside.blank_bits place;
  few = few;
  own = λ number below.
      AreWordsOf-stretched number segments _ _ (beside.own number below) (own number);
}

small_of : (n d : ℕ) → 0 < d → n / d ≡ 0 → n < d
small_of n d some none = search rules

-- a valuation that is shifted out has no bit from there on
pub bit_past : (valuation count number : ℕ) → valuation / 2 ^ count ≡ 0 → count ≤ number
    → bit_at valuation number ≡ 0
bit_past valuation count number none late =
    bit_at_above valuation count number (small_of valuation (2 ^ count) (pow_pos count) none) late

-- a proposition without a plane needs no room
pub HasRoom-past : (own : List (List ℕ)) (place valuation number : ℕ) → length own ≤ number
    → bit_at valuation number ≢ 1 → HasRoom place (bit_at valuation number) (words_at own number)
HasRoom-past own place valuation number late unset = search (rules, get_or_past, unset)

-- and nothing is written for it
pub IsWritten-past : (own new : List (List ℕ)) (place valuation number : ℕ)
    → length new ≡ length own → length own ≤ number
    → HasRoom place (bit_at valuation number) (words_at own number)
    → IsWritten place (bit_at valuation number) (words_at own number) (words_at new number)
IsWritten-past own new place valuation number same late room =
    let was : words_at own number ≡ [] = get_or_past own number [] late in
    let is : words_at new number ≡ [] = get_or_past new number [] (omega (arith, same, late)) in
    rw is (rw was (record {
      same_length = refl;
      there = unset (rw was at room);
      others = λ other apart. refl;
    })) where
      none : List ℕ
      none = []

      unset : HasRoom place (bit_at valuation number) none
          → bit_in none place ≡ max (bit_in none place) (bit_at valuation number)
      unset room =
          elim (cases_eq (bit_at valuation number) 1) [
            | inl one ↦ absurd (omega (arith, room.needed one))
            | inr other ↦ omega (arith, other, bit_at-lt valuation number)
          ]

pub written_all : (own new : List (List ℕ)) (place valuation : ℕ) → length new ≡ length own
    → ((number : ℕ) → number < length new
    → IsWritten place (bit_at valuation number) (words_at own number) (words_at new number))
    → ((number : ℕ) → number < 64
    → HasRoom place (bit_at valuation number) (words_at own number))
    → (number : ℕ) → number < 64
    → IsWritten place (bit_at valuation number) (words_at own number) (words_at new number)
written_all own new place valuation same written room number below =
    elim (cases_lt number (length new)) [
      | inl early ↦ written number early
      | inr late ↦
          IsWritten-past own new place valuation number same (omega (arith, same, late))
          (room number below)
    ]

pub room_all : (own : List (List ℕ)) (place valuation : ℕ)
    → ((number : ℕ) → number < 64 → bit_at valuation number ≡ 1 → number < length own)
    → ((number : ℕ) → number < length own
    → HasRoom place (bit_at valuation number) (words_at own number))
    → (number : ℕ) → number < 64
    → HasRoom place (bit_at valuation number) (words_at own number)
room_all own place valuation all room number below =
    elim (cases_lt number (length own)) [
      | inl early ↦ room number early
      | inr late ↦
          HasRoom-past own place valuation number late
          (λ one. omega (arith, all number below one, late))
    ]
