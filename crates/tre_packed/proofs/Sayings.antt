-- What is said of the events of segments.
use Rattle.std.proofs.Common.{◌≡◌, ◌≢◌, ℕ, zero, suc, ◌+◌, ◌-◌, ◌/◌, ◌%◌, bit_or, max, nat_eq, ◌≤◌, ◌<◌, Bool, true, false, inl, inr, List, [], ◌∷◌, ◌++◌, length, replicate, get_or, refl, sym, ap, ◌∙◌, arith, if◌then◌else◌}
use Rattle.std.proofs.lemmas.Bool.{cases_eq}
use Rattle.std.proofs.lemmas.Bool.Decides.{nat_tests}
use Rattle.std.proofs.lemmas.List.Elements.{All-nil, All-cons}
use Rattle.std.proofs.lemmas.Nat.{le_or_l, le_or_r}
use Rattle.std.proofs.lemmas.Nat.Bits.{bit_at-zero}
use Rattle.std.specs.Int.{bit_at}
use Rattle.std.specs.Prelude.{All}
use Rattle.tre_packed.specs.Events.{events_at}
use Rattle.tre_packed.specs.Said.{said_from, said_bit}
use Rattle.tre_packed.specs.declared.said.Said.{Said}
use Rattle.tre_trace.specs.Planes.{bit_in}
use Rattle.tre_trace.specs.Words.{IsWritten}
use Rattle.tre_trace.specs.declared.segment.Segment.{Segment}

same_test : (m n : ℕ) → m ≡ n → nat_eq m n ≡ true
same_test m n same = grind (arith, nat_tests)

other_test : (m n : ℕ) → m ≢ n → nat_eq m n ≡ false
other_test m n apart = grind (arith, nat_tests)

abbrev one_at : ℕ → Segment → Said
one_at place segment = record { place = place; events = segment.ev }

pub said-none : (place : ℕ) (segment : Segment) (rest : List Segment) → segment.ev ≡ 0
    → said_from place (segment ∷ rest) ≡ said_from (place + 1) rest
said-none place segment rest none =
    ap (λ test. if test then said_from (place + 1) rest
    else one_at place segment ∷ said_from (place + 1) rest) (same_test segment.ev 0 none)

pub said-some : (place : ℕ) (segment : Segment) (rest : List Segment) → segment.ev ≢ 0
    → said_from place (segment ∷ rest) ≡ one_at place segment ∷ said_from (place + 1) rest
said-some place segment rest some =
    ap (λ test. if test then said_from (place + 1) rest
    else one_at place segment ∷ said_from (place + 1) rest) (other_test segment.ev 0 some)

pub said_from-append : (place : ℕ) (xs ys : List Segment)
    → said_from place (xs ++ ys) ≡ said_from place xs ++ said_from (place + length xs) ys
said_from-append place [] ys = ap (λ p. said_from p ys) (omega arith)
said_from-append place (x ∷ xs) ys =
    step (nat_eq x.ev 0)
    (said_from-append (place + 1) xs ys
    ∙ ap (λ p. said_from (place + 1) xs ++ said_from p ys) (omega arith)) where
      step : (test : Bool)
          → said_from (place + 1) (xs ++ ys)
          ≡ said_from (place + 1) xs ++ said_from (place + suc (length xs)) ys
          → (if test then said_from (place + 1) (xs ++ ys)
          else one_at place x ∷ said_from (place + 1) (xs ++ ys))
          ≡ (if test then said_from (place + 1) xs else one_at place x ∷ said_from (place + 1) xs)
          ++ said_from (place + suc (length xs)) ys
      step true rest = rest
      step false rest = ap (λ l. one_at place x ∷ l) rest

pub said_within : (place : ℕ) (segments : List Segment) (count : ℕ)
    → place + length segments ≤ count → All (λ one. one.place < count) (said_from place segments)
said_within place [] count below = All-nil (λ one. one.place < count)
said_within place (x ∷ xs) count below =
    step (nat_eq x.ev 0) (said_within (place + 1) xs count (omega (arith, below))) where
      step : (test : Bool) → All (λ one. one.place < count) (said_from (place + 1) xs)
          → All (λ one. one.place < count)
          (if test then said_from (place + 1) xs else one_at place x ∷ said_from (place + 1) xs)
      step true rest = rest
      step false rest =
          All-cons (λ one. one.place < count) (one_at place x) (said_from (place + 1) xs)
          (omega (arith, below)) rest

module _ (number : ℕ) where
  bit_here : (one : Said) (rest : List Said) (place : ℕ) → one.place ≡ place
      → said_bit (one ∷ rest) place number
      ≡ max (bit_at one.events number) (said_bit rest place number)
  bit_here one rest place same =
      ap (λ test. if test then max (bit_at one.events number) (said_bit rest place number)
      else said_bit rest place number) (same_test one.place place same)

  bit_there : (one : Said) (rest : List Said) (place : ℕ) → one.place ≢ place
      → said_bit (one ∷ rest) place number ≡ said_bit rest place number
  bit_there one rest place apart =
      ap (λ test. if test then max (bit_at one.events number) (said_bit rest place number)
      else said_bit rest place number) (other_test one.place place apart)

  -- nothing is said of places before
  before : (from : ℕ) (segments : List Segment) (place : ℕ) → place < from
      → said_bit (said_from from segments) place number ≡ 0
  before from [] place early = refl
  before from (x ∷ xs) place early =
      let rest = before (from + 1) xs place (omega (arith, early)) in
      elim (cases_eq x.ev 0) [
        | inl none ↦ ap (λ said. said_bit said place number) (said-none from x xs none) ∙ rest
        | inr some ↦
            ap (λ said. said_bit said place number) (said-some from x xs some)
            ∙ bit_there (one_at from x) (said_from (from + 1) xs) place (omega (arith, early))
            ∙ rest
      ]

  -- and of others their events are
  pub said_is : (from : ℕ) (segments : List Segment) (place : ℕ) → from ≤ place
      → said_bit (said_from from segments) place number
      ≡ bit_at (events_at segments (place - from)) number
  said_is from [] place late = sym (bit_at-zero number)
  said_is from (x ∷ xs) place late =
      elim (cases_eq place from) [
        | inl here ↦ at_first (before (from + 1) xs place (omega (arith, here))) here
        | inr other ↦
            let rest = said_is (from + 1) xs place (omega (arith, late, other)) in
            let step : place - from ≡ suc (place - (from + 1)) = omega (arith, late, other) in
            rw step (behind other ∙ rest)
      ] where
        at_first : said_bit (said_from (from + 1) xs) place number ≡ 0 → place ≡ from
            → said_bit (said_from from (x ∷ xs)) place number
            ≡ bit_at (events_at (x ∷ xs) (place - from)) number
        at_first none here =
            let step : place - from ≡ zero = omega (arith, here) in
            rw step (elim (cases_eq x.ev 0) [
              | inl silent ↦
                  ap (λ said. said_bit said place number) (said-none from x xs silent) ∙ none
                  ∙ sym (ap (λ events. bit_at events number) silent ∙ bit_at-zero number)
              | inr some ↦
                  ap (λ said. said_bit said place number) (said-some from x xs some)
                  ∙ bit_here (one_at from x) (said_from (from + 1) xs) place (sym here)
                  ∙ omega (arith, none)
            ])

        behind : place ≢ from → said_bit (said_from from (x ∷ xs)) place number
            ≡ said_bit (said_from (from + 1) xs) place number
        behind other =
            elim (cases_eq x.ev 0) [
              | inl none ↦ ap (λ said. said_bit said place number) (said-none from x xs none)
              | inr some ↦
                  ap (λ said. said_bit said place number) (said-some from x xs some)
                  ∙ bit_there (one_at from x) (said_from (from + 1) xs) place
                  (λ same. other (sym same))
            ]

  bit_more : (said : List Said) (one : Said) (place : ℕ) → one.place ≡ place
      → said_bit (said ++ one ∷ []) place number
      ≡ max (said_bit said place number) (bit_at one.events number)
  bit_more [] one place same = bit_here one [] place same ∙ omega arith
  bit_more (x ∷ xs) one place same =
      let rest = bit_more xs one place same in
      elim (cases_eq x.place place) [
        | inl here ↦
            omega (arith, bit_here x (xs ++ one ∷ []) place here, bit_here x xs place here, rest)
        | inr there ↦
            omega (arith, bit_there x (xs ++ one ∷ []) place there, bit_there x xs place there, rest)
      ]

  bit_kept : (said : List Said) (one : Said) (place : ℕ) → one.place ≢ place
      → said_bit (said ++ one ∷ []) place number ≡ said_bit said place number
  bit_kept [] one place apart = bit_there one [] place apart
  bit_kept (x ∷ xs) one place apart =
      let rest = bit_kept xs one place apart in
      elim (cases_eq x.place place) [
        | inl here ↦
            omega (arith, bit_here x (xs ++ one ∷ []) place here, bit_here x xs place here, rest)
        | inr there ↦
            omega (arith, bit_there x (xs ++ one ∷ []) place there, bit_there x xs place there, rest)
      ]

  -- one more bit is written
  pub told_more : (said : List Said) (one : Said) (bit : ℕ) (old new : List ℕ)
      → ((place : ℕ) → bit_in old place ≡ said_bit said place number)
      → bit ≡ bit_at one.events number → IsWritten one.place bit old new
      → (place : ℕ) → bit_in new place ≡ said_bit (said ++ one ∷ []) place number
  told_more said one bit old new told is written place =
      elim (cases_eq one.place place) [
        | inl here ↦
            let there = rw here at written.there in
            omega (arith, there, told place, is, bit_more said one place here)
        | inr apart ↦
            written.others place (λ same. apart (sym same)) ∙ told place
            ∙ sym (bit_kept said one place apart)
      ]

  events_before : (segments : List Segment) (segment : Segment) (place : ℕ)
      → place ≢ length segments
      → events_at (segments ++ segment ∷ []) place ≡ events_at segments place
  events_before [] segment zero apart = absurd (apart refl)
  events_before [] segment (suc place) apart = refl
  events_before (first ∷ rest) segment zero apart = refl
  events_before (first ∷ rest) segment (suc place) apart =
      events_before rest segment place (λ same. apart (ap suc same))

  events_last : (segments : List Segment) (segment : Segment)
      → events_at (segments ++ segment ∷ []) (length segments) ≡ segment.ev
  events_last [] segment = refl
  events_last (first ∷ rest) segment = events_last rest segment

  events_past : (segments : List Segment) (place : ℕ) → length segments ≤ place
      → events_at segments place ≡ 0
  events_past [] place past = refl
  events_past (first ∷ rest) zero past = absurd (omega (arith, past))
  events_past (first ∷ rest) (suc place) past = events_past rest place (omega (arith, past))

  -- the bit of one more segment is written
  pub event_more : (segments : List Segment) (segment : Segment) (at bit : ℕ) (old new : List ℕ)
      → length segments ≡ at
      → ((place : ℕ) → bit_in old place ≡ bit_at (events_at segments place) number)
      → bit ≡ bit_at segment.ev number → IsWritten at bit old new
      → (place : ℕ)
      → bit_in new place ≡ bit_at (events_at (segments ++ segment ∷ []) place) number
  event_more segments segment at bit old new size told is written place =
      elim (cases_eq place (length segments)) [
        | inl last ↦
            let none =
            told (length segments)
            ∙ ap (λ events. bit_at events number)
            (events_past segments (length segments) (omega arith)) ∙ bit_at-zero number in
            let there = rw (← size) at written.there in
            rw (last, events_last segments segment) (omega (arith, there, none, is))
        | inr other ↦
            written.others place (λ same. other (same ∙ sym size)) ∙ told place
            ∙ ap (λ events. bit_at events number)
            (sym (events_before segments segment place other))
      ]

zeros : (m k : ℕ) → get_or (replicate {A = ℕ} m 0) k 0 ≡ zero
zeros zero k = refl
zeros (suc m) zero = refl
zeros (suc m) (suc k) = zeros m k

pub no_bits : (count place : ℕ) → bit_in (replicate count 0) place ≡ 0
no_bits count place =
    ap (λ word. bit_at word (place % 64)) (zeros count (place / 64)) ∙ bit_at-zero (place % 64)

pub unwritten : (words : List ℕ) (place bit : ℕ) → bit ≤ 1 → bit ≢ 1
    → IsWritten place bit words words
unwritten words place bit small unset = record {
  same_length = refl;
  there = omega (arith, small, unset);
  others = λ other apart. refl;
}

-- One more segment at whose begin nothing happens leaves the list of what is said empty.
pub quiet-more : (segments : List Segment) (segment : Segment) (events : ℕ)
    → (events ≡ 0 → (place : ℕ) → said_from place segments ≡ [])
    → bit_or events segment.ev ≡ 0 → (place : ℕ)
    → said_from place (segments ++ segment ∷ []) ≡ []
quiet-more segments segment events quiet none place =
    let before = quiet (omega (arith, none, le_or_l events segment.ev)) place in
    let last = said-none (place + length segments) segment []
    (omega (arith, none, le_or_r events segment.ev)) in
    rw (said_from-append place segments (segment ∷ []), before) last
