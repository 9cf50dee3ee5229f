-- Lists of bars: what they hold, whether they are filled and rise.
use Rattle.std.proofs.Common.{◌≡◌, ℕ, zero, suc, ◌+◌, ◌<◌, ◌⊎◌, ◌↔◌, List, [], ◌∷◌, ◌++◌, length, get_or, take, arith, inl, inr, ⊎_elim, rules}
use Rattle.std.specs.Prelude.{All, Contains}
use Rattle.std.specs.List.Sorted.{IsPermutation}
use Rattle.std.proofs.lemmas.List.{take_more}
use Rattle.std.proofs.lemmas.List.Elements.{All-cons, All-nil, All-head, All-tail, Contains-get_or}
use Rattle.std.proofs.lemmas.List.Sorted.{All-permutation, Contains-permutation, IsPermutation-sym}
use Rattle.tre_strips.specs.Bar.{place_of, BarHolds, BarsHold, AreFilled, RiseFrom}
use Rattle.tre_strips.specs.declared.bar.Bar.{Bar}

pub BarsHold-none : (a b n : ℕ) → BarsHold [] a b n → ⊥
unfolding BarsHold
BarsHold-none a b n h = h

pub BarsHold-push : (bars : List Bar) (bar : Bar) (a b n : ℕ)
    → BarsHold (bars ++ bar ∷ []) a b n ↔ (BarsHold bars a b n ⊎ BarHolds bar a b n)
unfolding BarsHold
BarsHold-push [] bar a b n = search rules
BarsHold-push (first ∷ bars) bar a b n =
    let rest = BarsHold-push bars bar a b n in (
      (λ h. ⊎_elim (λ x. inl (inl x)) (λ x. ⊎_elim (λ y. inl (inr y)) (λ y. inr y) (rest.0 x)) h),
      (λ h. ⊎_elim (λ x. ⊎_elim (λ y. inl y) (λ y. inr (rest.1 (inl y))) x)
          (λ x. inr (rest.1 (inr x))) h),
    )

pub BarsHold-more : (bars : List Bar) (i : ℕ) (bar : Bar) → i < length bars
    → bar ≡ get_or bars i bar → (a b n : ℕ)
    → BarsHold (take (i + 1) bars) a b n ↔ (BarsHold (take i bars) a b n ⊎ BarHolds bar a b n)
BarsHold-more bars i bar within is a b n =
    let last = BarsHold-push (take i bars) bar a b n in
    rw (take_more bars i bar within, ← is) last

Contains-behind : (first : Bar) (bars : List Bar) (bar : Bar) → Contains bars bar
    → Contains (first ∷ bars) bar
Contains-behind first bars bar has = (suc has.0, omega (arith, has.1), has.2)

-- Which bar it is.
pub BarsHold-which : (bars : List Bar) (a b n : ℕ) → BarsHold bars a b n
    → (bar : Bar) × Contains bars bar × BarHolds bar a b n
unfolding BarsHold
BarsHold-which [] a b n h = absurd h
BarsHold-which (first ∷ bars) a b n h =
    ⊎_elim (λ x. (first, Contains-get_or (first ∷ bars) 0 first (omega arith), x))
    (λ x. let w = BarsHold-which bars a b n x in
    (w.0, Contains-behind first bars w.0 w.1, w.2)) h

held_at : (bars : List Bar) (k : ℕ) (d : Bar) (a b n : ℕ) → k < length bars
    → BarHolds (get_or bars k d) a b n → BarsHold bars a b n
unfolding BarsHold
held_at [] k d a b n below h = absurd (omega (arith, below))
held_at (bar ∷ bars) zero d a b n below h = inl h
held_at (bar ∷ bars) (suc k) d a b n below h =
    inr (held_at bars k d a b n (omega (arith, below)) h)

pub BarsHold-by : (bars : List Bar) (bar : Bar) (a b n : ℕ) → Contains bars bar
    → BarHolds bar a b n → BarsHold bars a b n
BarsHold-by bars bar a b n has h = search (rules, held_at, has.0, has.1)

pub BarsHold-permutation : (bars others : List Bar) (a b n : ℕ) → IsPermutation bars others
    → BarsHold others a b n ↔ BarsHold bars a b n
BarsHold-permutation bars others a b n order = (
  (λ h. let w = BarsHold-which others a b n h in
      BarsHold-by bars w.0 a b n
      (Contains-permutation others bars w.0 (IsPermutation-sym bars others order) w.1) w.2),
  (λ h. let w = BarsHold-which bars a b n h in
      BarsHold-by others w.0 a b n (Contains-permutation bars others w.0 order w.1) w.2),
)

-- ---- filled

pub AreFilled-nil : (a n : ℕ) → AreFilled [] a n
unfolding AreFilled
AreFilled-nil a n = tt

pub AreFilled-push : (bars : List Bar) (bar : Bar) (a n : ℕ) → AreFilled bars a n
    → place_of bar.low a n < place_of bar.high a n → AreFilled (bars ++ bar ∷ []) a n
unfolding AreFilled
AreFilled-push [] bar a n filled less = (less, tt)
AreFilled-push (first ∷ bars) bar a n filled less =
    (filled.0, AreFilled-push bars bar a n filled.1 less)

abbrev IsFilled : ℕ → ℕ → Bar → Type 0
IsFilled a n bar = place_of bar.low a n < place_of bar.high a n

filled_each : (bars : List Bar) (a n : ℕ) → AreFilled bars a n → All (IsFilled a n) bars
unfolding AreFilled
filled_each [] a n filled = All-nil (IsFilled a n)
filled_each (bar ∷ bars) a n filled =
    All-cons (IsFilled a n) bar bars filled.0 (filled_each bars a n filled.1)

filled_again : (bars : List Bar) (a n : ℕ) → All (IsFilled a n) bars → AreFilled bars a n
unfolding AreFilled
filled_again [] a n all = tt
filled_again (bar ∷ bars) a n all = (
  All-head (IsFilled a n) bar bars all,
  filled_again bars a n (All-tail (IsFilled a n) bar bars all),
)

pub AreFilled-permutation : (bars others : List Bar) (a n : ℕ) → IsPermutation bars others
    → AreFilled bars a n → AreFilled others a n
AreFilled-permutation bars others a n order filled =
    search (rules, filled_again, All-permutation, filled_each)

pub AreFilled-at : (bars : List Bar) (k a n : ℕ) (d : Bar) → AreFilled bars a n → k < length bars
    → place_of (get_or bars k d).low a n < place_of (get_or bars k d).high a n
unfolding AreFilled
AreFilled-at [] k a n d filled below = absurd (omega (arith, below))
AreFilled-at (bar ∷ bars) zero a n d filled below = filled.0
AreFilled-at (bar ∷ bars) (suc k) a n d filled below =
    AreFilled-at bars k a n d filled.1 (omega (arith, below))

-- ---- rising

pub RiseFrom-nil : (least a n : ℕ) → RiseFrom least [] a n
unfolding RiseFrom
RiseFrom-nil least a n = tt

-- A bar behind the last one.
pub RiseFrom-push : (bars : List Bar) (last bar : Bar) (least a n : ℕ)
    → RiseFrom least (bars ++ last ∷ []) a n → place_of last.high a n < place_of bar.low a n
    → place_of bar.low a n < place_of bar.high a n
    → RiseFrom least ((bars ++ last ∷ []) ++ bar ∷ []) a n
unfolding RiseFrom
RiseFrom-push [] last bar least a n rising gap filled = search rules
RiseFrom-push (first ∷ bars) last bar least a n rising gap filled =
    (rising.0, rising.1, RiseFrom-push bars last bar _ a n rising.2 gap filled)

-- Another last bar, which begins alike.
pub RiseFrom-last : (bars : List Bar) (last bar : Bar) (least a n : ℕ)
    → RiseFrom least (bars ++ last ∷ []) a n → place_of bar.low a n ≡ place_of last.low a n
    → place_of bar.low a n < place_of bar.high a n → RiseFrom least (bars ++ bar ∷ []) a n
unfolding RiseFrom
RiseFrom-last [] last bar least a n rising same filled = search rules
RiseFrom-last (first ∷ bars) last bar least a n rising same filled =
    (rising.0, rising.1, RiseFrom-last bars last bar _ a n rising.2 same filled)

pub RiseFrom-one : (bar : Bar) (a n : ℕ) → place_of bar.low a n < place_of bar.high a n
    → RiseFrom 0 (bar ∷ []) a n
unfolding RiseFrom
RiseFrom-one bar a n filled = (omega arith, filled, tt)

-- The last bar of a rising list is not empty.
pub RiseFrom-filled : (bars : List Bar) (last : Bar) (least a n : ℕ)
    → RiseFrom least (bars ++ last ∷ []) a n → place_of last.low a n < place_of last.high a n
unfolding RiseFrom
RiseFrom-filled [] last least a n rising = rising.1
RiseFrom-filled (first ∷ bars) last least a n rising = RiseFrom-filled bars last _ a n rising.2
