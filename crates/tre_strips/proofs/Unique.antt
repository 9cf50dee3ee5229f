-- There is one profile over a time, and one list of bars that is the profile over many.
use Rattle.std.proofs.Common.{◌≡◌, ℕ, ◌+◌, ◌*◌, ◌<◌, ◌≤◌, ◌⊎◌, ◌↔◌, Bool, true, false, cond, List, [], ◌∷◌, refl, arith, inl, inr, ⊎_elim}
use Rattle.std.proofs.lemmas.Bool.{cases_lt}
use Rattle.tre_pairs.specs.Pairs.{Pairs}
use Rattle.tre_strips.specs.Bar.{place_of, BarsHold, RiseFrom}
use Rattle.tre_strips.specs.Profile.{IsIn, IsProfile}
use Rattle.tre_strips.specs.Found.{AreSamePlaces}
use Rattle.tre_strips.specs.declared.bar.Bar.{Bar}
use Rattle.tre_strips.specs.declared.bar.BarEnd.{BarEnd}

-- ---- places as moments: in a unit twice as fine every place is one

-- The place is on one of the bars.
abbrev pub Covers : List Bar → ℕ → ℕ → ℕ → Type 0
Covers [] a n p = ⊥
Covers (bar ∷ bars) a n p =
    ((place_of bar.low a n ≤ p) × (p < place_of bar.high a n)) ⊎ Covers bars a n p

bit : Bool → ℕ
bit flag = cond flag 1 0

finer : (t n a : ℕ) (m f : Bool) (p : ℕ)
    → (2 * (t * (2 * n) + cond m (2 * a) 0) + cond f 1 0 ≤ 2 * p)
    ↔ (2 * (t * n + cond m a 0) + cond f 1 0 ≤ p)
finer t n a true true p = ((λ h. omega arith), (λ h. omega arith))
finer t n a true false p = ((λ h. omega arith), (λ h. omega arith))
finer t n a false true p = ((λ h. omega arith), (λ h. omega arith))
finer t n a false false p = ((λ h. omega arith), (λ h. omega arith))

finer' : (t n a : ℕ) (m f : Bool) (p : ℕ)
    → (2 * p < 2 * (t * (2 * n) + cond m (2 * a) 0) + cond f 1 0)
    ↔ (p < 2 * (t * n + cond m a 0) + cond f 1 0)
finer' t n a true true p = ((λ h. omega arith), (λ h. omega arith))
finer' t n a true false p = ((λ h. omega arith), (λ h. omega arith))
finer' t n a false true p = ((λ h. omega arith), (λ h. omega arith))
finer' t n a false false p = ((λ h. omega arith), (λ h. omega arith))

pub low_finer : (end : BarEnd) (a n p : ℕ)
    → (place_of end (2 * a) (2 * n) ≤ 2 * p) ↔ (place_of end a n ≤ p)
unfolding place_of
low_finer end a n p = finer end.ticks n a end.moves end.after p

pub high_finer : (end : BarEnd) (a n p : ℕ)
    → (2 * p < place_of end (2 * a) (2 * n)) ↔ (p < place_of end a n)
unfolding place_of
high_finer end a n p = finer' end.ticks n a end.moves end.after p

pub covers_held : (bars : List Bar) (a n p : ℕ)
    → BarsHold bars (2 * a) p (2 * n) ↔ Covers bars a n p
unfolding BarsHold
covers_held [] a n p = ((λ h. h), (λ h. h))
covers_held (bar ∷ bars) a n p =
    let rest = covers_held bars a n p in
    let low = low_finer bar.low a n p in
    let high = high_finer bar.high a n p in (
      (λ h. ⊎_elim (λ x. inl (low.0 x.low, high.0 x.high)) (λ x. inr (rest.0 x)) h),
      (λ h. ⊎_elim (λ x. inl (record { low = low.1 x.0; high = high.1 x.1 }))
          (λ x. inr (rest.1 x)) h),
    )

-- ---- rising lists that cover the same stand alike

covers_from : (bars : List Bar) (least a n p : ℕ) → RiseFrom least bars a n → Covers bars a n p
    → least ≤ p
unfolding RiseFrom
covers_from [] least a n p rising h = absurd h
covers_from (bar ∷ bars) least a n p rising h =
    let start = rising.0 in
    let filled = rising.1 in
    ⊎_elim (λ x. let low = x.0 in omega arith)
    (λ x. let from = covers_from bars _ a n p rising.2 x in omega arith) h

pub same_places : (bars others : List Bar) (least least' a n : ℕ) → RiseFrom least bars a n
    → RiseFrom least' others a n → ((p : ℕ) → Covers bars a n p ↔ Covers others a n p)
    → AreSamePlaces bars others a n
unfolding RiseFrom AreSamePlaces
same_places [] [] least least' a n rising rising' same = tt
same_places [] (other ∷ others) least least' a n rising rising' same =
    (same (place_of other.low a n)).1 (inl (omega arith, rising'.1))
same_places (bar ∷ bars) [] least least' a n rising rising' same =
    (same (place_of bar.low a n)).0 (inl (omega arith, rising.1))
same_places (bar ∷ bars) (other ∷ others) least least' a n rising rising' same =
    let filled = rising.1 in
    let filled' = rising'.1 in
    let whole : RiseFrom (place_of bar.low a n) (bar ∷ bars) a n =
    (omega arith, rising.1, rising.2) in
    let whole' : RiseFrom (place_of other.low a n) (other ∷ others) a n =
    (omega arith, rising'.1, rising'.2) in
    let up = covers_from (other ∷ others) (place_of other.low a n) a n (place_of bar.low a n) whole'
    ((same (place_of bar.low a n)).0 (inl (omega arith, rising.1))) in
    let down = covers_from (bar ∷ bars) (place_of bar.low a n) a n (place_of other.low a n) whole
    ((same (place_of other.low a n)).1 (inl (omega arith, rising'.1))) in
    let low : place_of bar.low a n ≡ place_of other.low a n = omega arith in
    let not_less = λ (less : place_of bar.high a n < place_of other.high a n).
    left_out bar bars a n rising.2
    ((same (place_of bar.high a n)).1 (inl (omega arith, less))) in
    let not_more = λ (more : place_of other.high a n < place_of bar.high a n).
    left_out other others a n rising'.2
    ((same (place_of other.high a n)).0 (inl (omega arith, more))) in
    let high : place_of bar.high a n ≡ place_of other.high a n =
    ⊎_elim (λ less. absurd (not_less less))
    (λ above. ⊎_elim (λ more. absurd (not_more more)) (λ below. omega arith)
    (cases_lt (place_of other.high a n) (place_of bar.high a n)))
    (cases_lt (place_of bar.high a n) (place_of other.high a n)) in (
      record { low = low; high = high },
      same_places bars others _ _ a n rising.2 rising'.2 (λ p. (
        (λ h.
            let from = covers_from bars _ a n p rising.2 h in
            ⊎_elim (λ x. let below = x.1 in absurd (omega arith)) (λ x. x)
            ((same p).0 (inr h))),
        (λ h.
            let from = covers_from others _ a n p rising'.2 h in
            ⊎_elim (λ x. let below = x.1 in absurd (omega arith)) (λ x. x)
            ((same p).1 (inr h))),
      )),
    )
  where
    left_out : (bar : Bar) (bars : List Bar) (a n : ℕ)
        → RiseFrom (place_of bar.high a n + 1) bars a n
        → Covers (bar ∷ bars) a n (place_of bar.high a n) → ⊥
    left_out bar bars a n rising h =
        ⊎_elim (λ x. let below = x.1 in omega arith)
        (λ x. let from = covers_from bars _ a n _ rising x in omega arith) h

-- ---- profiles

twice_in : (from until a n : ℕ) → IsIn from until a n → IsIn from until (2 * a) (2 * n)
twice_in from until a n inside =
    ⊎_elim (λ one. let is = one.1 in inl (one.0, omega arith))
    (λ many. let low = many.0 in let high = many.1 in inr (omega arith, omega arith)) inside

pub IsProfile-places : (M : Pairs) (bars others : List Bar) (from until a n : ℕ) → 0 < n
    → IsIn from until a n → IsProfile M bars from until → IsProfile M others from until
    → AreSamePlaces bars others a n
IsProfile-places M bars others from until a n some inside one two =
    let twice = twice_in from until a n inside in
    let fine = one.each (2 * a) (2 * n) (omega arith) twice in
    let fine' = two.each (2 * a) (2 * n) (omega arith) twice in
    same_places bars others 0 0 a n (one.each a n some inside).rising
    (two.each a n some inside).rising (λ p.
    let held = covers_held bars a n p in
    let held' = covers_held others a n p in (
      (λ h. held'.0 ((fine'.exact p).1 ((fine.exact p).0 (held.1 h)))),
      (λ h. held.0 ((fine.exact p).1 ((fine'.exact p).0 (held'.1 h)))),
    ))

-- ---- half a tick behind a whole time the place of an end tells the end

same_parts : (t u s : ℕ) (m k f g : Bool)
    → 2 * (t * 2 + cond m (2 * s + 1) 0) + cond f 1 0
    ≡ 2 * (u * 2 + cond k (2 * s + 1) 0) + cond g 1 0
    → (t ≡ u) × (m ≡ k) × (f ≡ g)
same_parts t u s true true true true e = (omega arith, refl, refl)
same_parts t u s true true false false e = (omega arith, refl, refl)
same_parts t u s false false true true e = (omega arith, refl, refl)
same_parts t u s false false false false e = (omega arith, refl, refl)
same_parts t u s true true true false e = absurd (omega arith)
same_parts t u s true true false true e = absurd (omega arith)
same_parts t u s false false true false e = absurd (omega arith)
same_parts t u s false false false true e = absurd (omega arith)
same_parts t u s true false true true e = absurd (omega arith)
same_parts t u s true false true false e = absurd (omega arith)
same_parts t u s true false false true e = absurd (omega arith)
same_parts t u s true false false false e = absurd (omega arith)
same_parts t u s false true true true e = absurd (omega arith)
same_parts t u s false true true false e = absurd (omega arith)
same_parts t u s false true false true e = absurd (omega arith)
same_parts t u s false true false false e = absurd (omega arith)

same_end : (end other : BarEnd) (s : ℕ)
    → place_of end (2 * s + 1) 2 ≡ place_of other (2 * s + 1) 2 → end ≡ other
unfolding place_of
same_end end other s e =
    let parts = same_parts end.ticks other.ticks s end.moves other.moves end.after other.after e in
    λ i. record { ticks = parts.0 i; moves = parts.1 i; after = parts.2 i }

pub same_list : (bars others : List Bar) (s : ℕ) → AreSamePlaces bars others (2 * s + 1) 2
    → bars ≡ others
unfolding AreSamePlaces
same_list [] [] s same = refl
same_list [] (other ∷ others) s same = absurd same
same_list (bar ∷ bars) [] s same = absurd same
same_list (bar ∷ bars) (other ∷ others) s same =
    let low = same_end bar.low other.low s same.0.low in
    let high = same_end bar.high other.high s same.0.high in
    let rest = same_list bars others s same.1 in
    λ i. record { low = low i; high = high i } ∷ rest i

pub IsProfile-same : (M : Pairs) (bars others : List Bar) (from until : ℕ) → from < until
    → IsProfile M bars from until → IsProfile M others from until → bars ≡ others
IsProfile-same M bars others from until less one two =
    same_list bars others from
    (IsProfile-places M bars others from until (2 * from + 1) 2 (omega arith)
    (inr (omega arith, omega arith)) one two)
