-- Bars in the order of their low ends, joined one by one to a rising list.
use Rattle.std.proofs.Common.{◌≡◌, ℕ, suc, ◌+◌, ◌<◌, ◌≤◌, ◌⊎◌, ◌↔◌, Bool, true, false, max, List, [], ◌∷◌, ◌++◌, length, get_or, take, refl, sym, ap, subst, arith, inl, inr, ⊎_elim, rules}
use Rattle.std.specs.List.Sorted.{IsNonDecreasingBy, IsPermutation}
use Rattle.std.proofs.lemmas.List.{take_all, get_or_default}
use Rattle.tre_strips.specs.Bar.{place_of, BarHolds, BarsHold}
use Rattle.tre_strips.specs.Profiles.{AreFilledOver, IsUnionOfBars, IsJoined, ExtendsBars, apart, touching}
use Rattle.tre_strips.specs.Times.{IsAmongTimes, Narrows, sample_of, IsSettled, Compares, IsLater}
use Rattle.tre_strips.specs.declared.bar.Bar.{Bar}
use Rattle.tre_strips.specs.declared.bar.BarEnd.{BarEnd}
use Rattle.tre_strips.specs.declared.times.Times.{Times}
use Rattle.tre_strips.proofs.Comparing.{Narrows-itself, Narrows-time, Narrows-trans, Narrows-sample, times_rise, sample_is_time}
use Rattle.tre_strips.proofs.Lists.{BarsHold-push, BarsHold-more, BarsHold-permutation, AreFilled-permutation, AreFilled-at, RiseFrom-nil, RiseFrom-push, RiseFrom-last, RiseFrom-one, RiseFrom-filled}

abbrev pub IsInOrder : Times → List Bar → Type 0
IsInOrder times bars = IsNonDecreasingBy (λ (bar : Bar). place_of bar.low (sample_of times) 2) bars

-- The first of the bars are joined to a rising list, to which the last one may still grow; none of
-- the others begins before this one does.
pub record IsJoining (start times : Times) (first : Bar) (rest : List Bar) (i : ℕ)
    (joined : List Bar) (last : Bar) : Type 0 where
  pub narrowed : Narrows start times
  pub union : IsUnionOfBars times (first ∷ take i rest) (joined ++ last ∷ [])
  pub next : (k : ℕ) (d : Bar) → i ≤ k → k < length rest
      → place_of last.low (sample_of start) 2 ≤ place_of (get_or rest k d).low (sample_of start) 2

pub IsJoining-first : (times : Times) (first : Bar) (rest : List Bar)
    → IsInOrder times (first ∷ rest) → AreFilledOver times (first ∷ rest)
    → IsJoining times times first rest 0 [] first
IsJoining-first times first rest order filled = record {
  narrowed = Narrows-itself times;
  union = record {
    rising = λ a n time.
        RiseFrom-one first a n (AreFilled-at (first ∷ rest) 0 a n first (filled.each a n time)
        (omega arith));
    exact = λ a n time b. ((λ h. h), (λ h. h));
  };
  next = λ k d from below. order 0 (suc k) d (omega arith) (omega (arith, below));
}

more : (first : Bar) (rest : List Bar) (i : ℕ) (bar : Bar) → i < length rest
    → bar ≡ get_or rest i bar → (a b n : ℕ)
    → BarsHold (first ∷ take (i + 1) rest) a b n
    ↔ (BarsHold (first ∷ take i rest) a b n ⊎ BarHolds bar a b n)
unfolding BarsHold
more first rest i bar within is a b n =
    let last = BarsHold-more rest i bar within is a b n in (
      (λ h. ⊎_elim (λ x. inl (inl x)) (λ x. ⊎_elim (λ y. inl (inr y)) (λ y. inr y) (last.0 x)) h),
      (λ h. ⊎_elim (λ x. ⊎_elim (λ y. inl y) (λ y. inr (last.1 (inl y))) x)
          (λ x. inr (last.1 (inr x))) h),
    )

filled_at : (times : Times) (first : Bar) (rest : List Bar) (i : ℕ) (bar : Bar) → i < length rest
    → bar ≡ get_or rest i bar → AreFilledOver times (first ∷ rest) → (a n : ℕ)
    → IsAmongTimes times a n → place_of bar.low a n < place_of bar.high a n
filled_at times first rest i bar within is filled a n time =
    subst (λ (other : Bar). place_of other.low a n < place_of other.high a n) (sym is)
    (AreFilled-at (first ∷ rest) (suc i) a n bar (filled.each a n time) (omega (arith, within)))

next_order : (times : Times) (first : Bar) (rest : List Bar) (i : ℕ) (bar : Bar)
    → i < length rest → bar ≡ get_or rest i bar → IsInOrder times (first ∷ rest)
    → (k : ℕ) (d : Bar) → i + 1 ≤ k → k < length rest
    → place_of bar.low (sample_of times) 2 ≤ place_of (get_or rest k d).low (sample_of times) 2
next_order times first rest i bar within is order k d from below =
    subst (λ (other : Bar). place_of other.low (sample_of times) 2
    ≤ place_of (get_or rest k d).low (sample_of times) 2) (sym is)
    (rw (get_or_other rest i bar d within)
    (order (suc i) (suc k) d (omega (arith, from)) (omega (arith, below))))
  where
    get_or_other : (bars : List Bar) (i : ℕ) (bar d : Bar) → i < length bars
        → get_or bars i bar ≡ get_or bars i d
    get_or_other bars i bar d within = get_or_default bars i bar d within

IsJoining-gap : (start old new : Times) (first : Bar) (rest : List Bar) (i : ℕ)
    (joined : List Bar) (last bar : Bar) → IsInOrder start (first ∷ rest)
    → AreFilledOver start (first ∷ rest) → i < length rest → bar ≡ get_or rest i bar
    → IsJoining start old first rest i joined last → Narrows old new
    → Compares true new last.high bar.low
    → IsJoining start new first rest (i + 1) (joined ++ last ∷ []) bar
IsJoining-gap start old new first rest i joined last bar order filled within is now cut gap =
    let whole = Narrows-trans start old new now.narrowed cut in
    record {
      narrowed = whole;
      union = record {
        rising = λ a n time.
            RiseFrom-push joined last bar 0 a n
            (now.union.rising a n (Narrows-time old new cut a n time)) (gap.told a n time)
            (filled_at start first rest i bar within is filled a n
            (Narrows-time start new whole a n time));
        exact = λ a n time b.
            let old_exact = now.union.exact a n (Narrows-time old new cut a n time) b in
            let push = BarsHold-push (joined ++ last ∷ []) bar a b n in
            let step = more first rest i bar within is a b n in (
              (λ h. step.1 (⊎_elim (λ x. inl (old_exact.0 x)) (λ x. inr x) (push.0 h))),
              (λ h. push.1 (⊎_elim (λ x. inl (old_exact.1 x)) (λ x. inr x) (step.0 h))),
            );
      };
      next = next_order start first rest i bar within is order;
    }

-- Two bars that touch are one.
touch : (one other joint : Bar) (a b n : ℕ) → joint.low ≡ one.low
    → place_of one.low a n ≤ place_of other.low a n
    → place_of other.low a n ≤ place_of one.high a n
    → place_of joint.high a n ≡ max (place_of one.high a n) (place_of other.high a n)
    → BarHolds joint a b n ↔ (BarHolds one a b n ⊎ BarHolds other a b n)
touch one other joint a b n same low near high = search rules

IsJoining-join : (start old new : Times) (first : Bar) (rest : List Bar) (i : ℕ)
    (joined : List Bar) (last bar joint : Bar) → i < length rest → bar ≡ get_or rest i bar
    → IsJoining start old first rest i joined last → Narrows old new
    → Compares false new last.high bar.low → IsJoined new last bar joint
    → IsJoining start new first rest (i + 1) joined joint
IsJoining-join start old new first rest i joined last bar joint within is now narrowed near both =
    record {
      narrowed = Narrows-trans start old new now.narrowed narrowed;
      union = record {
        rising = λ a n time.
            let rising = now.union.rising a n (Narrows-time old new narrowed a n time) in
            let low = ap (λ end. place_of end a n) both.same in
            let filled = RiseFrom-filled joined last 0 a n rising in
            let high = both.high a n time in
            RiseFrom-last joined last joint 0 a n rising low (omega arith);
        exact = λ a n time b.
            let old_exact = now.union.exact a n (Narrows-time old new narrowed a n time) b in
            let before = BarsHold-push joined last a b n in
            let after_it = BarsHold-push joined joint a b n in
            let step = more first rest i bar within is a b n in
            let one = touch last bar joint a b n both.same (both.order a n time)
            (near.told a n time) (both.high a n time) in (
              (λ h. step.1 (⊎_elim (λ x. inl (old_exact.0 (before.1 (inl x))))
                  (λ x. ⊎_elim (λ y. inl (old_exact.0 (before.1 (inr y)))) (λ y. inr y) (one.0 x))
                  (after_it.0 h))),
              (λ h. ⊎_elim
                  (λ x. ⊎_elim (λ y. after_it.1 (inl y)) (λ y. after_it.1 (inr (one.1 (inl y))))
                  (before.0 (old_exact.1 x)))
                  (λ x. after_it.1 (inr (one.1 (inr x)))) (step.0 h)),
            );
      };
      next = λ k d from below.
          let low = ap (λ end. place_of end (sample_of start) 2) both.same in
          let was = now.next k d (omega (arith, from)) below in
          omega arith;
    }

pub IsJoining-step : (start old new : Times) (first : Bar) (rest : List Bar) (i : ℕ)
    (joined joined' : List Bar) (last bar next : Bar) → IsInOrder start (first ∷ rest)
    → AreFilledOver start (first ∷ rest) → i < length rest → bar ≡ get_or rest i bar
    → IsJoining start old first rest i joined last → Narrows old new
    → ExtendsBars new last bar joined joined' next
    → IsJoining start new first rest (i + 1) joined' next
IsJoining-step start old new first rest i joined joined' last bar next order filled within is now
    cut (apart gap e e') =
    subst (λ (l : List Bar). IsJoining start new first rest (i + 1) l next) (sym e)
    (subst (λ (b : Bar). IsJoining start new first rest (i + 1) (joined ++ last ∷ []) b) (sym e')
    (IsJoining-gap start old new first rest i joined last bar order filled within is now cut gap))
IsJoining-step start old new first rest i joined joined' last bar next order filled within is now
    cut (touching near both e) =
    subst (λ (l : List Bar). IsJoining start new first rest (i + 1) l next) (sym e)
    (IsJoining-join start old new first rest i joined last bar next within is now cut near both)

-- What joining two asks for.
pub IsJoining-order : (start old : Times) (first : Bar) (rest : List Bar) (i : ℕ)
    (joined : List Bar) (last bar : Bar) → i < length rest → bar ≡ get_or rest i bar
    → IsJoining start old first rest i joined last
    → place_of last.low (sample_of old) 2 ≤ place_of bar.low (sample_of old) 2
IsJoining-order start old first rest i joined last bar within is now =
    let same = Narrows-sample start old now.narrowed in
    rw same (subst (λ (other : Bar). place_of last.low (sample_of start) 2
    ≤ place_of other.low (sample_of start) 2) (sym is) (now.next i bar (omega arith) within))

pub IsJoining-all : (start times : Times) (first : Bar) (rest : List Bar) (i : ℕ)
    (joined : List Bar) (last : Bar) → length rest ≤ i
    → IsJoining start times first rest i joined last
    → IsUnionOfBars times (first ∷ rest) (joined ++ last ∷ [])
IsJoining-all start times first rest i joined last past now =
    subst (λ (bars : List Bar). IsUnionOfBars times (first ∷ bars) (joined ++ last ∷ []))
    (take_all i rest past) now.union

-- ---- the whole

pub IsUnion-none : (times : Times) → IsUnionOfBars times [] []
IsUnion-none times = search (rules, RiseFrom-nil)

-- Fewer than two bars are united as they stand.
pub IsUnion-few : (times : Times) (bars : List Bar) → length bars < 2 → AreFilledOver times bars
    → IsUnionOfBars times bars bars
IsUnion-few times [] few filled = IsUnion-none times
IsUnion-few times (bar ∷ []) few filled = record {
  rising = λ a n time.
      RiseFrom-one bar a n (AreFilled-at (bar ∷ []) 0 a n bar (filled.each a n time) (omega arith));
  exact = λ a n time b. ((λ h. h), (λ h. h));
}
IsUnion-few times (bar ∷ other ∷ bars) few filled = absurd (omega arith)

pub IsUnion-permutation : (times : Times) (bars others union : List Bar)
    → IsPermutation bars others → IsUnionOfBars times others union → IsUnionOfBars times bars union
IsUnion-permutation times bars others union order is =
    search (rules, BarsHold-permutation, is.exact)

-- ---- two bars that touch

pub IsJoined-settled : (old mid new : Times) (one other : Bar) (high : BarEnd) → Narrows old mid
    → Narrows mid new → IsSettled mid other.low one.low
    → place_of one.low (sample_of old) 2 ≤ place_of other.low (sample_of old) 2
    → IsLater new one.high other.high high
    → IsJoined new one other (record { low = one.low; high = high })
IsJoined-settled old mid new one other high cut cut' settled order later = record {
  same = refl;
  order = λ a n time.
      let before = Narrows-time mid new cut' a n time in
      ⊎_elim (λ less.
      let here = less (sample_of mid) 2 (sample_is_time mid (times_rise mid a n before)) in
      let was = rw (← Narrows-sample old mid cut) at order in
      absurd (omega arith))
      (λ above. above a n before) settled.order;
  high = λ a n time. later.place a n time;
}

pub Compares-cut : (old new : Times) (before : Bool) (one other : BarEnd) → Narrows old new
    → Compares before old one other → Compares before new one other
Compares-cut old new before one other cut told = search rules

pub AreFilledOver-permutation : (times : Times) (bars others : List Bar)
    → IsPermutation bars others → AreFilledOver times bars → AreFilledOver times others
AreFilledOver-permutation times bars others order filled =
    search (rules, AreFilled-permutation, filled.each)
