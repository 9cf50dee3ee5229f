-- Stretches of time over which one list of bars is the profile, and where they end.
use Rattle.std.proofs.Common.{◌≡◌, ◌≢◌, ℕ, ◌*◌, ◌<◌, ◌≤◌, ◌⊎◌, ◌↔◌, min, max, List, [], ◌∷◌, refl, sym, ap, subst, arith, inl, inr, ⊎_elim, mul-le-mul_right, rules}
use Rattle.std.proofs.lemmas.Bool.{cases_eq, cases_lt}
use Rattle.tre_pairs.specs.Pairs.{Pairs}
use Rattle.tre_strips.specs.Bar.{RiseFrom}
use Rattle.tre_strips.specs.Profile.{IsIn, IsProfile, BarsFit}
use Rattle.tre_strips.specs.Runs.{IsRunOfBars}
use Rattle.tre_strips.specs.Found.{AreSamePlaces, ProfileGoesOn, Agree}
use Rattle.tre_strips.specs.declared.bar.Bar.{Bar}
use Rattle.tre_strips.proofs.Unique.{IsProfile-places, IsProfile-same}
use Rattle.tre_strips.proofs.Fitting.{AreSamePlaces-single, AreSamePlaces-held}

-- ---- parts of time

many : (from until a n : ℕ) → from < until → IsIn from until a n
    → (from * n < a) × (a < until * n)
many from until a n less inside = search rules

single : (time a n : ℕ) → IsIn time time a n → a ≡ time * n
single time a n inside = search rules

pub IsProfile-part : (M : Pairs) (bars : List Bar) (from until start end : ℕ) → from ≤ start
    → end ≤ until → start < end → IsProfile M bars from until → IsProfile M bars start end
IsProfile-part M bars from until start end low high less profile = record {
  each = λ a n some inside.
      let both = many start end a n less inside in
      let above = both.0 in
      let below = both.1 in
      let wide = mul-le-mul_right n low in
      let wide' = mul-le-mul_right n high in
      profile.each a n some (inr (omega arith, omega arith));
}

pub IsProfile-at : (M : Pairs) (bars : List Bar) (from until time : ℕ) → from < time
    → time < until → IsProfile M bars from until → IsProfile M bars time time
IsProfile-at M bars from until time low high profile = record {
  each = λ a n some inside.
      let is = single time a n inside in
      let wide = mul-le-mul_right n low in
      let wide' = mul-le-mul_right n high in
      profile.each a n some (inr (omega arith, omega arith));
}

-- Two stretches that overlap are one.
pub IsProfile-join : (M : Pairs) (bars : List Bar) (from until start end : ℕ) → from < end
    → start < until → IsProfile M bars from until → IsProfile M bars start end
    → IsProfile M bars (min from start) (max until end)
IsProfile-join M bars from until start end one other first second = record {
  each = λ a n some inside.
      let both = bounds from until start end a n one other inside in
      let wide = mul-le-mul_right n one in
      let wide' = mul-le-mul_right n other in
      ⊎_elim (λ (low : from * n < a).
      ⊎_elim (λ (high : a < until * n). first.each a n some (inr (low, high)))
      (λ (past : until * n ≤ a).
      second.each a n some (inr (
        omega arith,
        ⊎_elim (λ x. absurd (omega arith)) (λ x. x) both.1,
      ))) (cases_lt a (until * n)))
      (λ (early : a ≤ from * n).
      second.each a n some (inr (
        ⊎_elim (λ x. absurd (omega arith)) (λ x. x) both.0,
        omega arith,
      )))
      (cases_lt (from * n) a);
}
  where
    bounds : (from until start end a n : ℕ) → from < end → start < until
        → IsIn (min from start) (max until end) a n
        → ((from * n < a) ⊎ (start * n < a)) × ((a < until * n) ⊎ (a < end * n))
    bounds from until start end a n one other inside =
        let both = many (min from start) (max until end) a n (omega arith) inside in
        let low = both.0 in
        let high = both.1 in (
          ⊎_elim (λ (less : from < start).
              let is : min from start ≡ from = omega arith in
              let product = ap (λ k. k * n) is in inl (omega arith))
              (λ (above : start ≤ from).
              let is : min from start ≡ start = omega arith in
              let product = ap (λ k. k * n) is in inr (omega arith)) (cases_lt from start),
          ⊎_elim (λ (less : until < end).
              let is : max until end ≡ end = omega arith in
              let product = ap (λ k. k * n) is in inr (omega arith))
              (λ (above : end ≤ until).
              let is : max until end ≡ until = omega arith in
              let product = ap (λ k. k * n) is in inl (omega arith)) (cases_lt until end),
        )

-- Two stretches and the time between them are one.
pub IsProfile-through : (M : Pairs) (bars : List Bar) (from time until : ℕ) → from < time
    → time < until → IsProfile M bars from time → IsProfile M bars time time
    → IsProfile M bars time until → IsProfile M bars from until
IsProfile-through M bars from time until low high first at second = record {
  each = λ a n some inside.
      let both = many from until a n (omega arith) inside in
      ⊎_elim (λ (before : a < time * n). first.each a n some (inr (both.0, before)))
      (λ (past : time * n ≤ a).
      ⊎_elim (λ (same : a ≡ time * n). at.each a n some (inl (refl, same)))
      (λ (differs : a ≢ time * n). second.each a n some (inr (omega arith, both.1)))
      (cases_eq a (time * n)))
      (cases_lt a (time * n));
}

-- ---- where bars stand as the profile does, they are it

RiseFrom-alike : (bars others : List Bar) (least least' a n : ℕ) → least ≤ least'
    → AreSamePlaces bars others a n → RiseFrom least' others a n → RiseFrom least bars a n
unfolding RiseFrom AreSamePlaces
RiseFrom-alike [] [] least least' a n le same rising = tt
RiseFrom-alike [] (other ∷ others) least least' a n le same rising = tt
RiseFrom-alike (bar ∷ bars) [] least least' a n le same rising = absurd same
RiseFrom-alike (bar ∷ bars) (other ∷ others) least least' a n le same rising =
    let low = same.0.low in
    let high = same.0.high in
    let from = rising.0 in
    let filled = rising.1 in (
      omega arith,
      omega arith,
      RiseFrom-alike bars others _ _ a n (omega arith) same.1 rising.2,
    )

pub IsProfile-alike : (M : Pairs) (bars there : List Bar) (time : ℕ)
    → AreSamePlaces bars there (2 * time) 2 → IsProfile M there time time
    → IsProfile M bars time time
IsProfile-alike M bars there time same at = record {
  each = λ a n some inside.
      let is = single time a n inside in
      let own = at.each a n some inside in
      let alike : AreSamePlaces bars there a n =
      subst (λ (k : ℕ). AreSamePlaces bars there k n) (sym is)
      (AreSamePlaces-single bars there time n same) in
      record {
        rising = RiseFrom-alike bars there 0 0 a n (omega arith) alike own.rising;
        exact = λ b.
            let held = AreSamePlaces-held bars there a b n alike in
            let exact = own.exact b in
            ((λ h. exact.0 (held.0 h)), (λ h. held.1 (exact.1 h)));
      };
}

pub Fits-agree : (M : Pairs) (bars there : List Bar) (time : ℕ) → IsProfile M there time time
    → BarsFit M bars time ↔ Agree time bars there
Fits-agree M bars there time at = (
  (λ fits. record {
    filled = fits.filled;
    exact = λ b n some.
        let own = (at.each (time * n) n some (inl (refl, refl))).exact b in
        let fit = fits.exact b n some in
        ((λ h. own.1 (fit.0 h)), (λ h. fit.1 (own.0 h)));
  }),
  (λ agree. record {
    filled = agree.filled;
    exact = λ b n some.
        let own = (at.each (time * n) n some (inl (refl, refl))).exact b in
        let fit = agree.exact b n some in
        ((λ h. own.0 (fit.0 h)), (λ h. fit.1 (own.1 h)));
  }),
)

-- ---- a column at which a run may end

module _ (M : Pairs) (bars there behind : List Bar) (from time until : ℕ) (less : from < time)
    (later : time < until) (before : IsProfile M bars from time)
    (at : IsProfile M there time time) (next : IsProfile M behind time until) where
  pub IsProfile-on : ProfileGoesOn bars there behind time → IsProfile M bars from until
  IsProfile-on goes = IsProfile-through M bars from time until less later before
      (IsProfile-alike M bars there time goes.1 at)
      (subst (λ (l : List Bar). IsProfile M l time until) (sym goes.0) next)

  places_at : (others : List Bar) → IsProfile M others time time
      → AreSamePlaces others there (2 * time) 2
  places_at others own =
      IsProfile-places M others there time time (2 * time) 2 (omega arith) (inl (refl, omega arith))
      own at

  -- Where the bars are the profile for longer, the run goes on.
  pub longer : (end : ℕ) → time < end → IsProfile M bars from end → ProfileGoesOn bars there behind time
  longer end past whole = (
    IsProfile-same M bars behind time (min end until) (omega arith)
        (IsProfile-part M bars from end time (min end until) (omega arith) (omega arith)
        (omega arith) whole)
        (IsProfile-part M behind time until time (min end until) (omega arith) (omega arith)
        (omega arith) next),
    places_at bars (IsProfile-at M bars from end time less past whole),
  )

  -- So it does where the bars behind the time are the profile before it.
  pub earlier : (start : ℕ) → start < time → IsProfile M behind start until
      → ProfileGoesOn bars there behind time
  earlier start before_it whole =
      let same : behind ≡ bars =
      IsProfile-same M behind bars (max start from) time (omega arith)
      (IsProfile-part M behind start until (max start from) time (omega arith) (omega arith)
      (omega arith) whole)
      (IsProfile-part M bars from time (max start from) time (omega arith) (omega arith)
      (omega arith) before) in (
        sym same,
        subst (λ (l : List Bar). AreSamePlaces l there (2 * time) 2) same
            (places_at behind (IsProfile-at M behind start until time before_it later whole)),
      )

  -- No run that began earlier has these bars.
  abbrev pub IsFirst : Type 0
  IsFirst = (start : ℕ) → start ≤ from → IsProfile M bars start time → start ≡ from

  module _ (first : IsFirst) (stops : ProfileGoesOn bars there behind time → ⊥) where
    pub IsRun-closed : IsRunOfBars M bars from time
    IsRun-closed = record {
      rising = less;
      profile = before;
      longest = λ start end low high whole. (
        first start low
            (IsProfile-part M bars start end start time (omega arith) high (omega arith) whole),
        ⊎_elim (λ (past : time < end).
            absurd (stops (longer end past
            (IsProfile-part M bars start end from end low (omega arith) (omega arith) whole))))
            (λ (above : end ≤ time). omega arith) (cases_lt time end),
      );
    }

    -- A run that overlaps this one is this one.
    pub IsRun-same : (others : List Bar) (start end : ℕ) → IsRunOfBars M others start end
        → start < time → from < end → (others ≡ bars) × (start ≡ from) × (end ≡ time)
    IsRun-same others start end run early late =
        let rises = run.rising in
        let same : others ≡ bars =
        IsProfile-same M others bars (max start from) (min end time) (omega arith)
        (IsProfile-part M others start end (max start from) (min end time) (omega arith)
        (omega arith) (omega arith) run.profile)
        (IsProfile-part M bars from time (max start from) (min end time) (omega arith)
        (omega arith) (omega arith) before) in
        let own : IsProfile M bars start end =
        subst (λ (l : List Bar). IsProfile M l start end) same run.profile in
        let whole : IsProfile M others (min start from) (max end time) =
        subst (λ (l : List Bar). IsProfile M l (min start from) (max end time)) (sym same)
        (IsProfile-join M bars start end from time (omega arith) (omega arith) own before) in
        let both = run.longest (min start from) (max end time) (omega arith) (omega arith) whole in
        let low = both.0 in
        let high = both.1 in
        let begins = first start (omega arith)
        (IsProfile-part M bars start end start time (omega arith) (omega arith) (omega arith) own) in (
          same,
          begins,
          ⊎_elim (λ (past : time < end).
              absurd (stops (longer end past
              (IsProfile-part M bars start end from end (omega arith) (omega arith) (omega arith)
              own))))
              (λ (above : end ≤ time). omega arith) (cases_lt time end),
        )
