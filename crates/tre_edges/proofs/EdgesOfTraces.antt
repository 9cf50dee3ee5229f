-- The edges of a trace, from one place at which the state changes to the next.
use Rattle.std.proofs.Common.{◌≡◌, ℕ, zero, suc, drop, length, ◌+◌, ◌-◌, ◌<◌, ◌≤◌, ◌↔◌, ◌⊎◌, inl, inr, ⊎_elim, Bool, true, false, IsTrue, Option, None, Some, IsSomeAnd, List, refl, subst, arith, rules}
use Rattle.std.proofs.Math.ListN.{drop_of_length-le}
use Rattle.std.proofs.lemmas.Bool.{cases_lt, cases_eq}
use Rattle.tre_pairs.specs.Pairs.{Pairs}
use Rattle.tre_syntax.specs.Rest.{rest_of, EdgeMatches}
use Rattle.tre_trace.specs.declared.segment.Segment.{Segment}
use Rattle.tre_trace.specs.Planes.{valuation_at}
use Rattle.tre_trace.specs.Trace.{quiet}
use Rattle.tre_edges.specs.Truth.{IsFoundAt}
use Rattle.tre_edges.proofs.InstantsOfRests.{EdgeMatches-segment, EdgeMatches-end}
use Rattle.tre_edges.proofs.Places.{time_of, here, time_of-next, rest_here, valuation_here}

-- what held before the place
abbrev pub before_at : List Segment → ℕ → Option ℕ
before_at segments zero = None
before_at segments (suc place) = Some (valuation_at segments place)

-- the edges at the place and later
abbrev pub EdgesFrom : (ℕ → Type 0) → (ℕ → Type 0) → List Segment → ℕ → Pairs
EdgesFrom P Q segments place =
    EdgeMatches P Q (rest_of (time_of segments place) (before_at segments place)
    (quiet (drop place segments)))

module _ (P Q : ℕ → Type 0) (segments : List Segment) (a b n : ℕ) where
  -- the edge at one place, and the later ones
  one_place : (place : ℕ) → place < length segments → (found : Bool)
      → IsTrue found ↔ (IsSomeAnd (before_at segments place) P × Q (valuation_at segments place))
      → EdgesFrom P Q segments place a b n
      ↔ (IsFoundAt found (time_of segments place) a b n
      ⊎ EdgesFrom P Q segments (place + 1) a b n)
  one_place place within found is =
      rw (
        before_next place,
        rest_here segments place within,
        time_of-next segments place within,
        valuation_here segments place within,
      )
      (EdgeMatches-segment P Q (time_of segments place) (before_at segments place)
      (here segments place within) (drop (place + 1) segments) found
      (rw (valuation_here segments place within) at is) a b n) where
        before_next : (k : ℕ) → before_at segments (k + 1) ≡ Some (valuation_at segments k)
        before_next k = let next : k + 1 ≡ suc k = omega arith in rw next refl

  no_edge : (place : ℕ) → place < length segments
      → ¬ (IsSomeAnd (before_at segments place) P × Q (valuation_at segments place))
      → EdgesFrom P Q segments place a b n ↔ EdgesFrom P Q segments (place + 1) a b n
  no_edge place within none =
      let law = one_place place within false
      ((λ h. let wrong : false ≡ true = h in absurd cc), (λ h. absurd (none h))) in (
        λ h. ⊎_elim (λ found. let wrong : false ≡ true = found.is in absurd cc) (λ rest. rest)
            (law.0 h),
        λ h. law.1 (inr h),
      )

  skip_edges : (place count : ℕ) → place + count ≤ length segments
      → ((k : ℕ) → place ≤ k → k < place + count
      → ¬ (IsSomeAnd (before_at segments k) P × Q (valuation_at segments k)))
      → EdgesFrom P Q segments place a b n ↔ EdgesFrom P Q segments (place + count) a b n
  skip_edges place zero within none = search rules
  skip_edges place (suc count) within none =
      let first = no_edge place (omega (arith, within)) (none place (omega arith) (omega arith)) in
      let back : place + 1 + count ≡ place + suc count = omega arith in
      let more =
      subst (λ to. EdgesFrom P Q segments (place + 1) a b n ↔ EdgesFrom P Q segments to a b n)
      back
      (skip_edges (place + 1) count (omega (arith, within))
      (λ k late early. none k (omega (arith, late)) (omega (arith, early)))) in
      ((λ h. more.0 (first.0 h)), (λ h. first.1 (more.1 h)))

  -- past the last segment there is no edge
  pub no_more : (place : ℕ) → length segments ≤ place → EdgesFrom P Q segments place a b n → ⊥
  no_more place past h = search (rules, drop_of_length-le, EdgeMatches-end, time_of)

  -- the state has one truth up to the place `other`, and the other one from there to `turn`
  pub next_edge : (at other turn : ℕ) → at ≤ other → other ≤ turn → turn ≤ length segments
      → (found : Bool) → IsTrue found ↔ (turn < length segments)
      → ((v : ℕ) → P v → Q v → ⊥)
      → (at < length segments → IsSomeAnd (before_at segments at) P → ⊥)
      → ((k : ℕ) → at ≤ k → k < other → Q (valuation_at segments k))
      → ((k : ℕ) → other ≤ k → k < turn → P (valuation_at segments k))
      → (turn < length segments → other < turn × Q (valuation_at segments turn))
      → EdgesFrom P Q segments at a b n
      ↔ (IsFoundAt found (time_of segments turn) a b n
      ⊎ EdgesFrom P Q segments (turn + 1) a b n)
  next_edge at other turn first second within found is apart calm before behind turns =
      let to_turn : at + (turn - at) ≡ turn = omega (arith, first, second) in
      let skip =
      rw to_turn at (skip_edges at (turn - at) (omega (arith, first, second, within))
      (λ k late early. calm_at k late (omega (arith, early, first, second)))) in
      elim (cases_lt turn (length segments)) [
        | inl early ↦
            let law = one_place turn early found (edge early) in
            ((λ h. law.0 (skip.0 h)), (λ h. skip.1 (law.1 h)))
        | inr late ↦ (
          (λ h. absurd (no_more turn late (skip.0 h))),
          (λ h. ⊎_elim (λ there. absurd (omega (arith, late, is.0 there.is)))
              (λ more. absurd (no_more (turn + 1) (omega (arith, late)) more)) h),
        )
      ] where
        -- before a place that has one before it
        before_is : (R : ℕ → Type 0) (k : ℕ) → 0 < k → IsSomeAnd (before_at segments k) R
            ↔ R (valuation_at segments (k - 1))
        before_is R zero some = absurd (omega arith)
        before_is R (suc k) some =
            let back : suc k - 1 ≡ k = omega arith in
            rw back ((λ h. h), (λ h. h))

        calm_at : (k : ℕ) → at ≤ k → k < turn
            → ¬ (IsSomeAnd (before_at segments k) P × Q (valuation_at segments k))
        calm_at k late early both =
            elim (cases_lt k other) [
              | inl one ↦
                  elim (cases_eq k at) [
                    | inl start ↦
                        calm (omega (arith, late, early, within))
                        (subst (λ place. IsSomeAnd (before_at segments place) P) start both.0)
                    | inr more ↦
                        let some : 0 < k = omega (arith, late, more) in
                        apart (valuation_at segments (k - 1)) ((before_is P k some).0 both.0)
                        (before (k - 1) (omega (arith, late, more)) (omega (arith, one)))
                  ]
              | inr two ↦ apart (valuation_at segments k) (behind k two early) both.1
            ]

        edge : turn < length segments → IsTrue found
            ↔ (IsSomeAnd (before_at segments turn) P × Q (valuation_at segments turn))
        edge early =
            let turned = turns early in
            let some : 0 < turn = omega (arith, turned.0) in (
              λ h. (
                (before_is P turn some).1
                    (behind (turn - 1) (omega (arith, turned.0)) (omega (arith, turned.0))),
                turned.1,
              ),
              λ h. is.1 early,
            )

  -- just behind the turn nothing is the other truth
  pub calm_behind : (turn : ℕ) → ((v : ℕ) → P v → Q v → ⊥) → Q (valuation_at segments turn)
      → IsSomeAnd (before_at segments (turn + 1)) P → ⊥
  calm_behind turn apart is other = search rules
