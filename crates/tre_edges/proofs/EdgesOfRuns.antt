-- Where the edges of a trace are, and so what edges a run has.
use Rattle.std.proofs.Common.{◌≡◌, ℕ, zero, suc, take, length, ◌+◌, ◌-◌, ◌*◌, ◌<◌, ◌≤◌, ◌↔◌, inl, inr, ⊎_elim, Option, None, Some, IsSomeAnd, List, [], ◌∷◌, ◌∙◌, refl, sym, subst, ap, arith, le_of_mul-le-mul_right, rules}
use Rattle.std.proofs.Math.Nat.{lt_of_mul-lt-mul_right}
use Rattle.std.proofs.lemmas.Bool.{cases_lt}
use Rattle.tre_trace.specs.declared.segment.Segment.{Segment}
use Rattle.tre_trace.specs.Planes.{valuation_at}
use Rattle.tre_trace.specs.Trace.{end_of, IsTrace}
use Rattle.tre_syntax.specs.Rest.{HasEdge, InstantMatches}
use Rattle.tre_zone.specs.Zone.{IsInSpan}
use Rattle.tre_edges.proofs.Places.{time_of, time_of-mono, later}

-- What held before the place.
abbrev pub said_before : Option ℕ → List Segment → ℕ → Option ℕ
said_before before segments zero = before
said_before before segments (suc place) = Some (valuation_at segments place)

said_next : (before : Option ℕ) (segment : Segment) (rest : List Segment) (place : ℕ)
    → said_before (Some segment.val) rest place ≡ said_before before (segment ∷ rest) (suc place)
said_next before segment rest zero = refl
said_next before segment rest (suc place) = refl

-- The edge at the time t is that at a place.
pub record EdgeAt (P Q : ℕ → Type 0) (start : ℕ) (before : Option ℕ) (segments : List Segment)
    (t : ℕ) : Type 0 where
  pub place : ℕ
  pub within : place < length segments
  pub time : t ≡ end_of start (take place segments)
  pub was : IsSomeAnd (said_before before segments place) P
  pub is : Q (valuation_at segments place)

module _ (P Q : ℕ → Type 0) where
  pub edge_place : (start : ℕ) (before : Option ℕ) (segments : List Segment) (t : ℕ)
      → HasEdge P Q start before segments t → EdgeAt P Q start before segments t
  edge_place start before [] t h = absurd h
  edge_place start before (segment ∷ rest) t h =
      ⊎_elim
      (λ here. record {
        place = 0;
        within = omega arith;
        time = here.0;
        was = here.1;
        is = here.2;
      })
      (λ after.
      let found = edge_place (start + segment.len) (Some segment.val) rest t after in
      record {
        place = suc found.place;
        within = omega (arith, found.within);
        time = found.time;
        was = subst (λ (said : Option ℕ). IsSomeAnd said P)
            (said_next before segment rest found.place) found.was;
        is = found.is;
      })
      h

  pub place_edge : (start : ℕ) (before : Option ℕ) (segments : List Segment) (place : ℕ)
      → place < length segments → IsSomeAnd (said_before before segments place) P
      → Q (valuation_at segments place)
      → HasEdge P Q start before segments (end_of start (take place segments))
  place_edge start before [] place within was is = absurd (omega (arith, within))
  place_edge start before (segment ∷ rest) zero within was is = inl (refl, was, is)
  place_edge start before (segment ∷ rest) (suc place) within was is =
      inr (place_edge (start + segment.len) (Some segment.val) rest place (omega (arith, within))
      (subst (λ (said : Option ℕ). IsSomeAnd said P) (sym (said_next before segment rest place))
      was) is)

  -- Within a trace there is a place before it.
  pub was_before : (segments : List Segment) (place : ℕ)
      → IsSomeAnd (said_before None segments place) P
      ↔ ((0 < place) × P (valuation_at segments (place - 1)))
  was_before segments zero = ((λ h. absurd h), (λ h. absurd (omega (arith, h.0))))
  was_before segments (suc place) = search rules

pub time_of-less : (segments : List Segment) → IsTrace segments → (from to : ℕ) → from < to
    → from < length segments → time_of segments from < time_of segments to
time_of-less segments trace from to order within = search (rules, later, within, time_of-mono)

-- A run of P, from the place `begin` to `end`, with the other one on either side.
module _ (P : ℕ → Type 0) (segments : List Segment) (trace : IsTrace segments) (begin end : ℕ)
    (order : begin ≤ end) (within : end ≤ length segments)
    (inside : (k : ℕ) → begin ≤ k → k < end → P (valuation_at segments k))
    (a b n : ℕ) (some : 0 < n)
    (span : IsInSpan (time_of segments begin) (time_of segments end) a b n) where
  abbrev Not : ℕ → Type 0
  Not v = ¬ P v

  not_empty : begin < end
  not_empty = search rules

  -- The only rise within it is at its begin.
  pub rise_of_run : (0 < begin → Not (valuation_at segments (begin - 1)))
      → InstantMatches (HasEdge Not P 0 None segments) a a n
      ↔ ((0 < begin) × (a ≡ time_of segments begin * n))
  rise_of_run before = (
    λ h.
        let at = edge_place Not P 0 None segments h.time h.there in
        let was = (was_before Not P segments at.place).0 at.was in
        let place : at.place ≡ begin = only at.place at.within was.0 was.1
        (omega (arith, le_of_mul-le-mul_right (early h.time h.begin) some, at.time))
        (omega (arith, lt_of_mul-lt-mul_right n (late h.time h.begin), at.time)) in (
          omega (arith, place, was.0),
          h.begin ∙ ap (λ (t : ℕ). t * n)
              (at.time ∙ ap (λ (k : ℕ). time_of segments k) place),
        ),
    λ h. record {
      time = time_of segments begin;
      begin = h.1;
      end = h.1;
      there = place_edge Not P 0 None segments begin (omega (arith, not_empty, within))
          ((was_before Not P segments begin).1 (h.0, before h.0))
          (inside begin (omega arith) not_empty);
    },
  ) where
    early : (t : ℕ) → a ≡ t * n → time_of segments begin * n ≤ t * n
    early t is = omega (arith, is, span.starts)

    late : (t : ℕ) → a ≡ t * n → t * n < time_of segments end * n
    late t is = omega (arith, is, span.lasts, span.ends)

    only : (k : ℕ) → k < length segments → 0 < k → Not (valuation_at segments (k - 1))
        → time_of segments begin ≤ time_of segments k → time_of segments k < time_of segments end
        → k ≡ begin
    only k inner positive fails from to =
        elim (cases_lt k begin) [
          | inl less ↦
              absurd (omega (arith, from, time_of-less segments trace k begin less inner))
          | inr more ↦
              elim (cases_lt begin k) [
                | inl behind ↦
                    absurd (fails (inside (k - 1) (omega (arith, behind))
                    (before_end k positive to)))
                | inr not_behind ↦ omega (arith, more, not_behind)
              ]
        ] where
          before_end : (k : ℕ) → 0 < k → time_of segments k < time_of segments end → k - 1 < end
          before_end k positive to =
              elim (cases_lt k end) [
                | inl less ↦ omega (arith, less)
                | inr past ↦ absurd (omega (arith, to, time_of-mono segments end k past))
              ]

  -- The only fall within it is at its end.
  pub fall_of_run : (end < length segments → Not (valuation_at segments end))
      → InstantMatches (HasEdge P Not 0 None segments) b b n
      ↔ ((end < length segments) × (b ≡ time_of segments end * n))
  fall_of_run behind = (
    λ h.
        let at = edge_place P Not 0 None segments h.time h.there in
        let place : at.place ≡ end = only at.place at.within at.is
        (omega (arith, lt_of_mul-lt-mul_right n (late h.time h.begin), at.time))
        (omega (arith, le_of_mul-le-mul_right (early h.time h.begin) some, at.time)) in (
          omega (arith, place, at.within),
          h.begin ∙ ap (λ (t : ℕ). t * n)
              (at.time ∙ ap (λ (k : ℕ). time_of segments k) place),
        ),
    λ h. record {
      time = time_of segments end;
      begin = h.1;
      end = h.1;
      there = place_edge P Not 0 None segments end h.0
          ((was_before P Not segments end).1 (
            omega (arith, not_empty),
            inside (end - 1) (omega (arith, not_empty)) (omega (arith, not_empty)),
          ))
          (behind h.0);
    },
  ) where
    late : (t : ℕ) → b ≡ t * n → time_of segments begin * n < t * n
    late t is = omega (arith, is, span.starts, span.lasts)

    early : (t : ℕ) → b ≡ t * n → t * n ≤ time_of segments end * n
    early t is = omega (arith, is, span.ends)

    only : (k : ℕ) → k < length segments → Not (valuation_at segments k)
        → time_of segments begin < time_of segments k → time_of segments k ≤ time_of segments end
        → k ≡ end
    only k inner fails from to =
        elim (cases_lt k end) [
          | inl less ↦ absurd (fails (inside k (behind_begin k from) less))
          | inr more ↦
              elim (cases_lt end k) [
                | inl past ↦
                    absurd (omega (
                      arith,
                      to,
                      time_of-less segments trace end k past
                          (omega (arith, past, inner)),
                    ))
                | inr not_past ↦ omega (arith, more, not_past)
              ]
        ] where
          behind_begin : (k : ℕ) → time_of segments begin < time_of segments k → begin ≤ k
          behind_begin k from =
              elim (cases_lt k begin) [
                | inl less ↦
                    absurd (omega (arith, from, time_of-mono segments k begin (omega (arith, less))))
                | inr more ↦ more
              ]
