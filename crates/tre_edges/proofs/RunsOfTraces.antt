-- The stretches on which a literal holds, from one run of places to the next.
use Rattle.std.proofs.Common.{◌≡◌, ℕ, zero, suc, drop, length, ◌+◌, ◌-◌, ◌<◌, ◌≤◌, ◌↔◌, ◌⊎◌, inl, inr, ⊎_elim, List, [], sym, subst, arith, rules}
use Rattle.std.proofs.Math.ListN.{drop_of_length-le}
use Rattle.std.proofs.lemmas.Bool.{cases_lt}
use Rattle.tre_pairs.specs.Pairs.{Pairs}
use Rattle.tre_trace.specs.declared.segment.Segment.{Segment}
use Rattle.tre_trace.specs.Planes.{valuation_at}
use Rattle.tre_zone.specs.Zone.{IsInSpan}
use Rattle.tre_edges.proofs.Literals.{HoldsFrom, HoldsFrom-true, HoldsFrom-false, HoldsFrom-end}
use Rattle.tre_edges.proofs.Places.{time_of, here, time_of-next, rest_here, valuation_here}

-- the stretches that begin at `begin` or later, where the state has held from there to the place
abbrev pub FromPlace : (ℕ → Type 0) → List Segment → ℕ → ℕ → Pairs
FromPlace P segments begin place =
    HoldsFrom P begin (time_of segments place) (drop place segments)

no_span : (t a b n : ℕ) → IsInSpan t t a b n → ⊥
no_span t a b n span = omega (arith, span.starts, span.lasts, span.ends)

module _ (P : ℕ → Type 0) (segments : List Segment) (a b n : ℕ) where
  -- a place on which the state holds makes the stretches longer
  one_true : (begin place : ℕ) → place < length segments → P (valuation_at segments place)
      → FromPlace P segments begin place a b n ↔ FromPlace P segments begin (place + 1) a b n
  one_true begin place within holds =
      search (rules, rest_here, time_of-next, HoldsFrom-true, time_of, here, valuation_here)

  -- one on which it doesn't ends them
  one_false : (begin place : ℕ) → place < length segments → begin ≤ time_of segments place
      → ¬ P (valuation_at segments place)
      → FromPlace P segments begin place a b n
      ↔ (IsInSpan begin (time_of segments place) a b n
      ⊎ FromPlace P segments (time_of segments (place + 1)) (place + 1) a b n)
  one_false begin place within order fails =
      rw (rest_here segments place within, time_of-next segments place within)
      (HoldsFrom-false P begin (time_of segments place) (here segments place within)
      (drop (place + 1) segments) a b n order
      (λ holds. fails (subst P (sym (valuation_here segments place within)) holds)))

  run_true : (begin place count : ℕ) → place + count ≤ length segments
      → ((k : ℕ) → place ≤ k → k < place + count → P (valuation_at segments k))
      → FromPlace P segments begin place a b n ↔ FromPlace P segments begin (place + count) a b n
  run_true begin place zero within holds = search rules
  run_true begin place (suc count) within holds =
      let first = one_true begin place (omega (arith, within))
      (holds place (omega arith) (omega arith)) in
      let back : place + 1 + count ≡ place + suc count = omega arith in
      let more =
      subst
      (λ to.
      FromPlace P segments begin (place + 1) a b n ↔ FromPlace P segments begin to a b n)
      back
      (run_true begin (place + 1) count (omega (arith, within))
      (λ k late early. holds k (omega (arith, late)) (omega (arith, early)))) in
      ((λ h. more.0 (first.0 h)), (λ h. first.1 (more.1 h)))

  skip_false : (place count : ℕ) → place + count ≤ length segments
      → ((k : ℕ) → place ≤ k → k < place + count → ¬ P (valuation_at segments k))
      → FromPlace P segments (time_of segments place) place a b n
      ↔ FromPlace P segments (time_of segments (place + count)) (place + count) a b n
  skip_false place zero within fails = search rules
  skip_false place (suc count) within fails =
      let first =
      one_false (time_of segments place) place (omega (arith, within)) (omega arith)
      (fails place (omega arith) (omega arith)) in
      let back : place + 1 + count ≡ place + suc count = omega arith in
      let more =
      subst
      (λ to.
      FromPlace P segments (time_of segments (place + 1)) (place + 1) a b n
      ↔ FromPlace P segments (time_of segments to) to a b n)
      back
      (skip_false (place + 1) count (omega (arith, within))
      (λ k late early. fails k (omega (arith, late)) (omega (arith, early)))) in (
        λ h. more.0 (⊎_elim
            (λ span. absurd (no_span (time_of segments place) a b n span)) (λ rest. rest)
            (first.0 h)),
        λ h. first.1 (inr (more.1 h)),
      )

  -- at the end there is no more
  pub no_more : (place : ℕ) → length segments ≤ place
      → FromPlace P segments (time_of segments place) place a b n → ⊥
  no_more place past h = search (rules, drop_of_length-le, no_span, time_of, HoldsFrom-end)

  -- the next run, from the place `begin` to `end`
  pub next_run : (at begin end : ℕ) → at ≤ begin → begin ≤ end → end ≤ length segments
      → time_of segments begin ≤ time_of segments end
      → ((k : ℕ) → at ≤ k → k < begin → ¬ P (valuation_at segments k))
      → ((k : ℕ) → begin ≤ k → k < end → P (valuation_at segments k))
      → (end < length segments → ¬ P (valuation_at segments end))
      → FromPlace P segments (time_of segments at) at a b n
      ↔ (IsInSpan (time_of segments begin) (time_of segments end) a b n
      ⊎ FromPlace P segments (time_of segments (end + 1)) (end + 1) a b n)
  next_run at begin end order lasts within rises outside inside stops =
      let to_begin : at + (begin - at) ≡ begin = omega (arith, order) in
      let to_end : begin + (end - begin) ≡ end = omega (arith, lasts) in
      let skip =
      rw to_begin at (skip_false at (begin - at) (omega (arith, order, lasts, within))
      (λ k late early. outside k late (omega (arith, early, order)))) in
      let run =
      rw to_end at (run_true (time_of segments begin) begin (end - begin)
      (omega (arith, lasts, within))
      (λ k late early. inside k late (omega (arith, early, lasts)))) in
      elim (cases_lt end (length segments)) [
        | inl early ↦
            let last = one_false (time_of segments begin) end early rises (stops early) in
            ((λ h. last.0 (run.0 (skip.0 h))), (λ h. skip.1 (run.1 (last.1 h))))
        | inr late ↦
            let rest : drop end segments ≡ [] = drop_of_length-le segments late in
            let last =
            HoldsFrom-end P (time_of segments begin) (time_of segments end) a b n in (
              λ h. inl (last.0 (rw rest at (run.0 (skip.0 h)))),
              λ h. ⊎_elim (λ span. skip.1 (run.1 (rw rest (last.1 span))))
                  (λ more. absurd (no_more (end + 1) (omega (arith, late)) more)) h,
            )
      ]
