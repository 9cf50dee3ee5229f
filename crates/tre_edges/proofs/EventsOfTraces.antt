-- The events of a trace, from one segment to the next.
use Rattle.std.proofs.Common.{◌≡◌, ℕ, zero, suc, drop, length, ◌+◌, ◌-◌, ◌<◌, ◌≤◌, ◌↔◌, ◌⊎◌, inr, ⊎_elim, Bool, true, false, IsTrue, None, List, refl, subst, sym, ◌∙◌, arith, rules}
use Rattle.std.proofs.Math.ListN.{drop_of_length-le}
use Rattle.std.proofs.lemmas.List.{get_or-map}
use Rattle.std.specs.Int.{bit_at}
use Rattle.tre_packed.specs.Events.{IsEventPlane}
use Rattle.tre_pairs.specs.Pairs.{Pairs}
use Rattle.tre_syntax.specs.Rest.{rest_of, EventMatches}
use Rattle.tre_trace.specs.Planes.{bit_in}
use Rattle.tre_trace.specs.Segments.{plain_segment}
use Rattle.tre_trace.specs.Trace.{timeline_of}
use Rattle.tre_trace.specs.declared.segment.Segment.{Segment}
use Rattle.tre_edges.specs.NextPlace.{IsNextPlace}
use Rattle.tre_edges.specs.Truth.{IsFoundAt}
use Rattle.tre_edges.proofs.InstantsOfRests.{EventMatches-segment, EventMatches-end}
use Rattle.tre_edges.proofs.Places.{time_of, here, time_of-next, rest_here}

-- the events at the place and later
abbrev pub EventsFrom : ℕ → ℕ → List Segment → ℕ → Pairs
EventsFrom number last segments place =
    EventMatches number (rest_of (time_of segments place) None
    (timeline_of (drop place segments) last))

module _ (number last : ℕ) (segments : List Segment) (place : ℕ) (found : Bool) where
  -- the event at one place, and the later ones
  pub event_at : (within : place < length segments)
      → IsTrue found ↔ (bit_at (here segments place within).ev number ≡ 1) → (a b n : ℕ)
      → EventsFrom number last segments place a b n
      ↔ (IsFoundAt found (time_of segments place) a b n
      ⊎ EventsFrom number last segments (place + 1) a b n)
  event_at within is a b n =
      search (rules, rest_here, time_of-next, EventMatches-segment, time_of, here)

  -- past the last segment there is the one at the end
  pub event_last : length segments ≤ place → IsTrue found ↔ (bit_at last number ≡ 1)
      → (a b n : ℕ)
      → EventsFrom number last segments place a b n ↔ IsFoundAt found (time_of segments place) a b n
  event_last past is a b n = search (rules, drop_of_length-le, EventMatches-end, time_of)

-- The plane of the event says at which places it happens.
module _ (number last : ℕ) (segments : List Segment) (words : List ℕ)
    (plane : IsEventPlane number segments words) where
  bit_here : (place : ℕ) (within : place < length segments)
      → bit_in words place ≡ bit_at (here segments place within).ev number
  bit_here place within = search (rules, get_or-map, plain_segment)

  -- the event at a place whose bit is 1
  pub event_there : (place : ℕ) → place < length segments → bit_in words place ≡ 1 → (a b n : ℕ)
      → EventsFrom number last segments place a b n
      ↔ (IsFoundAt true (time_of segments place) a b n
      ⊎ EventsFrom number last segments (place + 1) a b n)
  event_there place within one a b n =
      event_at number last segments place true within
      ((λ _. sym (bit_here place within) ∙ one), (λ _. refl)) a b n

  no_event : (place : ℕ) → place < length segments → ¬ (bit_in words place ≡ 1) → (a b n : ℕ)
      → EventsFrom number last segments place a b n
      ↔ EventsFrom number last segments (place + 1) a b n
  no_event place within none a b n =
      let law = event_at number last segments place false within (
        (λ h. let wrong : false ≡ true = h in absurd cc),
        (λ one. absurd (none (bit_here place within ∙ one))),
      ) a b n in (
        λ h. ⊎_elim (λ found. let wrong : false ≡ true = found.is in absurd cc) (λ rest. rest)
            (law.0 h),
        λ h. law.1 (inr h),
      )

  skip_events : (place count : ℕ) → place + count ≤ length segments
      → ((k : ℕ) → place ≤ k → k < place + count → ¬ (bit_in words k ≡ 1)) → (a b n : ℕ)
      → EventsFrom number last segments place a b n
      ↔ EventsFrom number last segments (place + count) a b n
  skip_events place zero within none a b n = search rules
  skip_events place (suc count) within none a b n =
      let first = no_event place (omega (arith, within))
      (none place (omega arith) (omega arith)) a b n in
      let back : place + 1 + count ≡ place + suc count = omega arith in
      let more =
      subst (λ to. EventsFrom number last segments (place + 1) a b n
      ↔ EventsFrom number last segments to a b n)
      back
      (skip_events (place + 1) count (omega (arith, within))
      (λ k late early. none k (omega (arith, late)) (omega (arith, early))) a b n) in
      ((λ h. more.0 (first.0 h)), (λ h. first.1 (more.1 h)))

  -- up to the next place whose bit is 1 nothing happens
  pub events_from : (from place : ℕ) → IsNextPlace words true from (length segments) place
      → (a b n : ℕ)
      → EventsFrom number last segments from a b n
      ↔ EventsFrom number last segments place a b n
  events_from from place next a b n =
      let to : from + (place - from) ≡ place = omega (arith, next.late) in
      rw to at (skip_events from (place - from) (omega (arith, next.late, next.within))
      (λ k late early. next.between k late (omega (arith, early, next.late))) a b n)
