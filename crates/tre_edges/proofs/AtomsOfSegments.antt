-- The atoms over one segment.
use Rattle.std.proofs.Common.{◌≡◌, ℕ, ◌+◌, ◌<◌, ◌↔◌, Bool, IsTrue, Option, Some, None, [], ◌∷◌, rules}
use Rattle.std.specs.Int.{bit_at}
use Rattle.tre_pairs.specs.Pairs.{Pairs}
use Rattle.tre_trace.specs.declared.segment.Segment.{Segment}
use Rattle.tre_trace.specs.Literal.{LiteralMatches}
use Rattle.tre_trace.specs.Trace.{quiet}
use Rattle.tre_zone.specs.Zone.{ZoneHolds, IsZoneOf, HasNoPair, GivesZone, IsInSpan, IsInstantBetween}
use Rattle.tre_zone.specs.declared.zone_bounds.ZoneBounds.{ZoneBounds}
use Rattle.tre_syntax.specs.Rest.{rest_of, EdgeMatches, EventMatches, EmptyMatches}
use Rattle.tre_edges.specs.Truth.{IsFoundAt}

-- what gives the zone of a relation gives that of another with the same pairs
pub GivesZone-agree : (answer : Option ZoneBounds) (R S : Pairs)
    → ((a b n : ℕ) → R a b n ↔ S a b n) → GivesZone answer R → GivesZone answer S
GivesZone-agree None R S same given = search rules
GivesZone-agree (Some zone) R S same given = search rules

pub no_edge : (P Q : ℕ → Type 0) (begin : ℕ) (segment : Segment)
    → HasNoPair (EdgeMatches P Q (rest_of begin None (quiet (segment ∷ []))))
no_edge P Q begin segment = search rules

-- and so is the one event
pub event_of_segment : (number begin : ℕ) (before : Option ℕ) (segment : Segment) (found : Bool)
    → IsTrue found ↔ (bit_at segment.ev number ≡ 1) → (a b n : ℕ)
    → IsFoundAt found begin a b n
    ↔ EventMatches number (rest_of begin before (quiet (segment ∷ []))) a b n
event_of_segment number begin before segment found is a b n = search rules

-- the stretches of a literal over a segment on which it holds, and none where it doesn't
pub literal_of_segment : (P : ℕ → Type 0) (begin end : ℕ) (segment : Segment) (zone : ZoneBounds)
    → P segment.val → end ≡ begin + segment.len
    → ((a b n : ℕ) → 0 < n → ZoneHolds zone a b n ↔ IsInSpan begin end a b n)
    → IsZoneOf zone (LiteralMatches P begin (segment ∷ []))
literal_of_segment P begin end segment zone holds ends held = record {
  exact = λ a b n some rising.
      let is = held a b n some in (
        λ h. let span = is.0 h in record {
          begin = span.starts;
          some_time = span.lasts;
          end = rw (← ends) span.ends;
          throughout = (λ _ _. holds, tt);
        },
        λ h. is.1 (record { starts = h.begin; lasts = h.some_time; ends = rw ends h.end }),
      );
}

-- the moments of a segment
pub moments_of_segment : (begin end : ℕ) (before : Option ℕ) (segment : Segment) (zone : ZoneBounds)
    → end ≡ begin + segment.len
    → ((a b n : ℕ) → 0 < n → ZoneHolds zone a b n ↔ IsInstantBetween begin end a b n)
    → IsZoneOf zone (EmptyMatches (rest_of begin before (quiet (segment ∷ []))))
moments_of_segment begin end before segment zone ends held = record {
  exact = λ a b n some rising.
      let is = held a b n some in (
        λ h.
            let one = is.0 h in
            record { begin = one.starts; same = one.same; end = rw (← ends) one.ends },
        λ h. is.1 (record { starts = h.begin; same = h.same; ends = rw ends h.end }),
      );
}
