-- What two patterns differ in.
use Rattle.std.proofs.Common.{ℕ, ◌<◌, ◌≤◌, ◌⊎◌, ◌↔◌, List, [], ◌∷◌, inl, inr, ⊎_elim}
use Rattle.tre_minus.proofs.Differences.{SetHolds-decides}
use Rattle.tre_syntax.specs.Meaning.{Matches}
use Rattle.tre_trace.specs.Trace.{Timeline}
use Rattle.tre_zone.specs.ZoneList.{SetHolds, HoldExactly}
use Rattle.tre_zone.specs.declared.zone_bounds.ZoneBounds.{ZoneBounds}
use Rattle.tre_tell.specs.Sought.{Sought}
use Rattle.tre_answer.specs.Wanted.{IsWanted}

-- what is left of a pattern, and what both match, make up what it matches
pub parts_of_first : (pattern other : Sought) (trace second : Timeline)
    (left taken : List ZoneBounds)
    → HoldExactly left (IsWanted (pattern ∷ other ∷ []) (trace ∷ second ∷ []))
    → HoldExactly taken (Matches other.tree second) → (a b n : ℕ) → 0 < n → a ≤ b
    → Matches pattern.tree trace a b n
    ↔ (SetHolds left a b n
    ⊎ (Matches pattern.tree trace a b n × Matches other.tree second a b n))
parts_of_first pattern other trace second left taken exact exact' a b n some le =
    let own = exact.exact a b n some le in
    let others = exact'.exact a b n some le in (
      (λ match. ⊎_elim (λ h. inr (match, others.0 h))
          (λ none. inl (own.1 (
            match,
            λ either. ⊎_elim (λ is. none (others.1 is)) (λ never. never) either,
          )))
          (SetHolds-decides taken a b n)),
      (λ parts. ⊎_elim (λ h. (own.0 h).0) (λ both. both.0) parts),
    )
