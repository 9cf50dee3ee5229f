-- One more instant behind zones that have ended.
use Rattle.std.proofs.Common.{ℕ, ◌+◌, ◌*◌, ◌<◌, ◌≤◌, List, [], ◌∷◌, ◌++◌, refl, inl, inr, arith}
use Rattle.tre_zone.specs.Zone.{ZoneHolds, instants_of}
use Rattle.tre_zone.specs.ZoneList.{SetHolds}
use Rattle.tre_zone.specs.declared.zone_bounds.ZoneBounds.{ZoneBounds}
use Rattle.tre_zone.proofs.Instants.{instants-holds}
use Rattle.tre_edges.specs.Ends.{EndBefore}
use Rattle.tre_edges.specs.Instants.{IsInstantAt, AreInstants}

pub AreInstants-empty : (earliest : ℕ) → AreInstants earliest []
unfolding AreInstants
AreInstants-empty earliest = tt

-- The zone of an instant holds it.
instant_holds : (earliest : ℕ) (zone : ZoneBounds) (t : ℕ) → IsInstantAt earliest zone t
    → ZoneHolds zone t t 1
instant_holds earliest zone t is =
    rw is.instant
    ((instants-holds t t t t 1 (omega arith)).1
    (record { starts = omega arith; same = refl; ends = omega arith }))

pub AreInstants-push : (earliest t : ℕ) → earliest ≤ t → (zones : List ZoneBounds)
    → AreInstants earliest zones → EndBefore t zones
    → AreInstants earliest (zones ++ instants_of t t ∷ [])
unfolding AreInstants SetHolds
AreInstants-push earliest t late [] instants ended = (t, record { late = late; instant = refl }, tt)
AreInstants-push earliest t late (zone ∷ zones) (first, is, rest) ended =
    let before : first < t * 1 =
    ended.every first first 1 (omega arith) (omega arith)
    (inl (instant_holds earliest zone first is)) in (
      first,
      is,
      AreInstants-push (first + 1) t (omega (arith, before)) zones rest
          (record { every = λ a b n some rising held. ended.every a b n some rising (inr held) }),
    )
