-- Parts of zones that are still to be compared with taken zones.
use Rattle.std.specs.Prelude.{ℕ, ◌+◌, ◌-◌, ◌*◌, ◌^◌, ◌<◌, ◌≤◌, ◌⊎◌, ◌↔◌, List, [], ◌∷◌, ◌++◌, length, slice_index_or}
use Rattle.tre_pairs.specs.Pairs.{Pairs, Either}
use Rattle.tre_pairs.specs.Except.{Except}
use Rattle.tre_zone.specs.Zone.{ZoneHolds}
use Rattle.tre_zone.specs.ZoneList.{SetHolds}
use Rattle.tre_zone.specs.declared.zone_bounds.ZoneBounds.{ZoneBounds}
use Rattle.tre_minus.specs.declared.cut.Part.{Part}

-- Some zone of the list, from the place on, holds the pair.
pub record HeldFrom (zones : List ZoneBounds) (from a b n : ℕ) : Type 0 where
  pub place : ℕ
  pub starts : from ≤ place
  pub ends : place < length zones
  pub held : (d : ZoneBounds) → ZoneHolds (slice_index_or zones place d) a b n

-- What is left of a part without the taken zones from its place on.
abbrev pub Left : List ZoneBounds → Part → Pairs
Left taken part = Except (ZoneHolds part.zone) (HeldFrom taken part.from)

-- What is left of the parts.
unfoldable pub Remain : List ZoneBounds → List Part → Pairs
Remain taken [] a b n = ⊥
Remain taken (part ∷ parts) a b n = Left taken part a b n ⊎ Remain taken parts a b n

-- The zones that were found, and what is left of the parts.
abbrev pub Together : List ZoneBounds → List ZoneBounds → List Part → Pairs
Together taken found parts = Either (SetHolds found) (Remain taken parts)

-- More than the comparisons that parts may lead to, of so many taken zones: each makes at most six
-- parts of one, and these are further on by a zone at least.
unfoldable pub work_of : ℕ → List Part → ℕ
work_of count [] = 0
work_of count (part ∷ parts) = 7 ^ (count - part.from) + work_of count parts

-- At most so many parts were added, of the pairs of P, to be compared from the place on.
pub record AreAdded (from most : ℕ) (P : Pairs) (old new : List Part) : Type 0 where
  pub remain : (taken : List ZoneBounds) (a b n : ℕ) → 0 < n → a ≤ b
      → Remain taken new a b n ↔ (Remain taken old a b n ⊎ Except P (HeldFrom taken from) a b n)
  pub work : (count : ℕ) → work_of count new ≤ work_of count old + most * 7 ^ (count - from)

-- The part was compared with one taken zone, or was found: nothing was lost, and there is less to
-- do.
pub record IsCompared (taken : List ZoneBounds) (part : Part) (found : List ZoneBounds)
    (parts : List Part) (new_found : List ZoneBounds) (new_parts : List Part) : Type 0 where
  pub same : (a b n : ℕ) → 0 < n → a ≤ b
      → Together taken new_found new_parts a b n
      ↔ Together taken found (parts ++ part ∷ []) a b n
  pub less : work_of (length taken) new_parts < work_of (length taken) (parts ++ part ∷ [])
