-- Lists of zones of which only those are looked at whose rows reach a key.
use Rattle.std.proofs.Common.{◌≡◌, ℕ, zero, suc, ◌+◌, ◌-◌, ◌<◌, ◌≤◌, ◌↔◌, List, [], ◌∷◌, length, get_or, map, take, sym, ◌∙◌, subst, ⊎_elim, arith, ℤ, rules}
use Rattle.std.proofs.lemmas.Bool.{cases_lt}
use Rattle.std.proofs.lemmas.List.{get_or-map, get_or_default, length-map, take_all}
use Rattle.tre_lanes.specs.Rows.{Reaches, HasNone, IsNext}
use Rattle.tre_pairs.specs.Pairs.{Pairs, Either}
use Rattle.tre_zone.specs.Zone.{ZoneHolds, IsCanonical, HasNoPair, row_of}
use Rattle.tre_zone.specs.ZoneList.{SetHolds, AreCanonical, HoldExactly}
use Rattle.tre_zone.specs.declared.zone_bounds.ZoneBounds.{ZoneBounds}
use Rattle.tre_zoneset.proofs.Unions.{IsAdditive, HoldExactly-each_beside, HoldExactly-none_beside}

-- ---- zones that are passed over

-- What F makes of a zone that doesn't reach the key has no pair.
pub record IsKeyOf (F : Pairs → Pairs) (zones : List ZoneBounds) (key : List ℤ) : Type 0 where
  pub never : (k : ℕ) (d : ZoneBounds) → k < length zones
      → (Reaches (row_of (get_or zones k d)) key → ⊥) → HasNoPair (F (ZoneHolds (get_or zones k d)))

-- The set holds what F makes of the first zones, beside what it held at the start.
pub record HoldsFirst (F : Pairs → Pairs) (start zones : List ZoneBounds) (place : ℕ)
    (now : List ZoneBounds) : Type 0 where
  pub held : HoldExactly now (Either (SetHolds start) (F (SetHolds (take place zones))))

module _ (F : Pairs → Pairs) (additive : IsAdditive F) (start zones now : List ZoneBounds)
    (key : List ℤ) (is_key : IsKeyOf F zones key) where
  one_more : (place : ℕ) (d : ZoneBounds) → place < length zones
      → (Reaches (row_of (get_or zones place d)) key → ⊥) → HoldsFirst F start zones place now
      → HoldsFirst F start zones (place + 1) now
  one_more place d within not_reached old = record {
    held =
        HoldExactly-each_beside F additive start now now zones place (get_or zones place d)
        (λ a b n. ⊥) within
        (get_or_default zones place d (get_or zones place d) within) old.held
        (HoldExactly-none_beside now (λ a b n. ⊥) (λ a b n h. h))
        (λ a b n some le. (
          (λ h. absurd h),
          (λ h. (is_key.never place d within not_reached).never a b n some le h),
        ));
  }

  reached_at : (place : ℕ) (d : ZoneBounds) → place < length zones
      → Reaches (row_of (get_or zones place d)) key
      → Reaches (get_or (map row_of zones) place []) key
  reached_at place d within reaches =
      subst (λ row. Reaches row key) (sym (get_or-map row_of zones place d [] within)) reaches

  pass : (d : ZoneBounds) (from count : ℕ) → HasNone (map row_of zones) key from (from + count)
      → HoldsFirst F start zones from now → HoldsFirst F start zones (from + count) now
  pass d from zero none old = search rules
  pass d from (suc count) none old =
      let fewer : HasNone (map row_of zones) key from (from + count) =
      record { none = λ k starts ends within. none.none k starts (omega (arith, ends)) within }
      in
      let before = pass d from count fewer old in
      let next : from + count + 1 ≡ from + suc count = omega arith in
      ⊎_elim
      (λ within.
      subst (λ k. HoldsFirst F start zones k now) next
      (one_more (from + count) d within
      (λ reaches.
      none.none (from + count) (omega arith) (omega arith)
      (omega (arith, within, length-map zones row_of)) (reached_at (from + count) d within reaches))
      before))
      (λ past.
      let same : take (from + count) zones ≡ take (from + suc count) zones =
      take_all (from + count) zones past
      ∙ sym (take_all (from + suc count) zones (omega (arith, past))) in
      record {
        held =
            subst (λ (list : List ZoneBounds).
            HoldExactly now (Either (SetHolds start) (F (SetHolds list))))
            same before.held;
      })
      (cases_lt (from + count) (length zones))

  pass_to : (d : ZoneBounds) (from to : ℕ) → from ≤ to → HasNone (map row_of zones) key from to
      → HoldsFirst F start zones from now → HoldsFirst F start zones to now
  pass_to d from to le none old =
      let same : from + (to - from) ≡ to = omega arith in
      subst (λ k. HoldsFirst F start zones k now) same
      (pass d from (to - from)
      (subst (λ k. HasNone (map row_of zones) key from k) (sym same) none) old)

  -- None of the first zones was found.
  pub HoldsFirst-passed : (d : ZoneBounds) (to : ℕ) → HasNone (map row_of zones) key 0 to
      → HoldsFirst F start zones 0 now → HoldsFirst F start zones to now
  HoldsFirst-passed d to none old = pass_to d 0 to (omega arith) none old

  -- After the last that was found there is no other.
  pub HoldsFirst-end : (from : ℕ) → length zones ≤ from → HoldsFirst F start zones from now
      → HoldExactly now (Either (SetHolds start) (F (SetHolds zones)))
  HoldsFirst-end from all old =
      subst (λ (list : List ZoneBounds). HoldExactly now
      (Either (SetHolds start) (F (SetHolds list))))
      (take_all from zones all) old.held

  pub HoldsFirst-rest : (d : ZoneBounds) (from : ℕ)
      → HasNone (map row_of zones) key from (length (map row_of zones))
      → HoldsFirst F start zones from now
      → HoldExactly now (Either (SetHolds start) (F (SetHolds zones)))
  HoldsFirst-rest d from none old =
      let count = length-map zones row_of in
      ⊎_elim
      (λ some.
      HoldsFirst-end (length (map row_of zones)) (omega (arith, count))
      (pass_to d from (length (map row_of zones)) (omega (arith, some)) none old))
      (λ past. HoldsFirst-end from (omega (arith, past, count)) old)
      (cases_lt from (length (map row_of zones)))

  -- The next one that was found.
  pub HoldsFirst-next : (from place : ℕ) (zone : ZoneBounds) (next : List ZoneBounds) (Q : Pairs)
      → IsNext (map row_of zones) key from place → zone ≡ get_or zones place zone
      → HoldsFirst F start zones from now → HoldExactly next (Either (SetHolds now) Q)
      → ((a b n : ℕ) → 0 < n → a ≤ b → Q a b n ↔ F (ZoneHolds zone) a b n)
      → HoldsFirst F start zones (place + 1) next
  HoldsFirst-next from place zone next Q found is old more same = record {
    held =
        HoldExactly-each_beside F additive start now next zones place zone Q
        (omega (arith, found.ends, length-map zones row_of)) is
        (pass_to zone from place found.starts found.first old).held more same;
  }

pub HoldsFirst-none : (F : Pairs → Pairs) (start zones : List ZoneBounds)
    → ((a b n : ℕ) → F (SetHolds []) a b n → ⊥) → HoldsFirst F start zones 0 start
HoldsFirst-none F start zones never = search rules

pub canonical_at : (zones : List ZoneBounds) (k : ℕ) (d : ZoneBounds) → AreCanonical zones
    → k < length zones → IsCanonical (get_or zones k d)
unfolding AreCanonical
canonical_at [] k d all within = absurd (omega (arith, within))
canonical_at (zone ∷ zones) zero d all within = all.0
canonical_at (zone ∷ zones) (suc k) d all within =
    canonical_at zones k d all.1 (omega (arith, within))

-- A key that passes over canonical zones without a pair.
pub IsKeyOf-canonical : (F : Pairs → Pairs) (zones : List ZoneBounds) (key : List ℤ)
    → AreCanonical zones
    → ((other : ZoneBounds) → IsCanonical other → (Reaches (row_of other) key → ⊥)
    → HasNoPair (F (ZoneHolds other)))
    → IsKeyOf F zones key
IsKeyOf-canonical F zones key all never = search (rules, never, canonical_at)
