-- A step that can't follow itself, alone: its chains are those of one step.
use Rattle.std.proofs.Common.{◌≡◌, ℕ, ◌<◌, ◌≤◌, ◌↔◌, List, [], ◌∷◌, length, get_or, Option, Some, None, ap, sym, inl, inr, ⊎_elim, arith, rules}
use Rattle.tre_pairs.specs.Pairs.{Pairs, Either, Both, Composed, Lasting}
use Rattle.tre_pairs.proofs.Laws.{Scales, DurationScales}
use Rattle.tre_pairs.proofs.Shortening.{IsDownward}
use Rattle.tre_zone.specs.Zone.{ZoneHolds, HasNoPair, GivesZone}
use Rattle.tre_zone.specs.ZoneList.{SetHolds, AreCanonical, HoldExactly}
use Rattle.tre_zone.specs.declared.zone_bounds.ZoneBounds.{ZoneBounds}
use Rattle.tre_zone.proofs.ZoneListLemmas.{SetHolds-empty, AreCanonical-empty}
use Rattle.tre_zoneset.specs.ZoneSet.{FoundHolds}
use Rattle.tre_zoneset.proofs.Unions.{HoldExactly-none, FoundHolds-exact}
use Rattle.tre_star.specs.OneWay.{LeadOn}
use Rattle.tre_star.specs.Parts.{SomeSteps}
use Rattle.tre_star.proofs.OneWay.{begun_exact}
use Rattle.tre_star.proofs.Short.{HasNoPair-short}

is_one : (steps : List ZoneBounds) (zone : ZoneBounds) → length steps ≡ 1
    → zone ≡ get_or steps 0 zone → steps ≡ zone ∷ []
is_one [] zone one is = absurd (omega (arith, one))
is_one (step ∷ []) zone one is = ap (λ (z : ZoneBounds). z ∷ []) (sym is)
is_one (step ∷ other ∷ steps) zone one is = absurd (omega (arith, one))

-- The list of the zone that was found.
list_of : Option ZoneBounds → List ZoneBounds
list_of None = []
list_of (Some zone) = zone ∷ []

list_found : (found : Option ZoneBounds) (a b n : ℕ)
    → SetHolds (list_of found) a b n ↔ FoundHolds found a b n
unfolding SetHolds FoundHolds list_of
list_found None a b n = ((λ h. h), (λ h. h))
list_found (Some zone) a b n = ((λ h. ⊎_elim (λ x. x) (λ x. absurd x) h), (λ h. inl h))

module _ (D : ℕ → ℕ → Type 0) (E : Pairs) (down : IsDownward D) (finer : DurationScales D)
    (scales : Scales E) (same : (a b n : ℕ) → E a b n → a ≤ b) where
  begun : (zone : ZoneBounds) → AreCanonical (zone ∷ []) → LeadOn (zone ∷ [])
      → (instants : ZoneBounds) → ((a b n : ℕ) → 0 < n → ZoneHolds instants a b n ↔ E a b n)
      → (next : List ZoneBounds)
      → HoldExactly next (Either (Lasting D (Composed (ZoneHolds zone) (SetHolds [])))
      (Lasting D (Composed (ZoneHolds zone) (ZoneHolds instants))))
      → HoldExactly next (Lasting D (SomeSteps (SetHolds (zone ∷ [])) E))
  begun zone canonical ways instants exact next made =
      begun_exact zone [] E scales canonical
      ((ways.each 0 (omega arith)).alone 0 zone (omega arith) (λ e. omega (arith, e)))
      (record { never = λ a b n some le h. SetHolds-empty _ _ _ h.right })
      (record { never = λ a b n some le h. SetHolds-empty _ _ _ h.left })
      D down finer same instants exact [] next AreCanonical-empty
      (HoldExactly-none _ (λ a b n h. SetHolds-empty _ _ _ h.related.left)) made

  pub single_exact : (steps : List ZoneBounds) → AreCanonical steps
      → ((length steps ≡ 1) × LeadOn steps)
      → (zone : ZoneBounds) → zone ≡ get_or steps 0 zone
      → (instants : ZoneBounds) → ((a b n : ℕ) → 0 < n → ZoneHolds instants a b n ↔ E a b n)
      → (found : Option ZoneBounds)
      → GivesZone found (Lasting D (Composed (ZoneHolds zone) (ZoneHolds instants)))
      → (a b n : ℕ) → 0 < n → a ≤ b
      → FoundHolds found a b n ↔ Lasting D (SomeSteps (SetHolds steps) E) a b n
  single_exact steps canonical single zone is instants exact found given a b n some le =
      let one = is_one steps zone single.0 is in
      let all = (begun zone (rw one at canonical) (rw one at single.1) instants exact
      (list_of found) (record {
        exact = λ c d m pos rising.
            let list = list_found found c d m in
            let is_found = FoundHolds-exact found
            (Lasting D (Composed (ZoneHolds zone) (ZoneHolds instants))) given c d m pos rising in (
              (λ h. inr (is_found.0 (list.0 h))),
              (λ h. list.1 (is_found.1 (⊎_elim
                  (λ x. absurd (SetHolds-empty _ _ _ x.related.right)) (λ x. x) h))),
            );
      })).exact a b n some le in
      let list = list_found found a b n in
      rw one ((λ h. all.0 (list.1 h)), (λ h. list.0 (all.1 h)))

-- Chains that share no pair with some share none with a list of theirs.
pub HasNoPair-part : (chains : Pairs) (P : Pairs) (part : List ZoneBounds) → HoldExactly part P
    → HasNoPair (Both chains P) → HasNoPair (Both chains (SetHolds part))
HasNoPair-part chains P part held apart = search rules

pub HasNoPair-found : (chains P : Pairs) (found : Option ZoneBounds)
    → ((a b n : ℕ) → 0 < n → a ≤ b → FoundHolds found a b n ↔ P a b n)
    → HasNoPair (Both chains P) → HasNoPair (Both chains (FoundHolds found))
HasNoPair-found chains P found same apart = search rules

pub part_added : (chains P : Pairs) (part new : List ZoneBounds) → HoldExactly part P
    → HoldExactly new (Either chains (SetHolds part)) → HoldExactly new (Either chains P)
part_added chains P part new own held = search rules

pub found_apart : (chains : List ZoneBounds) (zone : ZoneBounds)
    → HasNoPair (Both (SetHolds chains) (FoundHolds (Some zone)))
    → HasNoPair (Both (SetHolds chains) (ZoneHolds zone))
unfolding FoundHolds
found_apart chains zone apart = search rules

-- What was found, cut to the durations.
pub short_some : (D : ℕ → ℕ → Type 0) (zone : ZoneBounds) (short : Option ZoneBounds) (P : Pairs)
    → GivesZone (Some zone) P → GivesZone short (Lasting D (ZoneHolds zone))
    → GivesZone short (Lasting D P)
short_some D zone short P is given = search rules

pub short_none : (D : ℕ → ℕ → Type 0) (P : Pairs) → GivesZone None P
    → GivesZone None (Lasting D P)
short_none D P none = HasNoPair-short D P none
