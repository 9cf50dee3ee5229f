-- The set of a zone that was found.
use Rattle.std.proofs.Common.{◌≡◌, Option, Some, None, List, [], inr, ⊎_elim, subst}
use Rattle.tre_pairs.specs.Pairs.{Pairs, Either}
use Rattle.tre_zone.specs.Zone.{GivesZone}
use Rattle.tre_zone.specs.ZoneList.{SetHolds, HoldExactly}
use Rattle.tre_zone.specs.declared.zone_bounds.ZoneBounds.{ZoneBounds}
use Rattle.tre_zone.proofs.ZoneListLemmas.{SetHolds-empty}
use Rattle.tre_zoneset.specs.ZoneSet.{FoundHolds}

holds_found : (found : Option ZoneBounds) (zones : List ZoneBounds) (R : Pairs)
    → HoldExactly zones (Either (SetHolds []) (FoundHolds found)) → GivesZone found R
    → HoldExactly zones R
unfolding FoundHolds
holds_found None zones R held given = record {
  exact = λ a b n some rising.
      let one = held.exact a b n some rising in (
        λ h. ⊎_elim (λ x. absurd (SetHolds-empty a b n x)) (λ x. absurd x) (one.0 h),
        λ h. absurd (given.never a b n some rising h),
      );
}
holds_found (Some zone) zones R held given = record {
  exact = λ a b n some rising.
      let one = held.exact a b n some rising in
      let is = given.exact a b n some rising in (
        λ h. is.0 (⊎_elim (λ x. absurd (SetHolds-empty a b n x)) (λ x. x) (one.0 h)),
        λ h. one.1 (inr (is.1 h)),
      );
}

pub found_exact : (found : Option ZoneBounds) (old zones : List ZoneBounds) (R : Pairs) → old ≡ []
    → HoldExactly zones (Either (SetHolds old) (FoundHolds found)) → GivesZone found R
    → HoldExactly zones R
found_exact found old zones R none held given =
    holds_found found zones R
    (subst (λ (list : List ZoneBounds).
    HoldExactly zones (Either (SetHolds list) (FoundHolds found))) none held)
    given
