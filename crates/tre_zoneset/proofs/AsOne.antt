-- Zones at the end of a list that become one.
use Rattle.std.proofs.Common.{◌≡◌, List, [], ◌∷◌, ◌++◌, inl, inr, ⊎_elim, subst, sym}
use Rattle.tre_pairs.specs.Pairs.{Either}
use Rattle.tre_zone.specs.Zone.{ZoneHolds, IsZoneOf}
use Rattle.tre_zone.specs.ZoneList.{SetHolds, HoldExactly}
use Rattle.tre_zone.specs.declared.zone_bounds.ZoneBounds.{ZoneBounds}
use Rattle.tre_zone.proofs.ZoneListLemmas.{SetHolds-empty, SetHolds-append, SetHolds-push}

-- Two zones were added as one.
pub HoldExactly-as_one : (old : List ZoneBounds) (last zone whole : ZoneBounds)
    → IsZoneOf whole (Either (ZoneHolds last) (ZoneHolds zone))
    → HoldExactly (old ++ whole ∷ [])
    (Either (SetHolds old) (Either (ZoneHolds last) (ZoneHolds zone)))
HoldExactly-as_one old last zone whole union = record {
  exact = λ a b n some le.
      let push = SetHolds-push old whole a b n in
      let both = union.exact a b n some le in (
        (λ h. ⊎_elim (λ x. inl x) (λ x. inr (both.0 x)) (push.0 h)),
        (λ h. push.1 (⊎_elim (λ x. inl x) (λ x. inr (both.1 x)) h)),
      );
}

-- Two zones were added one after the other.
pub HoldExactly-two : (old : List ZoneBounds) (last zone : ZoneBounds)
    → HoldExactly ((old ++ last ∷ []) ++ zone ∷ [])
    (Either (SetHolds old) (Either (ZoneHolds last) (ZoneHolds zone)))
HoldExactly-two old last zone = record {
  exact = λ a b n some le.
      let first = SetHolds-push old last a b n in
      let second = SetHolds-push (old ++ last ∷ []) zone a b n in (
        (λ h. ⊎_elim (λ x. ⊎_elim (λ y. inl y) (λ y. inr (inl y)) (first.0 x)) (λ x. inr (inr x))
            (second.0 h)),
        (λ h. ⊎_elim (λ x. second.1 (inl (first.1 (inl x))))
            (λ x. ⊎_elim (λ y. second.1 (inl (first.1 (inr y)))) (λ y. second.1 (inr y)) x) h),
      );
}

-- The last zone of a list was taken from it, and came back with one more.
pub HoldExactly-again : (old front new : List ZoneBounds) (last zone : ZoneBounds)
    → old ≡ front ++ last ∷ []
    → HoldExactly new (Either (SetHolds front) (Either (ZoneHolds last) (ZoneHolds zone)))
    → HoldExactly new (Either (SetHolds old) (ZoneHolds zone))
HoldExactly-again old front new last zone is held = record {
  exact = λ a b n some le.
      let parts = SetHolds-push front last a b n in
      let both = held.exact a b n some le in (
        (λ h. ⊎_elim
            (λ x. inl (subst (λ list. SetHolds list a b n) (sym is) (parts.1 (inl x))))
            (λ x. ⊎_elim
            (λ y. inl (subst (λ list. SetHolds list a b n) (sym is) (parts.1 (inr y))))
            (λ y. inr y) x) (both.0 h)),
        (λ h. both.1 (⊎_elim
            (λ x. ⊎_elim (λ y. inl y) (λ y. inr (inl y))
            (parts.0 (subst (λ list. SetHolds list a b n) is x)))
            (λ x. inr (inr x)) h)),
      );
}

-- A zone was added to a list from which none could be taken.
pub HoldExactly-first : (old front : List ZoneBounds) (zone : ZoneBounds) → old ≡ front ++ []
    → HoldExactly (front ++ zone ∷ []) (Either (SetHolds old) (ZoneHolds zone))
HoldExactly-first old front zone is = record {
  exact = λ a b n some le.
      let push = SetHolds-push front zone a b n in
      let parts = SetHolds-append front [] a b n in (
        (λ h. ⊎_elim
            (λ x. inl (subst (λ list. SetHolds list a b n) (sym is) (parts.1 (inl x))))
            (λ x. inr x) (push.0 h)),
        (λ h. push.1 (⊎_elim
            (λ x. inl (⊎_elim (λ y. y) (λ y. absurd (SetHolds-empty a b n y))
            (parts.0 (subst (λ list. SetHolds list a b n) is x))))
            (λ x. inr x) h)),
      );
}
