-- Composition of unions.
use Rattle.std.proofs.Common.{List, ◌++◌, inl, inr, ⊎_elim, rules}
use Rattle.tre_pairs.specs.Pairs.{Pairs, Either, Composed}
use Rattle.tre_zone.specs.ZoneList.{SetHolds, HoldExactly}
use Rattle.tre_zone.specs.declared.zone_bounds.ZoneBounds.{ZoneBounds}
use Rattle.tre_zone.proofs.ZoneListLemmas.{SetHolds-append}
use Rattle.tre_zoneset.proofs.Unions.{IsAdditive}

pub Composed-additive_left : (S : Pairs) → IsAdditive (λ R. Composed R S)
Composed-additive_left S P Q T same a b n = search rules

pub Composed-additive_right : (R : Pairs) → IsAdditive (Composed R)
Composed-additive_right R P Q T same a b n = search rules

-- What F makes of two lists came to a list, first that of the one and then that of the other.
pub HoldExactly-both : (F : Pairs → Pairs) → IsAdditive F
    → (start now next left right : List ZoneBounds)
    → HoldExactly now (Either (SetHolds start) (F (SetHolds right)))
    → HoldExactly next (Either (SetHolds now) (F (SetHolds left)))
    → HoldExactly next (Either (SetHolds start) (F (SetHolds (left ++ right))))
HoldExactly-both F additive start now next left right first second = record {
  exact = λ a b n some le.
      let one = first.exact a b n some le in
      let two = second.exact a b n some le in
      let parts = additive (SetHolds left) (SetHolds right) (SetHolds (left ++ right))
      (λ x y m. SetHolds-append left right x y m) a b n in (
        (λ h. ⊎_elim
            (λ x. ⊎_elim (λ y. inl y) (λ y. inr (parts.1 (inr y))) (one.0 x))
            (λ x. inr (parts.1 (inl x))) (two.0 h)),
        (λ h. two.1 (⊎_elim (λ x. inl (one.1 (inl x)))
            (λ x. ⊎_elim (λ y. inr y) (λ y. inl (one.1 (inr y))) (parts.0 x)) h)),
      );
}
