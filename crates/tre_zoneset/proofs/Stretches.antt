-- Lists of zones of which only a stretch is looked at: no other can reach a key.
use Rattle.std.proofs.Common.{◌≡◌, ℕ, zero, suc, ◌+◌, ◌-◌, ◌≤◌, ◌⊎◌, ◌↔◌, List, [], ◌∷◌, ◌++◌, map, take, drop, refl, ap, subst, inl, inr, ⊎_elim, arith, ℤ, rules}
use Rattle.std.specs.List.{slice_range}
use Rattle.tre_pairs.specs.Pairs.{Pairs, Either}
use Rattle.tre_zone.specs.Zone.{row_of}
use Rattle.tre_zone.specs.ZoneList.{SetHolds, HoldExactly}
use Rattle.tre_zone.specs.declared.zone_bounds.ZoneBounds.{ZoneBounds}
use Rattle.tre_zone.proofs.ZoneListLemmas.{SetHolds-append}
use Rattle.tre_index.specs.Turn.{IsStretch}
use Rattle.tre_index.specs.declared.turn.Stretch.{Stretch}
use Rattle.tre_zoneset.proofs.Unions.{IsAdditive, HoldExactly-more}
use Rattle.tre_zoneset.proofs.Searching.{IsKeyOf, HoldsFirst, HoldsFirst-none, HoldsFirst-rest, HoldsFirst-passed}

take_add : {X : Type 0} (list : List X) (from count to : ℕ) → to ≡ from + count
    → take from list ++ take count (drop from list) ≡ take to list
take_add list zero count to is = search rules
take_add [] (suc from) count zero is = absurd (omega arith)
take_add [] (suc from) zero (suc to) is = refl
take_add [] (suc from) (suc count) (suc to) is = refl
take_add (x ∷ list) (suc from) count zero is = absurd (omega arith)
take_add (x ∷ list) (suc from) count (suc to) is =
    ap (λ (rest : List _). x ∷ rest) (take_add list from count to (omega arith))

pub take_to : {X : Type 0} (list : List X) (from to : ℕ) → from ≤ to
    → take from list ++ slice_range list from to ≡ take to list
take_to list from to le = take_add list from (to - from) to (omega arith)

module _ (F : Pairs → Pairs) (additive : IsAdditive F) (start zones next : List ZoneBounds)
    (key : List ℤ) (is_key : IsKeyOf F zones key) where
  -- The zones of a stretch come to those before them.
  over : (from to : ℕ) → from ≤ to → HoldsFirst F start zones from start
      → HoldExactly next (Either (SetHolds start) (F (SetHolds (slice_range zones from to))))
      → HoldsFirst F start zones to next
  over from to rises first more = record {
    held =
        HoldExactly-more start next (Either (SetHolds start) (F (SetHolds (take from zones))))
        (F (SetHolds (slice_range zones from to)))
        (Either (SetHolds start) (F (SetHolds (take to zones)))) first.held more
        (λ a b n some le.
        let parts = additive (SetHolds (take from zones)) (SetHolds (slice_range zones from to))
        (SetHolds (take to zones))
        (λ x y m. subst (λ (list : List ZoneBounds). SetHolds list x y m
        ↔ (SetHolds (take from zones) x y m ⊎ SetHolds (slice_range zones from to) x y m))
        (take_to zones from to rises)
        (SetHolds-append (take from zones) (slice_range zones from to) x y m)) a b n in (
          (λ h. ⊎_elim (λ x. inl (inl x))
              (λ x. ⊎_elim (λ y. inl (inr y)) (λ y. inr y) (parts.0 x)) h),
          (λ h. ⊎_elim (λ x. ⊎_elim (λ y. inl y) (λ y. inr (parts.1 (inl y))) x)
              (λ x. inr (parts.1 (inr x))) h),
        ));
  }

  -- What the stretch gives is what all give.
  pub HoldExactly-stretch : (d : ZoneBounds) (stretch : Stretch)
      → IsStretch (map row_of zones) key stretch → ((a b n : ℕ) → F (SetHolds []) a b n → ⊥)
      → HoldExactly next
      (Either (SetHolds start) (F (SetHolds (slice_range zones stretch.from stretch.to))))
      → HoldExactly next (Either (SetHolds start) (F (SetHolds zones)))
  HoldExactly-stretch d stretch is never more =
      HoldsFirst-rest F additive start zones next key is_key d stretch.to is.behind
      (over stretch.from stretch.to is.rising
      (HoldsFirst-passed F additive start zones start key is_key d stretch.from is.before
      (HoldsFirst-none F start zones never)) more)
