-- What is left of a set, and whether there is any of it.
use Rattle.std.proofs.Common.{◌≡◌, ◌<◌, List, [], ◌∷◌, inl, subst, refl, length, arith}
use Rattle.tre_pairs.specs.Except.{Except}
use Rattle.tre_pairs.specs.Pairs.{Pairs, Both}
use Rattle.tre_zone.specs.ZoneList.{SetHolds, HoldExactly, AreTight}
use Rattle.tre_zone.specs.declared.zone_bounds.ZoneBounds.{ZoneBounds}
use Rattle.tre_zone.proofs.ZoneListLemmas.{SetHolds-empty}
use Rattle.tre_judge.specs.Verdicts.{HasPair, Nothing}

-- What is left without what leads on of a set itself.
pub without_led : (S R : Pairs) (led left : List ZoneBounds) → HoldExactly led (Both S R)
    → HoldExactly left (Except S (SetHolds led)) → HoldExactly left (Except S R)
without_led S R led left exact held = record {
  exact = λ a b n some le.
      let one = held.exact a b n some le in
      let two = exact.exact a b n some le in (
        (λ h.
            let x = one.0 h in
            record {
              related = x.related;
              never = λ r. x.never (two.1 (record { left = x.related; right = r }));
            }),
        (λ h. one.1 (record { related = h.related; never = λ s. h.never (two.0 s).right })),
      );
}

-- A set without zones has no pair.
pub no_pair : (zones : List ZoneBounds) (R : Pairs) → HoldExactly zones R → zones ≡ []
    → ¬ HasPair R
no_pair zones R held none h =
    SetHolds-empty h.a h.b h.n
    (subst (λ (list : List ZoneBounds). SetHolds list h.a h.b h.n) none
    ((held.exact h.a h.b h.n h.positive h.rising).1 h.there))

-- A set with a zone has one.
pub some_pair : (zones : List ZoneBounds) (R : Pairs) → HoldExactly zones R → AreTight zones
    → (zones ≡ [] → ⊥) → HasPair R
unfolding AreTight SetHolds
some_pair [] R held tight some = absurd (some refl)
some_pair (zone ∷ zones) R held tight some =
    let one = tight.0.0 in
    record {
      a = one.a;
      b = one.b;
      n = one.n;
      positive = one.some;
      rising = one.rising;
      there = (held.exact one.a one.b one.n one.some one.rising).0 (inl one.held);
    }

own_set : (zones : List ZoneBounds) → HoldExactly zones (SetHolds zones)
own_set zones = record { exact = λ a b n some le. ((λ h. h), (λ h. h)) }

-- A set holds exactly itself.
pub own_pair : (zones : List ZoneBounds) → AreTight zones → (zones ≡ [] → ⊥)
    → HasPair (SetHolds zones)
own_pair zones tight some = some_pair zones (SetHolds zones) (own_set zones) tight some

pub own_none : (zones : List ZoneBounds) → zones ≡ [] → ¬ HasPair (SetHolds zones)
own_none zones none h = no_pair zones (SetHolds zones) (own_set zones) none h

-- Nothing is shown of a set without zones.
pub nothing : (zones : List ZoneBounds) → zones ≡ [] → HoldExactly zones Nothing
nothing zones none = record {
  exact = λ a b n some le. (
    (λ h. SetHolds-empty a b n
        (subst (λ (list : List ZoneBounds). SetHolds list a b n) none h)),
    (λ h. absurd h),
  );
}

-- How many zones a set has says whether it has a pair.
pub some_of : (zones : List ZoneBounds) → AreTight zones → 0 < length zones
    → HasPair (SetHolds zones)
some_of [] tight some = absurd (omega (arith, some))
some_of (zone ∷ zones) tight some = own_pair (zone ∷ zones) tight (λ h. cc)

pub none_of : (zones : List ZoneBounds) → length zones ≡ 0 → ¬ HasPair (SetHolds zones)
none_of [] none = own_none [] refl
none_of (zone ∷ zones) none = absurd (omega (arith, none))
