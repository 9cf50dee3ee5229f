-- Zones that are kept where no kept one includes them, first from one end and then from the other.
use Rattle.std.proofs.Common.{◌≡◌, ℕ, zero, suc, ◌+◌, ◌<◌, ◌⊎◌, ◌↔◌, List, [], ◌∷◌, ◌++◌, length, get_or, take, reverse, Any, sym, subst, inl, inr, ⊎_elim, arith, rules}
use Rattle.std.specs.List.Sorted.{IsPermutation}
use Rattle.std.proofs.lemmas.List.{take_more, reverse-append}
use Rattle.std.proofs.lemmas.List.Sorted.{IsPermutation-sym, Contains-permutation}
use Rattle.tre_zone.specs.Zone.{ZoneHolds, Includes, IsCanonical}
use Rattle.tre_zone.specs.ZoneList.{SetHolds, IsApart, IsApartFrom, AreCanonical, HoldExactly}
use Rattle.tre_zone.specs.declared.zone_bounds.ZoneBounds.{ZoneBounds}
use Rattle.tre_zone.proofs.ZoneListLemmas.{SetHolds-push, AreCanonical-empty, AreCanonical-push}
use Rattle.tre_zoneset.specs.ZoneSet.{IsZoneSet, IncludesNoLater, IncludesNoEarlier, IsThinned, IsKept}
use Rattle.tre_zoneset.proofs.Members.{Any-head, Any-tail, Any-cases, SetHolds-any}
use Rattle.tre_zoneset.proofs.Unions.{SetHolds-included}

-- ---- one more at the end

module _ (P : ZoneBounds → Type 0) where
  any_none : Any P [] → ⊥
  any_none any = omega (arith, any.2)

  any_last : (zones : List ZoneBounds) (zone : ZoneBounds) → P zone → Any P (zones ++ zone ∷ [])
  any_last [] zone p = Any-head P zone [] p
  any_last (other ∷ zones) zone p = Any-tail P other (zones ++ zone ∷ []) (any_last zones zone p)

  any_front : (zones : List ZoneBounds) (zone : ZoneBounds) → Any P zones
      → Any P (zones ++ zone ∷ [])
  any_front [] zone any = absurd (any_none any)
  any_front (other ∷ zones) zone any =
      ⊎_elim (λ x. Any-head P other (zones ++ zone ∷ []) x)
      (λ x. Any-tail P other (zones ++ zone ∷ []) (any_front zones zone x))
      (Any-cases P other zones any)

  any_split : (zones : List ZoneBounds) (zone : ZoneBounds) → Any P (zones ++ zone ∷ [])
      → Any P zones ⊎ P zone
  any_split [] zone any = search rules
  any_split (other ∷ zones) zone any =
      ⊎_elim (λ x. inl (Any-head P other zones x))
      (λ x.
      ⊎_elim (λ y. inl (Any-tail P other zones y)) (λ y. inr y) (any_split zones zone x))
      (Any-cases P other (zones ++ zone ∷ []) any)

  any_back : (zones : List ZoneBounds) → Any P (reverse zones) → Any P zones
  any_back [] any = any
  any_back (zone ∷ zones) any =
      ⊎_elim (λ x. Any-tail P zone zones (any_back zones x)) (λ x. Any-head P zone zones x)
      (any_split (reverse zones) zone
      (subst (λ (list : List ZoneBounds). Any P list) (reverse-append (zone ∷ []) zones) any))

later-push : (zones : List ZoneBounds) (zone : ZoneBounds) → IncludesNoLater zones
    → (Any (λ other. Includes other zone) zones → ⊥) → IncludesNoLater (zones ++ zone ∷ [])
unfolding IncludesNoLater
later-push [] zone old none = ((λ any. any_none (λ other. Includes zone other) any), tt)
later-push (first ∷ zones) zone old none = (
  (λ any.
      ⊎_elim (λ x. old.0 x) (λ x. none (Any-head (λ other. Includes other zone) first zones x))
      (any_split (λ other. Includes first other) zones zone any)),
  later-push zones zone old.1 (λ any. none
      (Any-tail (λ other. Includes other zone) first zones any)),
)

earlier-push : (zones : List ZoneBounds) (zone : ZoneBounds) → IncludesNoEarlier zones
    → (Any (λ other. Includes zone other) zones → ⊥) → IncludesNoEarlier (zones ++ zone ∷ [])
unfolding IncludesNoEarlier
earlier-push [] zone old none = ((λ any. any_none (λ other. Includes other zone) any), tt)
earlier-push (first ∷ zones) zone old none = (
  (λ any.
      ⊎_elim (λ x. old.0 x) (λ x. none (Any-head (λ other. Includes zone other) first zones x))
      (any_split (λ other. Includes other first) zones zone any)),
  earlier-push zones zone old.1
      (λ any. none (Any-tail (λ other. Includes zone other) first zones any)),
)

earlier-front : (zones : List ZoneBounds) (zone : ZoneBounds)
    → IncludesNoEarlier (zones ++ zone ∷ []) → IncludesNoEarlier zones
unfolding IncludesNoEarlier
earlier-front [] zone all = tt
earlier-front (first ∷ zones) zone all = (
  (λ any. all.0 (any_front (λ other. Includes other first) zones zone any)),
  earlier-front zones zone all.1,
)

earlier-last : (zones : List ZoneBounds) (zone : ZoneBounds)
    → IncludesNoEarlier (zones ++ zone ∷ []) → Any (λ other. Includes zone other) zones → ⊥
unfolding IncludesNoEarlier
earlier-last [] zone all any = any_none (λ other. Includes zone other) any
earlier-last (first ∷ zones) zone all any =
    ⊎_elim (λ x. all.0 (any_last (λ other. Includes other first) zones zone x))
    (λ x. earlier-last zones zone all.1 x)
    (Any-cases (λ other. Includes zone other) first zones any)

-- ---- the other way round

pub earlier-reverse : (zones : List ZoneBounds) → IncludesNoLater zones
    → IncludesNoEarlier (reverse zones)
unfolding IncludesNoLater IncludesNoEarlier
earlier-reverse [] all = tt
earlier-reverse (zone ∷ zones) all =
    subst IncludesNoEarlier (sym (reverse-append (zone ∷ []) zones))
    (earlier-push (reverse zones) zone (earlier-reverse zones all.1)
    (λ any. all.0 (any_back (λ other. Includes zone other) zones any)))

pub later-reverse : (zones : List ZoneBounds) → IncludesNoEarlier zones
    → IncludesNoLater (reverse zones)
unfolding IncludesNoLater IncludesNoEarlier
later-reverse [] all = tt
later-reverse (zone ∷ zones) all =
    subst IncludesNoLater (sym (reverse-append (zone ∷ []) zones))
    (later-push (reverse zones) zone (later-reverse zones all.1)
    (λ any. all.0 (any_back (λ other. Includes other zone) zones any)))

canonical-reverse : (zones : List ZoneBounds) → AreCanonical zones → AreCanonical (reverse zones)
unfolding AreCanonical
canonical-reverse [] all = tt
canonical-reverse (zone ∷ zones) all =
    subst AreCanonical (sym (reverse-append (zone ∷ []) zones))
    (AreCanonical-push (reverse zones) zone (canonical-reverse zones all.1) all.0)

-- Where none includes a later one and none an earlier one, they are apart.
apart_from : (zone : ZoneBounds) (zones : List ZoneBounds)
    → (Any (λ other. Includes zone other) zones → ⊥)
    → (Any (λ other. Includes other zone) zones → ⊥) → IsApartFrom zone zones
unfolding IsApartFrom
apart_from zone [] out back = tt
apart_from zone (other ∷ zones) out back = (
  record {
    left = λ h. out (Any-head (λ m. Includes zone m) other zones h);
    right = λ h. back (Any-head (λ m. Includes m zone) other zones h);
  },
  apart_from zone zones (λ any. out (Any-tail (λ m. Includes zone m) other zones any))
      (λ any. back (Any-tail (λ m. Includes m zone) other zones any)),
)

apart : (zones : List ZoneBounds) → IncludesNoLater zones → IncludesNoEarlier zones → IsApart zones
unfolding IncludesNoLater IncludesNoEarlier IsApart
apart [] later earlier = tt
apart (zone ∷ zones) later earlier =
    (apart_from zone zones later.0 earlier.0, apart zones later.1 earlier.1)

-- ---- the kept ones

pub IsThinned-empty : IsThinned [] []
unfolding IncludesNoLater
IsThinned-empty = search (rules, AreCanonical-empty)

kept : (zones now : List ZoneBounds) (zone : ZoneBounds) → IsThinned zones now
    → IsCanonical zone → (Any (λ member. Includes member zone) now → ⊥)
    → IsThinned (zones ++ zone ∷ []) (now ++ zone ∷ [])
kept zones now zone old c none = record {
  canonical = AreCanonical-push now zone old.canonical c;
  held = record {
    exact = λ a b n some le.
        let one = SetHolds-push now zone a b n in
        let two = SetHolds-push zones zone a b n in
        let both = old.held.exact a b n some le in (
          (λ h. two.1 (⊎_elim (λ x. inl (both.0 x)) (λ x. inr x) (one.0 h))),
          (λ h. one.1 (⊎_elim (λ x. inl (both.1 x)) (λ x. inr x) (two.0 h))),
        );
  };
  later = later-push now zone old.later none;
  earlier = λ h.
      earlier-push now zone (old.earlier (earlier-front zones zone h))
      (old.among zone (earlier-last zones zone h));
  among = λ outer never any.
      ⊎_elim
      (λ x. old.among outer (λ y. never (any_front (λ m. Includes outer m) zones zone y)) x)
      (λ x. never (any_last (λ m. Includes outer m) zones zone x))
      (any_split (λ m. Includes outer m) now zone any);
}

dropped : (zones kept : List ZoneBounds) (zone : ZoneBounds) → IsThinned zones kept
    → Any (λ member. Includes member zone) kept → IsThinned (zones ++ zone ∷ []) kept
dropped zones kept zone old any = record {
  canonical = old.canonical;
  held = record {
    exact = λ a b n some le.
        let two = SetHolds-push zones zone a b n in
        let both = old.held.exact a b n some le in (
          (λ h. two.1 (inl (both.0 h))),
          (λ h. ⊎_elim both.1 (λ x. SetHolds-included kept zone any a b n some le x) (two.0 h)),
        );
  };
  later = old.later;
  earlier = λ h. old.earlier (earlier-front zones zone h);
  among = λ outer never.
      old.among outer (λ y. never (any_front (λ m. Includes outer m) zones zone y));
}

-- One more zone of a list.
pub IsThinned-next : (zones now next : List ZoneBounds) (i : ℕ) (zone : ZoneBounds)
    → i < length zones → zone ≡ get_or zones i zone → IsThinned (take i zones) now
    → IsKept now zone next → IsThinned (take (i + 1) zones) next
IsThinned-next zones now next i zone within is old k =
    rw (take_more zones i zone within, ← is)
    (⊎_elim
    (λ x.
    subst (λ (list : List ZoneBounds). IsThinned (take i zones ++ zone ∷ []) list) (sym x.1)
    (dropped (take i zones) now zone old x.0))
    (λ x.
    subst (λ (list : List ZoneBounds). IsThinned (take i zones ++ zone ∷ []) list) (sym x.1.1)
    (kept (take i zones) now zone old x.1.0 x.0))
    k.how)

-- ---- lists in another order

held_at : (zones : List ZoneBounds) (k : ℕ) (d : ZoneBounds) (a b n : ℕ) → k < length zones
    → ZoneHolds (get_or zones k d) a b n → SetHolds zones a b n
unfolding SetHolds
held_at [] k d a b n below held = absurd (omega (arith, below))
held_at (zone ∷ zones) zero d a b n below held = inl held
held_at (zone ∷ zones) (suc k) d a b n below held =
    inr (held_at zones k d a b n (omega (arith, below)) held)

moved : (zones others : List ZoneBounds) (a b n : ℕ) → IsPermutation zones others
    → SetHolds zones a b n → SetHolds others a b n
moved zones others a b n order held =
    let any = (SetHolds-any zones a b n).0 held in
    let place = Contains-permutation zones others any.1 order (any.0, any.2, any.3) in
    held_at others place.0 any.1 a b n place.1
    (subst (λ zone. ZoneHolds zone a b n) (sym place.2) any.4)

pub SetHolds-permutation : (zones others : List ZoneBounds) (a b n : ℕ) → IsPermutation zones others
    → SetHolds others a b n ↔ SetHolds zones a b n
SetHolds-permutation zones others a b n order = search (rules, moved, IsPermutation-sym)

pub HoldExactly-moved : (zones others : List ZoneBounds) → IsPermutation zones others
    → HoldExactly others (SetHolds zones)
HoldExactly-moved zones others order = record
    { exact = λ a b n some le. SetHolds-permutation zones others a b n order }

HoldExactly-trans : (one two three : List ZoneBounds) → HoldExactly one (SetHolds two)
    → HoldExactly two (SetHolds three) → HoldExactly one (SetHolds three)
HoldExactly-trans one two three left right = search rules

-- Thinned from one end, and then from the other, the zones are a set.
pub IsZoneSet-thinned : (first second : List ZoneBounds) → IncludesNoLater first
    → IsThinned (reverse first) second → IsZoneSet (reverse second)
IsZoneSet-thinned first second later thinned =
    search (rules, apart, later-reverse, earlier-reverse, canonical-reverse, thinned.earlier)

pub HoldExactly-thinned : (zones sorted first turned second last : List ZoneBounds)
    → HoldExactly sorted (SetHolds zones) → IsThinned sorted first → IsPermutation first turned
    → IsThinned turned second → IsPermutation second last → HoldExactly last (SetHolds zones)
HoldExactly-thinned zones sorted first turned second last p one q two r =
    HoldExactly-trans _ _ _ (HoldExactly-moved _ _ r) (HoldExactly-trans _ _ _ two.held
    (HoldExactly-trans _ _ _ (HoldExactly-moved _ _ q) (HoldExactly-trans _ _ _ one.held p)))
