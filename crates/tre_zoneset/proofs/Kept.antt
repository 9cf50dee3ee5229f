-- The members that stay where a zone is added.
use Rattle.std.proofs.Common.{◌≡◌, ℕ, ◌+◌, ◌<◌, ◌≤◌, ◌⊎◌, Bool, true, false, List, [], ◌∷◌, ◌++◌, length, get_or, take, Any, refl, sym, subst, inl, inr, ⊎_elim, arith, rules}
use Rattle.std.proofs.lemmas.List.{take_more, take_all}
use Rattle.std.specs.List.{items_where_true}
use Rattle.std.specs.List.Retain.{ReturnsInTurn, IsFiltered}
use Rattle.tre_pairs.specs.Pairs.{Both}
use Rattle.tre_zone.specs.Zone.{ZoneHolds, HoldsSome, HasNoPair, Includes}
use Rattle.tre_zone.specs.ZoneList.{SetHolds, AreApart, IsApartFrom, IsApart, AreCanonical, AreTight}
use Rattle.tre_zone.specs.declared.zone_bounds.ZoneBounds.{ZoneBounds}
use Rattle.tre_zone.proofs.Tightness.{canonical-some}
use Rattle.tre_zone.proofs.ZoneListLemmas.{AreCanonical-tight}
use Rattle.tre_zoneset.specs.ZoneSet.{IsZoneSet, Without, Stays}
use Rattle.tre_zoneset.proofs.Members.{Any-head, Any-tail}

-- What a test that changes nothing leaves of a list.
module _ {F : Type 0} (R : F → ZoneBounds → Bool → F → Type 0) (outer : ZoneBounds) (f : F)
    (says : (zone : ZoneBounds) (stays : Bool) (f' : F) → R f zone stays f'
    → Stays stays outer zone × (f' ≡ f)) where
  in_turn : (zones : List ZoneBounds) (answers : List Bool) (last : F)
      → length answers ≡ length zones → ReturnsInTurn R f answers zones last
      → Without (Includes outer) zones (items_where_true answers zones)
  unfolding Without
  in_turn [] [] last same turns = refl
  in_turn [] (stays ∷ answers) last same turns = absurd (omega arith)
  in_turn (zone ∷ zones) [] last same turns = absurd (omega arith)
  in_turn (zone ∷ zones) (true ∷ answers) last same turns =
      let one = says zone true turns.0 turns.1 in
      let rest = subst (λ (g : F). ReturnsInTurn R g answers zones last) one.1 turns.2 in
      inr (
        one.0.told,
        (
          items_where_true answers zones,
          refl,
          in_turn zones answers last
              (omega arith) rest,
        ),
      )
  in_turn (zone ∷ zones) (false ∷ answers) last same turns =
      let one = says zone false turns.0 turns.1 in
      let rest = subst (λ (g : F). ReturnsInTurn R g answers zones last) one.1 turns.2 in
      inl (one.0.told, in_turn zones answers last (omega arith) rest)

  pub Without-from_retain : (zones kept : List ZoneBounds) → IsFiltered R f zones kept
      → Without (Includes outer) zones kept
  Without-from_retain zones kept (answers, last, same, turns, is) =
      subst (Without (Includes outer) zones) (sym is) (in_turn zones answers last same turns)

module _ (P : ZoneBounds → Type 0) where
  -- A zone that is apart from all is apart from those that stay.
  pub IsApartFrom-fewer : (zone : ZoneBounds) (old kept : List ZoneBounds) → Without P old kept
      → IsApartFrom zone old → IsApartFrom zone kept
  unfolding Without IsApartFrom
  IsApartFrom-fewer zone [] kept is apart = subst (IsApartFrom zone) (sym is) tt
  IsApartFrom-fewer zone (other ∷ old) kept (inl gone) apart =
      IsApartFrom-fewer zone old kept gone.1 apart.1
  IsApartFrom-fewer zone (other ∷ old) kept (inr (stays, (rest, is, without))) apart =
      subst (IsApartFrom zone) (sym is) (apart.0, IsApartFrom-fewer zone old rest without apart.1)

  apart : (old kept : List ZoneBounds) → Without P old kept → IsApart old → IsApart kept
  unfolding Without IsApart
  apart [] kept is set = subst IsApart (sym is) tt
  apart (zone ∷ old) kept (inl gone) set = apart old kept gone.1 set.1
  apart (zone ∷ old) kept (inr (stays, (rest, is, without))) set =
      subst IsApart (sym is)
      (IsApartFrom-fewer zone old rest without set.0, apart old rest without set.1)

  canonical : (old kept : List ZoneBounds) → Without P old kept → AreCanonical old
      → AreCanonical kept
  unfolding Without AreCanonical
  canonical [] kept is all = subst AreCanonical (sym is) tt
  canonical (zone ∷ old) kept (inl gone) all = canonical old kept gone.1 all.1
  canonical (zone ∷ old) kept (inr (stays, (rest, is, without))) all =
      subst AreCanonical (sym is) (all.0, canonical old rest without all.1)

  pub IsZoneSet-kept : (old kept : List ZoneBounds) → Without P old kept → IsZoneSet old
      → IsZoneSet kept
  IsZoneSet-kept old kept without set = search (rules, apart, canonical)

  -- What stays holds no more than the list did.
  pub SetHolds-kept : (old kept : List ZoneBounds) → Without P old kept → (a b n : ℕ)
      → SetHolds kept a b n → SetHolds old a b n
  unfolding Without SetHolds
  SetHolds-kept [] kept is a b n h = subst (λ zones. SetHolds zones a b n) is h
  SetHolds-kept (zone ∷ old) kept (inl gone) a b n h = inr (SetHolds-kept old kept gone.1 a b n h)
  SetHolds-kept (zone ∷ old) kept (inr (stays, (rest, is, without))) a b n h =
      ⊎_elim (λ x. inl x) (λ x. inr (SetHolds-kept old rest without a b n x))
      (subst (λ zones. SetHolds zones a b n) is h)

-- Where no member includes the zone, it is apart from those that it doesn't include.
pub IsApartFrom-kept : (zone : ZoneBounds) (old kept : List ZoneBounds)
    → Without (Includes zone) old kept
    → (Any (λ member. Includes member zone) old → ⊥) → IsApartFrom zone kept
unfolding Without IsApartFrom
IsApartFrom-kept zone [] kept is none = subst (IsApartFrom zone) (sym is) tt
IsApartFrom-kept zone (other ∷ old) kept (inl gone) none =
    IsApartFrom-kept zone old kept gone.1
    (λ any. none (Any-tail (λ member. Includes member zone) other old any))
IsApartFrom-kept zone (other ∷ old) kept (inr (stays, (rest, is, without))) none =
    subst (IsApartFrom zone) (sym is) (
      record {
        left = stays;
        right = λ h.
            none (Any-head (λ member. Includes member zone) other old h);
      },
      IsApartFrom-kept zone old rest without
          (λ any. none (Any-tail (λ member. Includes member zone) other old any)),
    )

-- What the zone drops, it holds itself.
pub SetHolds-dropped : (zone : ZoneBounds) (old kept : List ZoneBounds)
    → Without (Includes zone) old kept → (a b n : ℕ) → 0 < n → a ≤ b
    → SetHolds old a b n → SetHolds kept a b n ⊎ ZoneHolds zone a b n
unfolding Without SetHolds
SetHolds-dropped zone [] kept is a b n some le h = absurd h
SetHolds-dropped zone (other ∷ old) kept (inl gone) a b n some le h =
    ⊎_elim (λ x. inr (gone.0.every a b n some le x))
    (λ x. SetHolds-dropped zone old kept gone.1 a b n some le x) h
SetHolds-dropped zone (other ∷ old) kept (inr (stays, (rest, is, without))) a b n some le h =
    ⊎_elim
    (λ x. inl (subst (λ zones. SetHolds zones a b n) (sym is) (inl x)))
    (λ x. ⊎_elim (λ y. inl (subst (λ zones. SetHolds zones a b n) (sym is) (inr y))) (λ y. inr y)
    (SetHolds-dropped zone old rest without a b n some le x))
    h

-- A zone that shares no pair with a list is apart from it: each of them holds some pair.
pub IsApartFrom-disjoint : (zone : ZoneBounds) (zones : List ZoneBounds)
    → ((a b n : ℕ) → 0 < n → a ≤ b → SetHolds zones a b n → ZoneHolds zone a b n → ⊥)
    → HoldsSome zone → AreCanonical zones → IsApartFrom zone zones
unfolding SetHolds AreCanonical IsApartFrom
IsApartFrom-disjoint zone [] never some all = tt
IsApartFrom-disjoint zone (other ∷ zones) never some all =
    let there = canonical-some other all.0 in (
      record {
        left = λ h. never there.a there.b there.n there.some there.rising (inl there.held)
            (h.every there.a there.b there.n there.some there.rising there.held);
        right = λ h. never some.a some.b some.n some.some some.rising
            (inl (h.every some.a some.b some.n some.some some.rising some.held)) some.held;
      },
      IsApartFrom-disjoint zone zones (λ a b n pos le x. never a b n pos le (inr x)) some all.1,
    )

-- ---- sets that share no pair

IsApartFrom-append : (zone : ZoneBounds) (left right : List ZoneBounds) → IsApartFrom zone left
    → IsApartFrom zone right → IsApartFrom zone (left ++ right)
unfolding IsApartFrom
IsApartFrom-append zone [] right first second = second
IsApartFrom-append zone (other ∷ left) right first second =
    (first.0, IsApartFrom-append zone left right first.1 second)

pub IsApartFrom-none : (zone : ZoneBounds) → IsApartFrom zone []
unfolding IsApartFrom
IsApartFrom-none zone = tt

pub IsApartFrom-more : (zone : ZoneBounds) (others : List ZoneBounds) (i : ℕ) (other : ZoneBounds)
    → i < length others → other ≡ get_or others i other → IsApartFrom zone (take i others)
    → AreApart zone other → IsApartFrom zone (take (i + 1) others)
unfolding IsApartFrom
IsApartFrom-more zone others i other within is old apart =
    rw (take_more others i other within, ← is)
    (IsApartFrom-append zone (take i others) (other ∷ []) old (apart, tt))

pub IsApartFrom-all : (zone : ZoneBounds) (others : List ZoneBounds) (i : ℕ) → length others ≤ i
    → IsApartFrom zone (take i others) → IsApartFrom zone others
IsApartFrom-all zone others i all old =
    subst (λ (list : List ZoneBounds). IsApartFrom zone list) (take_all i others all) old

pub IsApart-append : (left right : List ZoneBounds) → IsApart left → IsApart right
    → AreTight left → AreCanonical right
    → ((a b n : ℕ) → 0 < n → a ≤ b → SetHolds left a b n → SetHolds right a b n → ⊥)
    → IsApart (left ++ right)
unfolding IsApart AreTight SetHolds
IsApart-append [] right first second tight canonical none = second
IsApart-append (zone ∷ left) right first second tight canonical none = (
  IsApartFrom-append zone left right first.0
      (IsApartFrom-disjoint zone right (λ a b n some le x y. none a b n some le (inl y) x)
      tight.0.0 canonical),
  IsApart-append left right first.1 second tight.1 canonical
      (λ a b n some le x y. none a b n some le (inr x) y),
)

pub AreCanonical-append : (left right : List ZoneBounds) → AreCanonical left → AreCanonical right
    → AreCanonical (left ++ right)
unfolding AreCanonical
AreCanonical-append [] right first second = second
AreCanonical-append (zone ∷ left) right first second =
    (first.0, AreCanonical-append left right first.1 second)

pub IsZoneSet-append : (left right : List ZoneBounds) → IsZoneSet left → IsZoneSet right
    → HasNoPair (Both (SetHolds left) (SetHolds right)) → IsZoneSet (left ++ right)
IsZoneSet-append left right first second none =
    search (rules, IsApart-append, AreCanonical-tight, AreCanonical-append, first.apart, none.never)
