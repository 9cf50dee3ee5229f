-- A set that grows by what it is to unite.
use Rattle.std.proofs.Common.{◌≡◌, ℕ, ◌+◌, ◌<◌, ◌≤◌, ◌⊎◌, ◌↔◌, List, [], ◌∷◌, ◌++◌, length, get_or, take, Any, Option, Some, None, Result, Ok, Err, OnErr, inl, inr, ⊎_elim, arith, rules}
use Rattle.std.proofs.lemmas.List.{take_all}
use Rattle.tre_pairs.specs.Pairs.{Pairs, Either, Both, Lasting}
use Rattle.tre_zone.specs.Zone.{ZoneHolds, Includes, GivesZone}
use Rattle.tre_zone.specs.ZoneList.{SetHolds, HoldExactly}
use Rattle.tre_zone.specs.declared.zone_bounds.ZoneBounds.{ZoneBounds}
use Rattle.tre_zone.proofs.ZoneListLemmas.{SetHolds-append, SetHolds-push, HoldExactly-empty}
use Rattle.tre_zoneset.specs.ZoneSet.{Without, FoundHolds}
use Rattle.tre_zoneset.proofs.Members.{Any-cases, SetHolds-more}
use Rattle.tre_zoneset.proofs.Kept.{SetHolds-kept, SetHolds-dropped}

pub SetHolds-included : (zones : List ZoneBounds) (zone : ZoneBounds)
    → Any (λ member. Includes member zone) zones → (a b n : ℕ) → 0 < n → a ≤ b
    → ZoneHolds zone a b n → SetHolds zones a b n
unfolding SetHolds
SetHolds-included [] zone any a b n some le h = absurd (omega (arith, any.2))
SetHolds-included (other ∷ zones) zone any a b n some le h =
    ⊎_elim (λ x. inl (x.every a b n some le h))
    (λ x. inr (SetHolds-included zones zone x a b n some le h))
    (Any-cases (λ member. Includes member zone) other zones any)

pub HoldExactly-itself : (zones : List ZoneBounds) (P : Pairs)
    → ((a b n : ℕ) → 0 < n → a ≤ b → P a b n → SetHolds zones a b n)
    → HoldExactly zones (Either (SetHolds zones) P)
HoldExactly-itself zones P held = search rules

-- A zone that a member includes brings nothing.
pub HoldExactly-included : (zones : List ZoneBounds) (zone : ZoneBounds)
    → Any (λ member. Includes member zone) zones
    → HoldExactly zones (Either (SetHolds zones) (ZoneHolds zone))
HoldExactly-included zones zone any = HoldExactly-itself zones (ZoneHolds zone)
    (λ a b n some le h. SetHolds-included zones zone any a b n some le h)

-- The set held P, and then united Q: it holds R, which holds where one of them does.
pub HoldExactly-more : (now next : List ZoneBounds) (P Q R : Pairs) → HoldExactly now P
    → HoldExactly next (Either (SetHolds now) Q)
    → ((a b n : ℕ) → 0 < n → a ≤ b → R a b n ↔ (P a b n ⊎ Q a b n)) → HoldExactly next R
HoldExactly-more now next P Q R held more same = search rules

pub HoldExactly-push : (zones : List ZoneBounds) (zone : ZoneBounds)
    → HoldExactly (zones ++ zone ∷ []) (Either (SetHolds zones) (ZoneHolds zone))
HoldExactly-push zones zone = record { exact = λ a b n some le. SetHolds-push zones zone a b n }

-- A zone that was added, in place of those that it includes.
pub HoldExactly-added : (old kept : List ZoneBounds) (zone : ZoneBounds)
    → Without (Includes zone) old kept
    → HoldExactly (kept ++ zone ∷ []) (Either (SetHolds old) (ZoneHolds zone))
HoldExactly-added old kept zone without =
    search (rules, SetHolds-push, SetHolds-kept, SetHolds-dropped)

-- What was found is what was looked for.
pub FoundHolds-exact : (found : Option ZoneBounds) (P : Pairs) → GivesZone found P → (a b n : ℕ)
    → 0 < n → a ≤ b → FoundHolds found a b n ↔ P a b n
unfolding FoundHolds
FoundHolds-exact None P none a b n some le = ((λ h. absurd h), (λ h. none.never a b n some le h))
FoundHolds-exact (Some zone) P is a b n some le = is.exact a b n some le

pub HoldExactly-found : (old new : List ZoneBounds) (zone : ZoneBounds)
    → HoldExactly new (Either (SetHolds old) (ZoneHolds zone))
    → HoldExactly new (Either (SetHolds old) (FoundHolds (Some zone)))
unfolding FoundHolds
HoldExactly-found old new zone held = record { exact = λ a b n some le. held.exact a b n some le }

pub HoldExactly-not_found : (zones : List ZoneBounds)
    → HoldExactly zones (Either (SetHolds zones) (FoundHolds None))
unfolding FoundHolds
HoldExactly-not_found zones = search rules

-- ---- one zone after another of a list

-- What F makes of a union is the union of what it makes of the parts.
abbrev pub IsAdditive : (Pairs → Pairs) → Type 1
IsAdditive F = (R S T : Pairs) → ((a b n : ℕ) → T a b n ↔ (R a b n ⊎ S a b n)) → (a b n : ℕ)
    → F T a b n ↔ (F R a b n ⊎ F S a b n)

pub itself-additive : IsAdditive (λ R. R)
itself-additive R S T same a b n = same a b n

pub Lasting-additive : (D : ℕ → ℕ → Type 0) → IsAdditive (Lasting D)
Lasting-additive D R S T same a b n = search rules

pub Both-additive_left : (E : Pairs) → IsAdditive (λ R. Both R E)
Both-additive_left E R S T same a b n = search rules

pub Both-additive_right : (E : Pairs) → IsAdditive (Both E)
Both-additive_right E R S T same a b n = search rules

-- The set held what F makes of the first zones. It united what F makes of the next, and holds what
-- it makes of those and the next.
pub HoldExactly-each : (F : Pairs → Pairs) → IsAdditive F
    → (now next zones : List ZoneBounds) (i : ℕ) (zone : ZoneBounds) (Q : Pairs)
    → i < length zones → zone ≡ get_or zones i zone → HoldExactly now (F (SetHolds (take i zones)))
    → HoldExactly next (Either (SetHolds now) Q)
    → ((a b n : ℕ) → 0 < n → a ≤ b → Q a b n ↔ F (ZoneHolds zone) a b n)
    → HoldExactly next (F (SetHolds (take (i + 1) zones)))
HoldExactly-each F additive now next zones i zone Q within is held more same =
    HoldExactly-more now next (F (SetHolds (take i zones))) Q
    (F (SetHolds (take (i + 1) zones))) held more
    (λ a b n some le.
    let parts = additive (SetHolds (take i zones)) (ZoneHolds zone) (SetHolds (take (i + 1) zones))
    (SetHolds-more zones i zone within is) a b n in
    let last = same a b n some le in (
      (λ h. ⊎_elim (λ x. inl x) (λ x. inr (last.1 x)) (parts.0 h)),
      (λ h. parts.1 (⊎_elim (λ x. inl x) (λ x. inr (last.0 x)) h)),
    ))

-- The same beside what a set held before.
pub HoldExactly-each_beside : (F : Pairs → Pairs) → IsAdditive F
    → (start now next zones : List ZoneBounds) (i : ℕ) (zone : ZoneBounds) (Q : Pairs)
    → i < length zones → zone ≡ get_or zones i zone
    → HoldExactly now (Either (SetHolds start) (F (SetHolds (take i zones))))
    → HoldExactly next (Either (SetHolds now) Q)
    → ((a b n : ℕ) → 0 < n → a ≤ b → Q a b n ↔ F (ZoneHolds zone) a b n)
    → HoldExactly next (Either (SetHolds start) (F (SetHolds (take (i + 1) zones))))
HoldExactly-each_beside F additive start now next zones i zone Q within is held more same =
    HoldExactly-more now next (Either (SetHolds start) (F (SetHolds (take i zones)))) Q
    (Either (SetHolds start) (F (SetHolds (take (i + 1) zones)))) held more
    (λ a b n some le.
    let parts = additive (SetHolds (take i zones)) (ZoneHolds zone) (SetHolds (take (i + 1) zones))
    (SetHolds-more zones i zone within is) a b n in
    let last = same a b n some le in (
      (λ h. ⊎_elim (λ x. inl (inl x)) (λ x.
          ⊎_elim (λ y. inl (inr y)) (λ y. inr (last.1 y)) (parts.0 x)) h),
      (λ h. ⊎_elim (λ x. ⊎_elim (λ y. inl y) (λ y. inr (parts.1 (inl y))) x)
          (λ x. inr (parts.1 (inr (last.0 x)))) h),
    ))

-- Before the first of them there is nothing.
pub HoldExactly-none_beside : (start : List ZoneBounds) (P : Pairs) → ((a b n : ℕ) → P a b n → ⊥)
    → HoldExactly start (Either (SetHolds start) P)
HoldExactly-none_beside start P never = search rules

pub HoldExactly-none : (P : Pairs) → ((a b n : ℕ) → P a b n → ⊥) → HoldExactly [] P
HoldExactly-none P never = HoldExactly-empty P (λ a b n some le h. never a b n h)

-- After the last of them the list is whole.
pub HoldExactly-all : (F : Pairs → Pairs) (set zones whole : List ZoneBounds) (i : ℕ)
    → length zones ≤ i → zones ≡ whole
    → HoldExactly set (F (SetHolds (take i zones))) → HoldExactly set (F (SetHolds whole))
HoldExactly-all F set zones whole i all same held = search (rules, take_all)

-- A set of what a list holds, and what the list was to hold.
pub HoldExactly-gathered : (set found : List ZoneBounds) (P : Pairs)
    → HoldExactly set (SetHolds found) → HoldExactly found P → HoldExactly set P
HoldExactly-gathered set found P held exact = search rules

-- A set of what two lists hold, one after the other.
pub HoldExactly-append : (set left right : List ZoneBounds)
    → HoldExactly set (SetHolds (left ++ right))
    → HoldExactly set (Either (SetHolds left) (SetHolds right))
HoldExactly-append set left right held = search (rules, SetHolds-append, held.exact)

pub OnErr-from : {T E : Type 0} (P : Type 0) (answer : Result T E) → P → OnErr answer P
OnErr-from P (Ok x) p = tt
OnErr-from P (Err e) p = p
