-- What the difference of two lists of zones holds.
use Rattle.std.proofs.Common.{◌≡◌, ℕ, ◌<◌, ◌≤◌, ◌⊎◌, ◌↔◌, List, [], ◌∷◌, ◌++◌, get_or, sym, subst, ◌∙◌, inl, inr, ⊎_elim, arith, refl}
use Rattle.std.proofs.lemmas.List.{get_or_default}
use Rattle.tre_pairs.specs.Pairs.{Pairs, Either, Both}
use Rattle.tre_pairs.specs.Except.{Except}
use Rattle.tre_zone.specs.Zone.{ZoneHolds, HasNoPair}
use Rattle.tre_zone.specs.ZoneList.{SetHolds, AreCanonical, HoldExactly}
use Rattle.tre_zone.specs.declared.zone_bounds.ZoneBounds.{ZoneBounds}
use Rattle.tre_zone.proofs.Tightness.{canonical-some}
use Rattle.tre_zone.proofs.ZoneListLemmas.{SetHolds-empty}
use Rattle.tre_zoneset.proofs.Members.{SetHolds-any}
use Rattle.tre_zoneset.proofs.Unions.{IsAdditive}
use Rattle.tre_minus.specs.declared.cut.Part.{Part}
use Rattle.tre_minus.specs.Parts.{HeldFrom, Left, Remain, Together}
use Rattle.tre_minus.proofs.Comparing.{Remain-push, Remain-empty}
use Rattle.tre_minus.proofs.Cutting.{ZoneHolds-decides}

pub Except-additive : (S : Pairs) → IsAdditive (λ R. Except R S)
Except-additive S P Q T same a b n =
    let both = same a b n in (
      (λ h. ⊎_elim (λ x. inl (record { related = x; never = h.never }))
          (λ x. inr (record { related = x; never = h.never })) (both.0 h.related)),
      (λ h. ⊎_elim (λ x. record { related = both.1 (inl x.related); never = x.never })
          (λ x. record { related = both.1 (inr x.related); never = x.never }) h),
    )

-- ---- a zone before it is compared with the first taken one

pub HeldFrom-first : (taken : List ZoneBounds) (a b n : ℕ)
    → HeldFrom taken 0 a b n ↔ SetHolds taken a b n
HeldFrom-first [] a b n = (
  (λ h. let ends = h.ends in absurd (omega arith)),
  (λ h. absurd (SetHolds-empty a b n h)),
)
HeldFrom-first (zone ∷ zones) a b n =
    let taken = zone ∷ zones in
    let any = SetHolds-any taken a b n in (
      (λ h.
          let at = get_or taken h.place zone in
          any.1 (h.place, at, h.ends, get_or_default taken h.place at zone h.ends, h.held zone)),
      (λ h.
          let some = any.0 h in
          record {
            place = some.0;
            starts = omega arith;
            ends = some.2;
            held = λ d. subst (λ z. ZoneHolds z a b n)
                (sym (get_or_default taken some.0 d some.1 some.2 ∙ some.3)) some.4;
          }),
    )

-- A zone as the only part, to be compared with all: what is left of it.
pub Together-first : (taken found : List ZoneBounds) (zone : ZoneBounds) (parts : List Part)
    (part : Part) (next : List ZoneBounds) → parts ≡ [] → part.zone ≡ zone → part.from ≡ 0
    → HoldExactly next (Together taken found (parts ++ part ∷ []))
    → HoldExactly next (Either (SetHolds found) (Except (ZoneHolds zone) (SetHolds taken)))
Together-first taken found zone parts part next none is at held = record {
  exact = λ a b n some le.
      let whole = held.exact a b n some le in
      let first = HeldFrom-first taken a b n in
      let popped : Remain taken (parts ++ part ∷ []) a b n
      ↔ (Remain taken [] a b n ⊎ Except (ZoneHolds zone) (HeldFrom taken 0) a b n) =
      subst (λ (z : ZoneBounds). Remain taken (parts ++ part ∷ []) a b n
      ↔ (Remain taken [] a b n ⊎ Except (ZoneHolds z) (HeldFrom taken 0) a b n)) is
      (subst (λ (k : ℕ). Remain taken (parts ++ part ∷ []) a b n
      ↔ (Remain taken [] a b n ⊎ Except (ZoneHolds part.zone) (HeldFrom taken k) a b n)) at
      (subst (λ (list : List Part). Remain taken (parts ++ part ∷ []) a b n
      ↔ (Remain taken list a b n ⊎ Left taken part a b n)) none
      (Remain-push taken parts part a b n))) in (
        (λ h. ⊎_elim (λ x. inl x)
            (λ x. ⊎_elim (λ y. absurd (Remain-empty taken a b n y))
            (λ y. inr (record { related = y.related; never = λ m. y.never (first.1 m) }))
            (popped.0 x)) (whole.0 h)),
        (λ h. whole.1 (⊎_elim (λ x. inl x)
            (λ x. inr (popped.1 (inr (record {
              related = x.related;
              never = λ m. x.never (first.0 m);
            })))) h)),
      );
}

-- Beside a set, relations that hold of the same pairs.
pub HoldExactly-beside : (zones : List ZoneBounds) (start P Q : Pairs)
    → ((a b n : ℕ) → 0 < n → a ≤ b → P a b n ↔ Q a b n)
    → HoldExactly zones (Either start P) → HoldExactly zones (Either start Q)
HoldExactly-beside zones start P Q same held = record {
  exact = λ a b n some le.
      let one = held.exact a b n some le in
      let both = same a b n some le in (
        (λ h. ⊎_elim (λ x. inl x) (λ x. inr (both.0 x)) (one.0 h)),
        (λ h. one.1 (⊎_elim (λ x. inl x) (λ x. inr (both.1 x)) h)),
      );
}

-- ---- laws

pub SetHolds-decides : (zones : List ZoneBounds) (a b n : ℕ)
    → SetHolds zones a b n ⊎ (SetHolds zones a b n → ⊥)
unfolding SetHolds
SetHolds-decides [] a b n = inr (λ h. h)
SetHolds-decides (zone ∷ zones) a b n =
    ⊎_elim (λ h. inl (inl h))
    (λ never. ⊎_elim (λ h. inl (inr h))
    (λ never_later. inr (λ h. ⊎_elim (λ x. never x) (λ x. never_later x) h))
    (SetHolds-decides zones a b n))
    (ZoneHolds-decides zone a b n)

pub left_of_itself : (zones left : List ZoneBounds) → AreCanonical left
    → HoldExactly left (Except (SetHolds zones) (SetHolds zones)) → left ≡ []
unfolding AreCanonical SetHolds
left_of_itself zones [] canonical held = refl
left_of_itself zones (zone ∷ left) canonical held =
    let some = canonical-some zone canonical.0 in
    let none = (held.exact some.a some.b some.n some.some some.rising).0 (inl some.held) in
    absurd (none.never none.related)

pub left_apart : (zones taken left : List ZoneBounds)
    → HoldExactly left (Except (SetHolds zones) (SetHolds taken))
    → HasNoPair (Both (SetHolds left) (SetHolds taken))
left_apart zones taken left held = record {
  never = λ a b n some le h. ((held.exact a b n some le).0 h.left).never h.right;
}

pub left_and_taken : (zones taken left : List ZoneBounds)
    → HoldExactly left (Except (SetHolds zones) (SetHolds taken)) → (a b n : ℕ) → 0 < n → a ≤ b
    → Either (SetHolds left) (SetHolds taken) a b n ↔ Either (SetHolds zones) (SetHolds taken) a b n
left_and_taken zones taken left held a b n some le =
    let one = held.exact a b n some le in (
      (λ h. ⊎_elim (λ x. inl (one.0 x).related) (λ x. inr x) h),
      (λ h. ⊎_elim
          (λ x. ⊎_elim (λ y. inr y)
          (λ never. inl (one.1 (record { related = x; never = never })))
          (SetHolds-decides taken a b n))
          (λ x. inr x) h),
    )
