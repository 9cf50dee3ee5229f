-- Lists that are made of two others, zone by zone.
use Rattle.std.proofs.Common.{◌≡◌, ℕ, ◌+◌, ◌-◌, ◌<◌, ◌≤◌, ◌⊎◌, ◌↔◌, List, [], ◌∷◌, ◌++◌, length, length-drop, get_or, take, drop, inl, inr, ⊎_elim, subst, arith, rules}
use Rattle.std.proofs.lemmas.List.{take_all, take-append-drop}
use Rattle.tre_pairs.specs.Pairs.{Either}
use Rattle.tre_zone.specs.ZoneList.{SetHolds, HoldExactly}
use Rattle.tre_zone.specs.declared.zone_bounds.ZoneBounds.{ZoneBounds}
use Rattle.tre_zone.proofs.ZoneListLemmas.{SetHolds-append}
use Rattle.tre_zoneset.proofs.Members.{SetHolds-more}
use Rattle.tre_zoneset.proofs.Unions.{HoldExactly-more, HoldExactly-push}

-- The zones are those of the first list up to one place, and of the second up to another.
abbrev pub AreMerged : List ZoneBounds → List ZoneBounds → ℕ → List ZoneBounds → ℕ → Type 0
AreMerged zones one i other j =
    HoldExactly zones (Either (SetHolds (take i one)) (SetHolds (take j other)))

pub AreMerged-none : (one other : List ZoneBounds) → AreMerged [] one 0 other 0
AreMerged-none one other = search rules

-- The next zone of the first list comes next.
pub AreMerged-first : (zones one : List ZoneBounds) (i : ℕ) (other : List ZoneBounds) (j : ℕ)
    (zone : ZoneBounds) → i < length one → zone ≡ get_or one i zone
    → AreMerged zones one i other j → AreMerged (zones ++ zone ∷ []) one (i + 1) other j
AreMerged-first zones one i other j zone within is held =
    HoldExactly-more zones (zones ++ zone ∷ []) _ _ _ held (HoldExactly-push zones zone)
    (λ a b n some le.
    let more = SetHolds-more one i zone within is a b n in (
      (λ h. ⊎_elim (λ x. ⊎_elim (λ y. inl (inl y)) (λ y. inr y) (more.0 x))
          (λ x. inl (inr x)) h),
      (λ h. ⊎_elim (λ x. ⊎_elim (λ y. inl (more.1 (inl y))) (λ y. inr y) x)
          (λ x. inl (more.1 (inr x))) h),
    ))

-- The next zone of the second list comes next, beside what is there of the first.
pub AreMerged-second : (zones start other : List ZoneBounds) (j : ℕ) (zone : ZoneBounds)
    → j < length other → zone ≡ get_or other j zone
    → HoldExactly zones (Either (SetHolds start) (SetHolds (take j other)))
    → HoldExactly (zones ++ zone ∷ []) (Either (SetHolds start) (SetHolds (take (j + 1) other)))
AreMerged-second zones start other j zone within is held =
    HoldExactly-more zones (zones ++ zone ∷ []) _ _ _ held (HoldExactly-push zones zone)
    (λ a b n some le.
    let more = SetHolds-more other j zone within is a b n in (
      (λ h. ⊎_elim (λ x. inl (inl x))
          (λ x. ⊎_elim (λ y. inl (inr y)) (λ y. inr y) (more.0 x)) h),
      (λ h. ⊎_elim (λ x. ⊎_elim (λ y. inl y) (λ y. inr (more.1 (inl y))) x)
          (λ x. inr (more.1 (inr x))) h),
    ))

-- The rest of the second list comes last.
pub AreMerged-rest : (zones one : List ZoneBounds) (i : ℕ) (other : List ZoneBounds) (j : ℕ)
    → length one ≤ i → AreMerged zones one i other j
    → HoldExactly (zones ++ take (length other - j) (drop j other))
    (Either (SetHolds one) (SetHolds other))
AreMerged-rest zones one i other j all held =
    let long = length-drop j other in
    rw (take_all (length other - j) (drop j other) (omega (arith, long)))
    (HoldExactly-more zones (zones ++ drop j other) _ (SetHolds (drop j other)) _
    (rw (take_all i one all) at held)
    (record { exact = λ a b n some le. SetHolds-append zones (drop j other) a b n })
    (λ a b n some le.
    let parts = subst (λ (list : List ZoneBounds). SetHolds list a b n
    ↔ (SetHolds (take j other) a b n ⊎ SetHolds (drop j other) a b n))
    (take-append-drop j other) (SetHolds-append (take j other) (drop j other) a b n) in (
      (λ h. ⊎_elim (λ x. inl (inl x))
          (λ x. ⊎_elim (λ y. inl (inr y)) (λ y. inr y) (parts.0 x)) h),
      (λ h. ⊎_elim (λ x. ⊎_elim (λ y. inl y) (λ y. inr (parts.1 (inl y))) x)
          (λ x. inr (parts.1 (inr x))) h),
    )))
