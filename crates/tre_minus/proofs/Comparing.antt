-- Parts that are added, compared with taken zones, and found.
use Rattle.std.proofs.Common.{◌≡◌, ℕ, suc, ◌+◌, ◌-◌, ◌*◌, ◌^◌, ◌<◌, ◌≤◌, ◌⊎◌, ◌↔◌, List, [], ◌∷◌, ◌++◌, length, get_or, map, Option, Some, None, is_some, false, sym, subst, ◌∙◌, inl, inr, ⊎_elim, arith, ℤ}
use Rattle.std.proofs.lemmas.Bool.{cases_lt}
use Rattle.std.proofs.lemmas.List.{get_or-map, get_or_default, length-map}
use Rattle.std.proofs.Math.Nat.{one-le-pow, pow-le-pow_right, pow-succ'}
use Rattle.tre_lanes.specs.Rows.{Reaches, HasNone, IsNext}
use Rattle.tre_pairs.specs.Pairs.{Pairs, Both}
use Rattle.tre_pairs.specs.Except.{Except}
use Rattle.tre_zone.specs.Zone.{ZoneHolds, GivesZone, row_of}
use Rattle.tre_zone.specs.ZoneList.{HoldExactly}
use Rattle.tre_zone.specs.declared.zone_bounds.ZoneBounds.{ZoneBounds}
use Rattle.tre_zone.proofs.ZoneListLemmas.{SetHolds-push}
use Rattle.tre_zoneset.specs.ZoneSet.{FoundHolds}
use Rattle.tre_zoneset.proofs.Searching.{IsKeyOf}
use Rattle.tre_minus.specs.declared.cut.Part.{Part}
use Rattle.tre_minus.specs.Parts.{HeldFrom, Left, Remain, Together, work_of, AreAdded, IsCompared}

-- ---- a stack of parts

pub Remain-push : (taken : List ZoneBounds) (parts : List Part) (part : Part) (a b n : ℕ)
    → Remain taken (parts ++ part ∷ []) a b n
    ↔ (Remain taken parts a b n ⊎ Left taken part a b n)
unfolding Remain
Remain-push taken [] part a b n =
    ((λ h. ⊎_elim (λ x. inr x) (λ x. absurd x) h), (λ h. ⊎_elim (λ x. absurd x) (λ x. inl x) h))
Remain-push taken (first ∷ parts) part a b n =
    let rest = Remain-push taken parts part a b n in (
      (λ h. ⊎_elim (λ x. inl (inl x))
          (λ x. ⊎_elim (λ y. inl (inr y)) (λ y. inr y) (rest.0 x)) h),
      (λ h. ⊎_elim (λ x. ⊎_elim (λ y. inl y) (λ y. inr (rest.1 (inl y))) x)
          (λ x. inr (rest.1 (inr x))) h),
    )

pub work-push : (count : ℕ) (parts : List Part) (part : Part)
    → work_of count (parts ++ part ∷ []) ≡ work_of count parts + 7 ^ (count - part.from)
unfolding work_of
work-push count [] part = omega arith
work-push count (first ∷ parts) part =
    let rest = work-push count parts part in
    omega arith

pub Remain-empty : (taken : List ZoneBounds) (a b n : ℕ) → Remain taken [] a b n → ⊥
unfolding Remain
Remain-empty taken a b n h = h

-- ---- parts that are added

pub AreAdded-nothing : (from : ℕ) (P : Pairs) (parts : List Part)
    → ((a b n : ℕ) → P a b n → ⊥) → AreAdded from 0 P parts parts
AreAdded-nothing from P parts never = record {
  remain = λ taken a b n some le. (
    (λ h. inl h),
    (λ h. ⊎_elim (λ x. x) (λ x. absurd (never a b n x.related)) h),
  );
  work = λ count. omega arith;
}

pub AreAdded-same : (from most : ℕ) (P Q : Pairs) (old new : List Part)
    → ((a b n : ℕ) → 0 < n → a ≤ b → P a b n ↔ Q a b n) → AreAdded from most P old new
    → AreAdded from most Q old new
AreAdded-same from most P Q old new same added = record {
  remain = λ taken a b n some le.
      let both = added.remain taken a b n some le in
      let one = same a b n some le in (
        (λ h. ⊎_elim (λ x. inl x)
            (λ x. inr (record { related = one.0 x.related; never = x.never })) (both.0 h)),
        (λ h. both.1 (⊎_elim (λ x. inl x)
            (λ x. inr (record { related = one.1 x.related; never = x.never })) h)),
      );
  work = added.work;
}

pub AreAdded-more : (from most : ℕ) (P Q R : Pairs) (old now next : List Part)
    → ((a b n : ℕ) → 0 < n → a ≤ b → R a b n ↔ (P a b n ⊎ Q a b n))
    → AreAdded from most P old now → AreAdded from 1 Q now next
    → AreAdded from (most + 1) R old next
AreAdded-more from most P Q R old now next parts before last = record {
  remain = λ taken a b n some le.
      let one = before.remain taken a b n some le in
      let two = last.remain taken a b n some le in
      let both = parts a b n some le in (
        (λ h. ⊎_elim
            (λ x. ⊎_elim (λ y. inl y)
            (λ y. inr (record { related = both.1 (inl y.related); never = y.never })) (one.0 x))
            (λ x. inr (record { related = both.1 (inr x.related); never = x.never }))
            (two.0 h)),
        (λ h. ⊎_elim (λ x. two.1 (inl (one.1 (inl x))))
            (λ x. ⊎_elim
            (λ y. two.1 (inl (one.1 (inr (record { related = y; never = x.never })))))
            (λ y. two.1 (inr (record { related = y; never = x.never })))
            (both.0 x.related)) h),
      );
  work = λ count.
      let one = before.work count in
      let two = last.work count in
      omega arith;
}

pub AreAdded-push : (zone : ZoneBounds) (from : ℕ) (parts : List Part) (part : Part)
    → part.zone ≡ zone → part.from ≡ from
    → AreAdded from 1 (ZoneHolds zone) parts (parts ++ part ∷ [])
AreAdded-push zone from parts part is at = record {
  remain = λ taken a b n some le. subst (λ (z : ZoneBounds).
      Remain taken (parts ++ part ∷ []) a b n
      ↔ (Remain taken parts a b n ⊎ Except (ZoneHolds z) (HeldFrom taken from) a b n)) is
      (subst (λ (k : ℕ).
      Remain taken (parts ++ part ∷ []) a b n
      ↔ (Remain taken parts a b n ⊎ Except (ZoneHolds part.zone) (HeldFrom taken k) a b n)) at
      (Remain-push taken parts part a b n));
  work = λ count.
      let more = work-push count parts part in
      rw (more, at) (omega arith);
}

pub AreAdded-found : (zone : ZoneBounds) (from : ℕ) (old new : List Part)
    → AreAdded from 1 (ZoneHolds zone) old new → AreAdded from 1 (FoundHolds (Some zone)) old new
unfolding FoundHolds
AreAdded-found zone from old new added = AreAdded-same from 1 _ _ old new
    (λ a b n some le. ((λ h. h), (λ h. h))) added

pub AreAdded-not_found : (from : ℕ) (parts : List Part)
    → AreAdded from 1 (FoundHolds None) parts parts
unfolding FoundHolds
AreAdded-not_found from parts = record {
  remain = λ taken a b n some le.
      ((λ h. inl h), (λ h. ⊎_elim (λ x. x) (λ x. absurd x.related) h));
  work = λ count. omega arith;
}

-- A zone that shares no pair with a taken one stays whole.
pub AreAdded-whole : (zone taken : ZoneBounds) (from : ℕ) (shared : Option ZoneBounds)
    (old new : List Part) → GivesZone shared (Both (ZoneHolds zone) (ZoneHolds taken))
    → is_some shared ≡ false → AreAdded from 1 (ZoneHolds zone) old new
    → AreAdded from 6 (Except (ZoneHolds zone) (ZoneHolds taken)) old new
AreAdded-whole zone taken from (Some shared) old new gives some added = absurd (cc)
AreAdded-whole zone taken from None old new none some added =
    let least : AreAdded from 1 (Except (ZoneHolds zone) (ZoneHolds taken)) old new =
    AreAdded-same from 1 _ _ old new
    (λ a b n some le. (
      (λ h. record {
        related = h;
        never = λ m. none.never a b n some le (record { left = h; right = m });
      }),
      (λ h. h.related),
    ))
    added in
    record {
      remain = least.remain;
      work = λ count. let most = least.work count in omega arith;
    }

-- ---- taken zones that are passed over

module _ (zone : ZoneBounds) (taken : List ZoneBounds) (key : List ℤ)
    (is_key : IsKeyOf (Both (ZoneHolds zone)) taken key) where
  -- A pair of the zone is in no taken zone that the search passed over.
  pub HeldFrom-past : (from to : ℕ) → HasNone (map row_of taken) key from to → (a b n : ℕ) → 0 < n
      → a ≤ b → ZoneHolds zone a b n → HeldFrom taken from a b n → HeldFrom taken to a b n
  HeldFrom-past from to none a b n some le inside h =
      ⊎_elim
      (λ before.
      absurd ((is_key.never h.place zone h.ends
      (λ reaches.
      none.none h.place h.starts before (omega (arith, h.ends, length-map taken row_of))
      (subst (λ row. Reaches row key) (sym (get_or-map row_of taken h.place zone [] h.ends))
      reaches))).never a b n some le (record { left = inside; right = h.held zone })))
      (λ behind. record {
        place = h.place;
        starts = behind;
        ends = h.ends;
        held = h.held;
      })
      (cases_lt h.place to)

  pub HeldFrom-none : (from : ℕ) → HasNone (map row_of taken) key from (length (map row_of taken))
      → (a b n : ℕ) → 0 < n → a ≤ b → ZoneHolds zone a b n → HeldFrom taken from a b n → ⊥
  HeldFrom-none from none a b n some le inside h =
      let past = HeldFrom-past from (length (map row_of taken)) none a b n some le inside h in
      let starts = past.starts in
      let ends = past.ends in
      absurd (omega (arith, length-map taken row_of))

pub HeldFrom-earlier : (taken : List ZoneBounds) (from to a b n : ℕ) → from ≤ to
    → HeldFrom taken to a b n → HeldFrom taken from a b n
HeldFrom-earlier taken from to a b n le h = record {
  place = h.place;
  starts = omega (arith, h.starts);
  ends = h.ends;
  held = h.held;
}

-- From a place on: the zone there, or one behind it.
module _ (taken : List ZoneBounds) (next : ℕ) (item : ZoneBounds) (within : next < length taken)
    (is : item ≡ get_or taken next item) (a b n : ℕ) where
  HeldFrom-here : ZoneHolds item a b n → HeldFrom taken next a b n
  HeldFrom-here h = record {
    place = next;
    starts = omega arith;
    ends = within;
    held = λ d. subst (λ z. ZoneHolds z a b n) (is ∙ get_or_default taken next item d within) h;
  }

  HeldFrom-cases : HeldFrom taken next a b n
      → ZoneHolds item a b n ⊎ HeldFrom taken (next + 1) a b n
  HeldFrom-cases h =
      ⊎_elim
      (λ behind. inr (record {
        place = h.place;
        starts = omega arith;
        ends = h.ends;
        held = h.held;
      }))
      (λ not_behind.
      let starts = h.starts in
      let same : h.place ≡ next = omega arith in
      inl (subst (λ z. ZoneHolds z a b n) (sym is)
      (subst (λ k. ZoneHolds (get_or taken k item) a b n) same (h.held item))))
      (cases_lt next h.place)

-- ---- a part that is compared

-- Six parts that are further on by a zone are less work than one.
six_less : (count from next : ℕ) → from ≤ next → next < count
    → 6 * 7 ^ (count - (next + 1)) < 7 ^ (count - from)
six_less count from next le lt =
    let k = count - (next + 1) in
    let some : 1 ≤ 7 ^ k = one-le-pow k 7 (omega arith) in
    let more : 7 ^ suc k ≤ 7 ^ (count - from) = pow-le-pow_right (omega arith) (omega arith) in
    omega (arith, pow-succ' 7 k)

module _ (taken : List ZoneBounds) (part : Part) (found : List ZoneBounds) (parts : List Part)
    (key : List ℤ) (is_key : IsKeyOf (Both (ZoneHolds part.zone)) taken key) where
  pub IsCompared-found : HasNone (map row_of taken) key part.from (length (map row_of taken))
      → IsCompared taken part found parts (found ++ part.zone ∷ []) parts
  IsCompared-found none = record {
    same = λ a b n some le.
        let more = SetHolds-push found part.zone a b n in
        let popped = Remain-push taken parts part a b n in (
          (λ h. ⊎_elim
              (λ x. ⊎_elim (λ y. inl y)
              (λ y. inr (popped.1 (inr (record {
                related = y;
                never = λ held. HeldFrom-none part.zone taken key is_key part.from none a b n some
                    le y held;
              }))))
              (more.0 x))
              (λ x. inr (popped.1 (inl x))) h),
          (λ h. ⊎_elim (λ x. inl (more.1 (inl x)))
              (λ x. ⊎_elim (λ y. inr y) (λ y. inl (more.1 (inr y.related))) (popped.0 x)) h),
        );
    less =
        let more = work-push (length taken) parts part in
        let some : 1 ≤ 7 ^ (length taken - part.from) =
        one-le-pow (length taken - part.from) 7 (omega arith) in
        omega arith;
  }

  pub IsCompared-next : (next : ℕ) (item : ZoneBounds) (left : List Part)
      → IsNext (map row_of taken) key part.from next → item ≡ get_or taken next item
      → AreAdded (next + 1) 6 (Except (ZoneHolds part.zone) (ZoneHolds item)) parts left
      → IsCompared taken part found parts found left
  IsCompared-next next item left is at added =
      let starts = is.starts in
      let within : next < length taken = omega (arith, is.ends, length-map taken row_of) in
      record {
        same = λ a b n some le.
            let popped = Remain-push taken parts part a b n in
            let more = added.remain taken a b n some le in (
              (λ h. ⊎_elim (λ x. inl x)
                  (λ x. ⊎_elim (λ y. inr (popped.1 (inl y)))
                  (λ y. inr (popped.1 (inr (record {
                    related = y.related.related;
                    never = λ held. ⊎_elim (λ z. y.related.never z) (λ z. y.never z)
                        (HeldFrom-cases taken next item within at a b n
                        (HeldFrom-past part.zone taken key is_key part.from next is.first a b n
                        some le y.related.related held));
                  }))))
                  (more.0 x)) h),
              (λ h. ⊎_elim (λ x. inl x)
                  (λ x. ⊎_elim (λ y. inr (more.1 (inl y)))
                  (λ y. inr (more.1 (inr (record {
                    related = record {
                      related = y.related;
                      never = λ z. y.never (HeldFrom-earlier taken part.from next a b n starts
                          (HeldFrom-here taken next item within at a b n z));
                    };
                    never = λ z. y.never
                        (HeldFrom-earlier taken part.from (next + 1) a b n (omega arith) z);
                  }))))
                  (popped.0 x)) h),
            );
        less =
            let pushed = work-push (length taken) parts part in
            let most = added.work (length taken) in
            let six = six_less (length taken) part.from next starts within in
            omega arith;
      }

-- ---- all parts

-- The zones found and what is left of the parts hold the same pairs together.
pub record AreSame (taken found : List ZoneBounds) (parts : List Part)
    (new_found : List ZoneBounds) (new_parts : List Part) : Type 0 where
  pub same : (a b n : ℕ) → 0 < n → a ≤ b
      → Together taken new_found new_parts a b n ↔ Together taken found parts a b n

pub AreSame-all : (taken found : List ZoneBounds) (parts : List Part) (now : List ZoneBounds)
    (left : List Part) → length left ≡ 0 → AreSame taken found parts now left
    → HoldExactly now (Together taken found parts)
AreSame-all taken found parts now (part ∷ left) none old = absurd (omega arith)
AreSame-all taken found parts now [] none old = record {
  exact = λ a b n some le.
      let one = old.same a b n some le in (
        (λ h. one.0 (inl h)),
        (λ h. ⊎_elim (λ x. x) (λ x. absurd (Remain-empty taken a b n x)) (one.1 h)),
      );
}
