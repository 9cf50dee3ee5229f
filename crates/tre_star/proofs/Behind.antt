-- Bounds that take in the last zones of a list, from the last one back.
use Rattle.std.proofs.Common.{◌≡◌, ◌∙◌, ℕ, zero, suc, ◌+◌, ◌-◌, ◌*◌, ◌^◌, ◌<◌, ◌≤◌, ◌↔◌, ◌⊎◌, List, [], ◌∷◌, ◌++◌, Option, Some, None, length, take, drop, get_or, refl, ap, subst, sym, inl, inr, ⊎_elim, arith}
use Rattle.std.proofs.lemmas.Bool.{cases_lt}
use Rattle.std.proofs.lemmas.List.{drop_all, length_push, get_or_append_left, get_or_push, take-append-drop}
use Rattle.std.proofs.Math.Seq.{drop-cons}
use Rattle.std.proofs.Math.Nat.{mul-pos}
use Rattle.std.specs.List.{slice_range}
use Rattle.tre_pairs.specs.Pairs.{Pairs, Either, Both, Composed, Lasting}
use Rattle.tre_pairs.specs.declared.TheConstants.{TIME_MAX}
use Rattle.tre_zone.specs.Longest.{LastsUpTo}
use Rattle.tre_zone.specs.Zone.{ZoneHolds, Covers, AreKeysWithin, IsInFrame, GivesZone}
use Rattle.tre_zone.specs.ZoneList.{SetHolds, AreCanonical, HoldExactly}
use Rattle.tre_zone.specs.declared.zone_bounds.ZoneBounds.{ZoneBounds}
use Rattle.tre_zone.proofs.Paths.{Meets-looser}
use Rattle.tre_zone.proofs.Scaling.{canonical-frame}
use Rattle.tre_zone.proofs.ZoneListLemmas.{SetHolds-append, SetHolds-empty}
use Rattle.tre_zoneset.specs.ZoneSet.{FoundHolds}
use Rattle.tre_zoneset.proofs.Unions.{IsAdditive, FoundHolds-exact, HoldExactly-more}
use Rattle.tre_zoneset.proofs.Stretches.{take_to}
use Rattle.tre_star.specs.Tails.{TakesIn, AreTails}

-- ---- making them

covered : (outer inner : ZoneBounds) → Covers outer inner → (a b n : ℕ) → 0 < n
    → ZoneHolds inner a b n → ZoneHolds outer a b n
covered outer inner covers a b n some held = record {
  begin_low = Meets-looser _ _ 0 a n some covers.begin_low held.begin_low;
  begin_high = Meets-looser _ _ a 0 n some covers.begin_high held.begin_high;
  end_low = Meets-looser _ _ 0 b n some covers.end_low held.end_low;
  end_high = Meets-looser _ _ b 0 n some covers.end_high held.end_high;
  dur_low = Meets-looser _ _ a b n some covers.dur_low held.dur_low;
  dur_high = Meets-looser _ _ b a n some covers.dur_high held.dur_high;
}

takes_cons : (tail zone : ZoneBounds) (rest : List ZoneBounds) → AreKeysWithin (2 ^ 42) tail
    → Covers tail zone
    → ((a b n : ℕ) → 0 < n → SetHolds rest a b n → ZoneHolds tail a b n) → TakesIn tail (zone ∷ rest)
unfolding SetHolds
takes_cons tail zone rest keys covers behind = record {
  keys = keys;
  each = λ a b n some h. ⊎_elim (covered tail zone covers a b n some) (behind a b n some) h;
}

pub AreTails-none : (zones : List ZoneBounds) → AreTails 0 [] zones
AreTails-none zones = record { as_many = refl; each = λ k d less. absurd (omega arith) }

-- What the bounds before them take in, wider ones do.
rest_held : (zones tails : List ZoneBounds) (count : ℕ) (tail d : ZoneBounds)
    → count < length zones
    → ((k : ℕ) (e : ZoneBounds) → length tails ≡ k + 1 → Covers tail (get_or tails k e))
    → AreTails count tails zones → (a b n : ℕ) → 0 < n
    → SetHolds (drop (length zones - count) zones) a b n → ZoneHolds tail a b n
rest_held zones tails zero tail d inside wider old a b n some h =
    let none : drop (length zones - 0) zones ≡ [] =
    drop_all (length zones - 0) zones (omega arith) in
    absurd (SetHolds-empty a b n (rw none at h))
rest_held zones tails (suc k) tail d inside wider old a b n some h =
    let here : length zones - suc k ≡ length zones - 1 - k = omega arith in
    let one : length tails ≡ k + 1 = omega (arith, old.as_many) in
    covered tail (get_or tails k d) (wider k d one) a b n some
    ((old.each k d (omega arith)).each a b n some (rw here at h))

pub AreTails-more : (zones tails : List ZoneBounds) (count : ℕ) (zone tail : ZoneBounds)
    → count < length zones → zone ≡ get_or zones (length zones - 1 - count) zone
    → Covers tail zone
    → ((k : ℕ) (d : ZoneBounds) → length tails ≡ k + 1 → Covers tail (get_or tails k d))
    → AreKeysWithin (2 ^ 42) tail → AreTails count tails zones
    → AreTails (count + 1) (tails ++ tail ∷ []) zones
AreTails-more zones tails count zone tail inside is own wider keys old =
    let place = length zones - 1 - count in
    let rest : suc place ≡ length zones - count = omega (arith, inside) in
    let split : drop place zones ≡ zone ∷ drop (length zones - count) zones =
    drop-cons zones place zone (omega (arith, inside))
    ∙ ap (λ (z : ZoneBounds). z ∷ drop (suc place) zones) (sym is)
    ∙ ap (λ (k : ℕ). zone ∷ drop k zones) rest in
    let here : TakesIn tail (drop place zones) =
    rw split (takes_cons tail zone (drop (length zones - count) zones) keys own
    (rest_held zones tails count tail zone inside wider old)) in
    record {
      as_many = length_push tails tail ∙ ap (λ (k : ℕ). k + 1) old.as_many;
      each = λ k d less.
          ⊎_elim
          (λ known. rw (get_or_append_left tails (tail ∷ []) d k (omega (arith, old.as_many, known)))
          (old.each k d known))
          (λ last.
          let same : count ≡ k = omega (arith, last, less) in
          rw (get_or_push tails tail d k (old.as_many ∙ same))
          (subst (λ (j : ℕ). TakesIn tail (drop (length zones - 1 - j) zones)) same here))
          (cases_lt k count);
    }

-- ---- what is held already

pub holds_at : (zones : List ZoneBounds) (k : ℕ) (d : ZoneBounds) (a b n : ℕ) → k < length zones
    → ZoneHolds (get_or zones k d) a b n → SetHolds zones a b n
unfolding SetHolds
holds_at [] k d a b n less h = absurd (omega (arith, less))
holds_at (zone ∷ zones) zero d a b n less h = inl h
holds_at (zone ∷ zones) (suc k) d a b n less h =
    inr (holds_at zones k d a b n (omega (arith, less)) h)

pub in_frame : (zones : List ZoneBounds) → AreCanonical zones → (a b n : ℕ) → 0 < n
    → SetHolds zones a b n → IsInFrame TIME_MAX a b n
unfolding SetHolds AreCanonical
in_frame [] all a b n some h = absurd h
in_frame (zone ∷ zones) all a b n some h =
    ⊎_elim (canonical-frame zone all.0 a b n some) (in_frame zones all.1 a b n some) h

-- What the bounds take in is what the zone of them takes in.
module _ (rest : ZoneBounds) (made : Option ZoneBounds)
    (given : GivesZone made (Both (ZoneHolds rest) (IsInFrame TIME_MAX))) where
  pub made_holds : (zone : ZoneBounds) → made ≡ Some zone → (zones : List ZoneBounds)
      → AreCanonical zones → TakesIn rest zones → (a b n : ℕ) → 0 < n → SetHolds zones a b n
      → ZoneHolds zone a b n
  made_holds zone is zones canonical takes a b n some h =
      let frame = in_frame zones canonical a b n some h in
      ((rw is at given).exact a b n some frame.rising).1
      (record { left = takes.each a b n some h; right = frame })

  pub never_made : made ≡ None → (zones : List ZoneBounds) → AreCanonical zones
      → TakesIn rest zones → (a b n : ℕ) → 0 < n → SetHolds zones a b n → ⊥
  never_made is zones canonical takes a b n some h =
      let frame = in_frame zones canonical a b n some h in
      (rw is at given).never a b n some frame.rising
      (record { left = takes.each a b n some h; right = frame })

-- The compositions with what the zone of the bounds takes in are held where that of it is.
pub all_held : (longest : Option ℕ) (zone rest : ZoneBounds) (whole : Option ZoneBounds)
    (found zones : List ZoneBounds)
    → ((a b n : ℕ) → 0 < n → SetHolds zones a b n → ZoneHolds rest a b n)
    → GivesZone whole (Lasting (LastsUpTo longest) (Composed (ZoneHolds zone) (ZoneHolds rest)))
    → ((a b n : ℕ) → 0 < n → a ≤ b → FoundHolds whole a b n → SetHolds found a b n)
    → (a b n : ℕ) → 0 < n → a ≤ b
    → Lasting (LastsUpTo longest) (Composed (ZoneHolds zone) (SetHolds zones)) a b n
    → SetHolds found a b n
all_held longest zone rest whole found zones takes given held a b n some le h =
    let parts = h.related in
    held a b n some le
    ((FoundHolds-exact whole
    (Lasting (LastsUpTo longest) (Composed (ZoneHolds zone) (ZoneHolds rest))) given a b n some
    le).1
    (record {
      related = record {
        factor = parts.factor;
        positive = parts.positive;
        midpoint = parts.midpoint;
        left = parts.left;
        right = takes parts.midpoint (parts.factor * b) (parts.factor * n)
            (mul-pos parts.positive some) parts.right;
      };
      admitted = h.admitted;
    }))

pub found_is : (found : Option ZoneBounds) (zone : ZoneBounds) → found ≡ Some zone
    → (a b n : ℕ) → FoundHolds found a b n → ZoneHolds zone a b n
unfolding FoundHolds
found_is found zone is a b n h = rw is at h

pub found_never : (found : Option ZoneBounds) → found ≡ None → (a b n : ℕ)
    → FoundHolds found a b n → ⊥
unfolding FoundHolds
found_never found is a b n h = rw is at h

-- What some zones of a list hold, the list does.
pub held_part : (zones : List ZoneBounds) (j k a b n : ℕ) → SetHolds (take j (drop k zones)) a b n
    → SetHolds zones a b n
held_part zones j k a b n h =
    let behind : SetHolds (drop k zones) a b n =
    subst (λ (list : List ZoneBounds). SetHolds list a b n) (take-append-drop j (drop k zones))
    ((SetHolds-append (take j (drop k zones)) (drop j (drop k zones)) a b n).1 (inl h)) in
    subst (λ (list : List ZoneBounds). SetHolds list a b n) (take-append-drop k zones)
    ((SetHolds-append (take k zones) (drop k zones) a b n).1 (inr behind))

-- ---- gathering what F makes of the first zones of a list, and then of more of them

module _ (F : Pairs → Pairs) (additive : IsAdditive F) (start zones : List ZoneBounds) where
  abbrev Gathered : List ZoneBounds → List ZoneBounds → Type 0
  Gathered now first = HoldExactly now (Either (SetHolds start) (F (SetHolds first)))

  joined : (first more all now next : List ZoneBounds) → first ++ more ≡ all → Gathered now first
      → HoldExactly next (Either (SetHolds now) (F (SetHolds more))) → Gathered next all
  joined first more all now next is held behind =
      HoldExactly-more now next (Either (SetHolds start) (F (SetHolds first)))
      (F (SetHolds more)) (Either (SetHolds start) (F (SetHolds all))) held behind
      (λ a b n some le.
      let parts = additive (SetHolds first) (SetHolds more) (SetHolds all)
      (λ x y m. subst (λ (list : List ZoneBounds). SetHolds list x y m
      ↔ (SetHolds first x y m ⊎ SetHolds more x y m)) is (SetHolds-append first more x y m)) a b
      n in (
        (λ h. ⊎_elim (λ x. inl (inl x))
            (λ x. ⊎_elim (λ y. inl (inr y)) (λ y. inr y) (parts.0 x)) h),
        (λ h. ⊎_elim (λ x. ⊎_elim (λ y. inl y) (λ y. inr (parts.1 (inl y))) x)
            (λ x. inr (parts.1 (inr x))) h),
      ))

  pub gathered_to : (from to : ℕ) (now next : List ZoneBounds) → from ≤ to
      → Gathered now (take from zones)
      → HoldExactly next (Either (SetHolds now) (F (SetHolds (slice_range zones from to))))
      → Gathered next (take to zones)
  gathered_to from to now next rises =
      joined (take from zones) (slice_range zones from to) (take to zones) now next
      (take_to zones from to rises)

  -- What is left gives nothing that isn't there.
  pub gathered_all : (from : ℕ) (now : List ZoneBounds) → Gathered now (take from zones)
      → ((a b n : ℕ) → 0 < n → a ≤ b → F (SetHolds (drop from zones)) a b n → SetHolds now a b n)
      → Gathered now zones
  gathered_all from now held nothing_new = record {
    exact = λ a b n some le.
        let one = held.exact a b n some le in
        let parts = additive (SetHolds (take from zones)) (SetHolds (drop from zones))
        (SetHolds zones)
        (λ x y m. subst (λ (list : List ZoneBounds). SetHolds list x y m
        ↔ (SetHolds (take from zones) x y m ⊎ SetHolds (drop from zones) x y m))
        (take-append-drop from zones)
        (SetHolds-append (take from zones) (drop from zones) x y m)) a b n in (
          (λ h. ⊎_elim (λ x. inl x) (λ x. inr (parts.1 (inl x))) (one.0 h)),
          (λ h. ⊎_elim (λ x. one.1 (inl x))
              (λ x. ⊎_elim (λ y. one.1 (inr y)) (nothing_new a b n some le) (parts.0 x)) h),
        );
  }
