-- Lists of zones that grow.
use Rattle.std.proofs.Common.{◌≡◌, ◌↔◌, ◌∙◌, ◌⊎◌, ℕ, ◌+◌, ◌<◌, ◌≤◌, Any, List, [], ◌∷◌, ◌++◌, length, get_or, slice_index_or, take, drop, inl, inr, ⊎_elim, ap, refl, sym, subst, arith}
use Rattle.std.proofs.lemmas.List.{append_assoc, take_all, take_more}
use Rattle.std.specs.List.{remove}
use Rattle.std.specs.List.Sorted.{IsPermutation}
use Rattle.std.proofs.lemmas.List.Sorted.{IsPermutation-remove}
use Rattle.tre_pairs.specs.Pairs.{Pairs, Composed, Either}
use Rattle.tre_pairs.proofs.Agreement.{Agree-Composed}
use Rattle.tre_pairs.proofs.Laws.{IsOrdered, Agree}
use Rattle.tre_pairs.proofs.Order.{IsOrdered-Composed}
use Rattle.tre_zone.specs.Held.{Held, IsSetOf}
use Rattle.tre_zone.specs.Zone.{ZoneHolds, IsCanonical, Includes}
use Rattle.tre_zone.specs.ZoneList.{SetHolds, AreCanonical, HoldExactly}
use Rattle.tre_zone.specs.declared.zone_bounds.ZoneBounds.{ZoneBounds}
use Rattle.tre_zone.proofs.HeldSets.{Agree-Held, IsOrdered-Held}
use Rattle.tre_zone.proofs.ZoneListLemmas.{AreCanonical-push, SetHolds-append}
use Rattle.tre_zoneset.proofs.Thinning.{SetHolds-permutation}
use Rattle.tre_zoneset.proofs.Unions.{SetHolds-included}
use Rattle.tre_mark.proofs.Agreeing.{agree_then, agree_either, agree_refl}
use Rattle.tre_node.proofs.FoundSets.{holds_alone}
use Rattle.tre_node.proofs.SetsOf.{no_pair, set_agrees, set_of}

pub canonical_more : (zones : List ZoneBounds) (i : ℕ) (zone : ZoneBounds) → i < length zones
    → zone ≡ get_or zones i zone → AreCanonical (take i zones) → IsCanonical zone
    → AreCanonical (take (i + 1) zones)
canonical_more zones i zone below is old one =
    rw (take_more zones i zone below, ← is) (AreCanonical-push (take i zones) zone old one)

pub canonical_all : (zones : List ZoneBounds) (i : ℕ) → length zones ≤ i
    → AreCanonical (take i zones) → AreCanonical zones
canonical_all zones i all old =
    subst (λ (list : List ZoneBounds). AreCanonical list) (take_all i zones all) old

-- One more of the zones is put behind what was there.
pub put_next : (old zones found next : List ZoneBounds) (i : ℕ) (zone : ZoneBounds)
    → found ≡ old ++ take i zones → next ≡ found ++ zone ∷ [] → i < length zones
    → zone ≡ get_or zones i zone → next ≡ old ++ take (i + 1) zones
put_next old zones found next i zone so_far is below item =
    is ∙ ap (λ (list : List ZoneBounds). list ++ zone ∷ []) so_far
    ∙ append_assoc old (take i zones) (zone ∷ [])
    ∙ ap (λ (z : ZoneBounds). old ++ (take i zones ++ z ∷ [])) item
    ∙ ap (λ (list : List ZoneBounds). old ++ list) (sym (take_more zones i zone below))

-- What is put behind what was found, each two zones composed.
pub behind_each : (old new first second : List ZoneBounds) → AreCanonical first
    → AreCanonical second
    → HoldExactly new (Either (SetHolds old) (Composed (SetHolds first) (SetHolds second)))
    → IsSetOf new (Either (Held old) (Composed (Held first) (Held second)))
behind_each old new first second known known' held =
    let same = Agree-Composed (Held first) (SetHolds first) (Held second) (SetHolds second)
    (Agree-Held first known) (Agree-Held second known') in
    let ordered = IsOrdered-Composed (Held first) (Held second) (IsOrdered-Held first)
    (IsOrdered-Held second) in
    record {
      pairs = λ a b n some. (
        (λ h. ⊎_elim (λ x. inl (record { rising = h.rising; held = x }))
            (λ x. inr ((same.at a b n some).1 x)) ((held.exact a b n some h.rising).0 h.held)),
        (λ h. ⊎_elim
            (λ x. record {
              rising = x.rising;
              held = (held.exact a b n some x.rising).1 (inl x.held);
            })
            (λ x.
            let le = ordered.le a b n x in
            record {
              rising = le;
              held = (held.exact a b n some le).1 (inr ((same.at a b n some).0 x));
            }) h),
      );
    }

pub exact_same : (zones : List ZoneBounds) → HoldExactly zones (SetHolds zones)
exact_same zones = record { exact = λ a b n some rising. ((λ h. h), (λ h. h)) }

pub exact_again : (new old : List ZoneBounds) (R : Pairs) → HoldExactly new (SetHolds old)
    → HoldExactly old R → HoldExactly new R
exact_again new old R same held = record {
  exact = λ a b n some rising.
      let one = same.exact a b n some rising in
      let two = held.exact a b n some rising in ((λ h. two.0 (one.0 h)), (λ h. one.1 (two.1 h)));
}

pub held_again : (new old : List ZoneBounds) → HoldExactly new (SetHolds old)
    → Agree (Held new) (Held old)
held_again new old same = record {
  at = λ a b n some. (
    (λ h. record { rising = h.rising; held = (same.exact a b n some h.rising).0 h.held }),
    (λ h. record { rising = h.rising; held = (same.exact a b n some h.rising).1 h.held }),
  );
}

-- The set of a relation may be cut otherwise.
pub set_moved : (new old : List ZoneBounds) (R : Pairs) → HoldExactly new (SetHolds old)
    → IsSetOf old R → IsSetOf new R
set_moved new old R same set =
    set_of (agree_then (held_again new old same) (set_agrees set))

pub held_append : (one other : List ZoneBounds)
    → IsSetOf (one ++ other) (Either (Held one) (Held other))
held_append one other = record {
  pairs = λ a b n some.
      let both = SetHolds-append one other a b n in (
        (λ h. ⊎_elim (λ x. inl (record { rising = h.rising; held = x }))
            (λ x. inr (record { rising = h.rising; held = x })) (both.0 h.held)),
        (λ h. ⊎_elim (λ x. record { rising = x.rising; held = both.1 (inl x.held) })
            (λ x. record { rising = x.rising; held = both.1 (inr x.held) }) h),
      );
}

pub put_after : (old zones new : List ZoneBounds) → new ≡ old ++ zones
    → IsSetOf new (Either (Held old) (Held zones))
put_after old zones new is =
    subst (λ (list : List ZoneBounds). IsSetOf list (Either (Held old) (Held zones))) (sym is)
    (held_append old zones)

-- What is added to no zone is all there is.
pub set_alone : {old new : List ZoneBounds} {R : Pairs} → old ≡ []
    → IsSetOf new (Either (Held old) R) → IsSetOf new R
set_alone {old} none set = record {
  pairs = λ a b n some.
      let same = set.pairs a b n some in (
        (λ h. ⊎_elim (λ x. absurd (no_pair old none a b n x)) (λ x. x) (same.0 h)),
        (λ h. same.1 (inr h)),
      );
}

pub exact_alone : {old new : List ZoneBounds} {R : Pairs} → old ≡ []
    → HoldExactly new (Either (SetHolds old) R) → HoldExactly new R
exact_alone {old} {new} {R} none held = record {
  exact = λ a b n some le.
      let same = held.exact a b n some le in (
        (λ h. ⊎_elim (λ x. absurd (no_pair old none a b n (record { rising = le; held = x })))
            (λ x. x) (same.0 h)),
        (λ h. same.1 (inr h)),
      );
}

-- One list behind another, in place of what was there.
pub two_lists : (old one mid two new zones : List ZoneBounds) → old ≡ [] → mid ≡ old ++ one
    → new ≡ mid ++ two → HoldExactly zones (SetHolds new)
    → IsSetOf zones (Either (Held one) (Held two))
two_lists old one mid two new zones none is is' same =
    set_moved zones new _ same (set_of (agree_then (set_agrees (put_after mid two new is'))
    (agree_either (set_agrees (set_alone none (put_after old one mid is))) (agree_refl (Held two)))))

-- One zone holds what it is known to hold.
pub zone_alike : (zone : ZoneBounds) (R : Pairs) → IsOrdered R
    → ((a b n : ℕ) → 0 < n → ZoneHolds zone a b n ↔ R a b n) → Agree (Held (zone ∷ [])) R
zone_alike zone R ordered held = record {
  at = λ a b n some.
      let alike = holds_alone (zone ∷ []) zone refl a b n in
      let is = held a b n some in (
        (λ h. is.0 (alike.1 h.held)),
        (λ h. record { rising = ordered.le a b n h; held = alike.0 (is.1 h) }),
      );
}

-- A list of one zone.
pub one_zone : (zones : List ZoneBounds) (zone : ZoneBounds) → 1 ≤ length zones
    → length zones < 2 → zone ≡ slice_index_or zones 0 zone → zones ≡ zone ∷ []
one_zone [] zone least most is = absurd (omega arith)
one_zone (first ∷ []) zone least most is = ap (λ x. x ∷ []) (sym is)
one_zone (first ∷ second ∷ zones) zone least most is = absurd (omega arith)

-- A zone goes that one before it or behind it includes.
pub removed : (zones shown rest : List ZoneBounds) (zone : ZoneBounds) (place : ℕ)
    → shown ≡ zones → place < length zones → zone ≡ get_or zones place zone
    → rest ≡ remove zones place → rest ≡ take place zones ++ drop (place + 1) zones
    → Any (λ other. Includes other zone) (take place shown)
    ⊎ Any (λ other. Includes other zone) (drop (place + 1) shown)
    → HoldExactly rest (SetHolds zones)
removed zones shown rest zone place same below is now parts any = record {
  exact = λ a b n some le.
      let first = take place shown in
      let second = drop (place + 1) shown in
      let order : IsPermutation zones (zone ∷ rest) =
      subst (λ (list : List ZoneBounds). IsPermutation zones (zone ∷ list)) (sym now)
      (IsPermutation-remove zones place zone below is) in
      let moved = SetHolds-permutation zones (zone ∷ rest) a b n order in
      let both = SetHolds-append (zone ∷ []) rest a b n in
      let one = holds_alone (zone ∷ []) zone refl a b n in
      let split : SetHolds rest a b n ↔ (SetHolds first a b n ⊎ SetHolds second a b n) =
      subst (λ (list : List ZoneBounds).
      SetHolds list a b n ↔ (SetHolds first a b n ⊎ SetHolds second a b n))
      (sym (parts ∙ ap (λ (list : List ZoneBounds). take place list ++ drop (place + 1) list)
      (sym same))) (SetHolds-append first second a b n) in (
        (λ h. moved.0 (both.1 (inr h))),
        (λ h. ⊎_elim
            (λ x. split.1 (⊎_elim
            (λ y. inl (SetHolds-included first zone y a b n some le (one.1 x)))
            (λ y. inr (SetHolds-included second zone y a b n some le (one.1 x))) any))
            (λ x. x) (both.0 (moved.1 h))),
      );
}
