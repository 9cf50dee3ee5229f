-- Sets of ordered pairs, made by the operators.
use Rattle.std.proofs.Common.{◌≡◌, ◌⊎◌, ℕ, ◌*◌, List, [], inl, ⊎_elim, sym, subst}
use Rattle.tre_pairs.specs.Pairs.{Pairs, Composed, Either, Both, Lasting}
use Rattle.tre_pairs.proofs.Laws.{IsOrdered, Agree}
use Rattle.tre_zone.specs.Held.{Held, IsSetOf}
use Rattle.tre_zone.specs.Interval.{IntervalEnds, LastsWithin}
use Rattle.tre_zone.specs.ZoneList.{SetHolds, HoldExactly}
use Rattle.tre_zone.specs.declared.zone_bounds.ZoneBounds.{ZoneBounds}
use Rattle.tre_zone.proofs.HeldSets.{Held-empty}
use Rattle.tre_mark.proofs.Agreeing.{agree_refl, agree_then, agree_composed}

pub set_agrees : {zones : List ZoneBounds} {R : Pairs} → IsSetOf zones R → Agree (Held zones) R
set_agrees set = record { at = set.pairs }

pub set_of : {zones : List ZoneBounds} {R : Pairs} → Agree (Held zones) R → IsSetOf zones R
set_of same = record { pairs = same.at }

-- A set that holds an ordered relation exactly is a set of it, and the other way round.
pub set_exact : (zones : List ZoneBounds) (R : Pairs) → IsOrdered R → HoldExactly zones R
    → IsSetOf zones R
set_exact zones R ordered held = record {
  pairs = λ a b n some. (
    (λ h. (held.exact a b n some h.rising).0 h.held),
    (λ h.
        let le = ordered.le a b n h in
        record { rising = le; held = (held.exact a b n some le).1 h }),
  );
}

pub exact_set : (zones : List ZoneBounds) (R : Pairs) → IsSetOf zones R → HoldExactly zones R
exact_set zones R set = record {
  exact = λ a b n some le.
      let same = set.pairs a b n some in
      ((λ h. same.0 (record { rising = le; held = h })), (λ h. (same.1 h).held));
}

pub no_pair : (zones : List ZoneBounds) → zones ≡ [] → (a b n : ℕ) → Held zones a b n → ⊥
no_pair zones empty a b n h = Held-empty a b n (subst (λ list. Held list a b n) empty h)

pub both_set : (zones one other : List ZoneBounds)
    → HoldExactly zones (Both (SetHolds one) (SetHolds other))
    → IsSetOf zones (Both (Held one) (Held other))
both_set zones one other held = record {
  pairs = λ a b n some. (
    (λ h.
        let x = (held.exact a b n some h.rising).0 h.held in
        record {
          left = record { rising = h.rising; held = x.left };
          right = record { rising = h.rising; held = x.right };
        }),
    (λ h. record {
      rising = h.left.rising;
      held = (held.exact a b n some h.left.rising).1
          (record { left = h.left.held; right = h.right.held });
    }),
  );
}

pub lasting_set : (interval : IntervalEnds) (zones all : List ZoneBounds)
    → HoldExactly zones (Lasting (LastsWithin interval) (SetHolds all))
    → IsSetOf zones (Lasting (LastsWithin interval) (Held all))
lasting_set interval zones all held = record {
  pairs = λ a b n some. (
    (λ h.
        let x = (held.exact a b n some h.rising).0 h.held in
        record { related = record { rising = h.rising; held = x.related }; admitted = x.admitted }),
    (λ h. record {
      rising = h.related.rising;
      held = (held.exact a b n some h.related.rising).1
          (record { related = h.related.held; admitted = h.admitted });
    }),
  );
}

-- The set that is composed agrees with what it is to hold.
pub followed_set : (starts any zones : List ZoneBounds) (R : Pairs)
    → IsSetOf zones (Composed (Held starts) (Held any)) → IsSetOf any R
    → IsSetOf zones (Composed (Held starts) R)
followed_set starts any zones R whole part =
    set_of (agree_then (set_agrees whole)
    (agree_composed (agree_refl (Held starts)) (set_agrees part)))

-- ---- where there is no zone

pub none_set : {zones : List ZoneBounds} {R : Pairs} → zones ≡ []
    → ((a b n : ℕ) → R a b n → ⊥) → IsSetOf zones R
none_set {zones} none never = record {
  pairs = λ a b n some.
      ((λ h. absurd (no_pair zones none a b n h)), (λ h. absurd (never a b n h)));
}

never_composed : (one other : List ZoneBounds) → (one ≡ []) ⊎ (other ≡ [])
    → (a b n : ℕ) → Composed (Held one) (Held other) a b n → ⊥
never_composed one other none a b n h = ⊎_elim
    (λ x. no_pair one x (h.factor * a) h.midpoint (h.factor * n) h.left)
    (λ x. no_pair other x h.midpoint (h.factor * b) (h.factor * n) h.right) none

pub none_composed : {zones one other : List ZoneBounds} → zones ≡ []
    → (one ≡ []) ⊎ (other ≡ []) → IsSetOf zones (Composed (Held one) (Held other))
none_composed {zones} {one} {other} is none = none_set is (never_composed one other none)

pub none_beside : {zones others one other : List ZoneBounds} → zones ≡ others
    → (one ≡ []) ⊎ (other ≡ [])
    → IsSetOf zones (Either (Held others) (Composed (Held one) (Held other)))
none_beside {zones} {others} {one} {other} is none = record {
  pairs = λ a b n some. (
    (λ h. inl (subst (λ (list : List ZoneBounds). Held list a b n) is h)),
    (λ h. ⊎_elim (λ x. subst (λ (list : List ZoneBounds). Held list a b n) (sym is) x)
        (λ x. absurd (never_composed one other none a b n x)) h),
  );
}

pub none_both : {zones one other : List ZoneBounds} → zones ≡ []
    → (one ≡ []) ⊎ (other ≡ []) → IsSetOf zones (Both (Held one) (Held other))
none_both {zones} {one} {other} is none = none_set is
    (λ a b n h. ⊎_elim (λ x. no_pair one x a b n h.left) (λ x. no_pair other x a b n h.right) none)

pub none_lasting : (interval : IntervalEnds) {zones all : List ZoneBounds} → zones ≡ []
    → all ≡ [] → IsSetOf zones (Lasting (LastsWithin interval) (Held all))
none_lasting interval {zones} {all} is none =
    none_set is (λ a b n h. no_pair all none a b n h.related)

pub none_first : {zones one : List ZoneBounds} (R : Pairs) → zones ≡ [] → one ≡ []
    → IsSetOf zones (Composed (Held one) R)
none_first {zones} {one} R is none =
    none_set is (λ a b n h. no_pair one none (h.factor * a) h.midpoint (h.factor * n) h.left)
