-- What sets of zones hold, beside relations.
use Rattle.std.proofs.Common.{ℕ, List, inl, inr, ⊎_elim}
use Rattle.tre_pairs.specs.Pairs.{Pairs, Composed, Either, Both, Lasting}
use Rattle.tre_pairs.proofs.Agreement.{Agree-Composed}
use Rattle.tre_pairs.proofs.Laws.{IsOrdered, Agree}
use Rattle.tre_pairs.proofs.Shortening.{Agree-trans}
use Rattle.tre_zone.specs.Zone.{EndsAt}
use Rattle.tre_zone.specs.ZoneList.{SetHolds, HoldExactly}
use Rattle.tre_zone.specs.declared.zone_bounds.ZoneBounds.{ZoneBounds}
use Rattle.tre_zone.specs.Held.{Held}
use Rattle.tre_residual.specs.Residual.{IsComposition}

pub Agree-self : (R : Pairs) → Agree R R
Agree-self R = record { at = λ a b n some. ((λ h. h), (λ h. h)) }

module _ (zones : List ZoneBounds) (R : Pairs) where
  -- A set that holds exactly an ordered relation agrees with it.
  pub Agree-held : IsOrdered R → HoldExactly zones R → Agree (Held zones) R
  Agree-held ordered held = record {
    at = λ a b n some. (
      (λ h. (held.exact a b n some h.rising).0 h.held),
      (λ h.
          let le = ordered.le a b n h in
          record { rising = le; held = (held.exact a b n some le).1 h }),
    );
  }

  -- And what agrees with a set is held by it exactly.
  pub held_exactly : Agree (Held zones) R → HoldExactly zones R
  held_exactly same = record {
    exact = λ a b n some le.
        let both = same.at a b n some in (
          (λ h. both.0 (record { rising = le; held = h })),
          (λ h. (both.1 h).held),
        );
  }

-- The set of the pairs of one that end at a time.
module _ (time : ℕ) (all ending : List ZoneBounds)
    (held : HoldExactly ending (Both (SetHolds all) (EndsAt time))) where
  pub held_ending : Agree (Held ending) (Both (Held all) (EndsAt time))
  held_ending = record {
    at = λ a b n some. (
      (λ h.
          let both = (held.exact a b n some h.rising).0 h.held in
          record {
            left = record { rising = h.rising; held = both.left };
            right = both.right;
          }),
      (λ h. record {
        rising = h.left.rising;
        held = (held.exact a b n some h.left.rising).1
            (record { left = h.left.held; right = h.right });
      }),
    );
  }

-- The set of the pairs of two sets, and that of the pairs of both.
module _ (one other whole : List ZoneBounds) where
  pub held_either : HoldExactly whole (Either (SetHolds one) (SetHolds other))
      → Agree (Held whole) (Either (Held one) (Held other))
  held_either held = record {
    at = λ a b n some. (
      (λ h. ⊎_elim
          (λ x. inl (record { rising = h.rising; held = x }))
          (λ x. inr (record { rising = h.rising; held = x }))
          ((held.exact a b n some h.rising).0 h.held)),
      (λ h. ⊎_elim
          (λ x. record {
            rising = x.rising;
            held = (held.exact a b n some x.rising).1 (inl x.held);
          })
          (λ x. record {
            rising = x.rising;
            held = (held.exact a b n some x.rising).1 (inr x.held);
          })
          h),
    );
  }

  pub held_both : HoldExactly whole (Both (SetHolds one) (SetHolds other))
      → Agree (Held whole) (Both (Held one) (Held other))
  held_both held = record {
    at = λ a b n some. (
      (λ h.
          let both = (held.exact a b n some h.rising).0 h.held in
          record {
            left = record { rising = h.rising; held = both.left };
            right = record { rising = h.rising; held = both.right };
          }),
      (λ h. record {
        rising = h.left.rising;
        held = (held.exact a b n some h.left.rising).1
            (record { left = h.left.held; right = h.right.held });
      }),
    );
  }

-- The set of the pairs of a set whose duration is admitted.
pub held_lasting : (D : ℕ → ℕ → Type 0) (all whole : List ZoneBounds)
    → HoldExactly whole (Lasting D (SetHolds all)) → Agree (Held whole) (Lasting D (Held all))
held_lasting D all whole held = record {
  at = λ a b n some. (
    (λ h.
        let lasts = (held.exact a b n some h.rising).0 h.held in
        record {
          related = record { rising = h.rising; held = lasts.related };
          admitted = lasts.admitted;
        }),
    (λ h. record {
      rising = h.related.rising;
      held = (held.exact a b n some h.related.rising).1
          (record { related = h.related.held; admitted = h.admitted });
    }),
  );
}

-- The composition of two sets that agree with relations is that of the relations.
pub held_composed : (one other whole : List ZoneBounds) (R S : Pairs)
    → IsComposition whole one other → Agree (Held one) R → Agree (Held other) S
    → Agree (Held whole) (Composed R S)
held_composed one other whole R S composed r s =
    Agree-trans (Held whole) (Composed (Held one) (Held other)) (Composed R S)
    (record { at = composed.pairs }) (Agree-Composed (Held one) R (Held other) S r s)

-- A set that holds one relation exactly holds another that agrees with it.
pub exact_as : (zones : List ZoneBounds) (R S : Pairs) → HoldExactly zones R → Agree R S
    → HoldExactly zones S
exact_as zones R S held same = record {
  exact = λ a b n some le.
      let one = held.exact a b n some le in
      let two = same.at a b n some in
      ((λ h. two.0 (one.0 h)), (λ h. one.1 (two.1 h)));
}

-- A set of the pairs of some zones.
pub same_set : (set zones : List ZoneBounds) → HoldExactly set (SetHolds zones)
    → Agree (Held set) (Held zones)
same_set set zones held = record {
  at = λ a b n some. (
    (λ h. record { rising = h.rising; held = (held.exact a b n some h.rising).0 h.held }),
    (λ h. record { rising = h.rising; held = (held.exact a b n some h.rising).1 h.held }),
  );
}

-- The same of the first zones.
pub composition_of : (led set zones inner : List ZoneBounds) → HoldExactly set (SetHolds zones)
    → IsComposition led set inner → IsComposition led zones inner
composition_of led set zones inner held composed = record {
  pairs = (held_composed set inner led (Held zones) (Held inner) composed
      (same_set set zones held) (Agree-self (Held inner))).at;
}

-- The pairs of some zones, and of a relation that a set holds.
pub either_exact : (told set zones behind : List ZoneBounds) (R : Pairs)
    → HoldExactly set (SetHolds zones) → HoldExactly behind R
    → HoldExactly told (Either (SetHolds set) (SetHolds behind))
    → HoldExactly told (Either (Held zones) R)
either_exact told set zones behind R one other held = record {
  exact = λ a b n some le.
      let f = one.exact a b n some le in
      let g = other.exact a b n some le in
      let both = held.exact a b n some le in (
        (λ h. ⊎_elim (λ x. inl (record { rising = le; held = f.0 x })) (λ x. inr (g.0 x))
            (both.0 h)),
        (λ h. both.1 (⊎_elim (λ x. inl (f.1 x.held)) (λ x. inr (g.1 x)) h)),
      );
}
