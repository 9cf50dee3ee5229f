-- Relations that hold of the same pairs, and a set up to a time.
use Rattle.std.proofs.Common.{◌≡◌, ℕ, ◌*◌, List, refl, ◌∙◌, inl, inr, ⊎_elim}
use Rattle.std.proofs.Math.Nat.{mul_left_comm, mul-pos}
use Rattle.tre_pairs.specs.Cuts.{JoinedAt}
use Rattle.tre_pairs.specs.Pairs.{Pairs, Composed, Either}
use Rattle.tre_pairs.proofs.Agreement.{Agree-Composed}
use Rattle.tre_pairs.proofs.Chains.{Composed-at, Composed-assoc}
use Rattle.tre_pairs.proofs.Laws.{Scales, Agree}
use Rattle.tre_pairs.proofs.Scaling.{moved}
use Rattle.tre_zone.specs.Held.{Held, EndAt}
use Rattle.tre_zone.proofs.HeldSets.{Scales-Held}
use Rattle.tre_zone.specs.declared.zone_bounds.ZoneBounds.{ZoneBounds}

pub agree_refl : (R : Pairs) → Agree R R
agree_refl R = record { at = λ a b n some. ((λ h. h), (λ h. h)) }

pub agree_sym : {R S : Pairs} → Agree R S → Agree S R
agree_sym same = record { at = λ a b n some. ((same.at a b n some).1, (same.at a b n some).0) }

pub agree_then : {R S T : Pairs} → Agree R S → Agree S T → Agree R T
agree_then one two = record {
  at = λ a b n some.
      let f = one.at a b n some in
      let g = two.at a b n some in
      ((λ h. g.0 (f.0 h)), (λ h. f.1 (g.1 h)));
}

pub agree_composed : {R R' S S' : Pairs} → Agree R R' → Agree S S'
    → Agree (Composed R S) (Composed R' S')
agree_composed {R} {R'} {S} {S'} r s = Agree-Composed R R' S S' r s

pub agree_either : {R R' S S' : Pairs} → Agree R R' → Agree S S'
    → Agree (Either R S) (Either R' S')
agree_either r s = record {
  at = λ a b n some. (
    (λ h. ⊎_elim (λ x. inl ((r.at a b n some).0 x)) (λ x. inr ((s.at a b n some).0 x)) h),
    (λ h. ⊎_elim (λ x. inl ((r.at a b n some).1 x)) (λ x. inr ((s.at a b n some).1 x)) h),
  );
}

pub agree_assoc : (R S T : Pairs) → Scales R → Scales T
    → Agree (Composed (Composed R S) T) (Composed R (Composed S T))
agree_assoc R S T r t = record { at = λ a b n some. Composed-assoc R S T r t a b n }

-- Where each pair of a set ends at the time, what is joined there is composed.
pub joined_composed : (time : ℕ) (zones : List ZoneBounds) (R : Pairs) → EndAt time zones
    → Scales R → Agree (JoinedAt time (Held zones) R) (Composed (Held zones) R)
joined_composed time zones R ends scales = record {
  at = λ a b n some. (
    (λ h. Composed-at (Held zones) R a (time * n) b n h.left h.right),
    (λ h.
        let k = h.factor in
        let end : h.midpoint ≡ k * (time * n) =
        ends.ends (k * a) h.midpoint (k * n) (mul-pos h.positive some) h.left
        ∙ mul_left_comm time k n in
        record {
          left = (Scales-Held zones).down k a (time * n) n h.positive
              (moved (Held zones) refl end refl h.left);
          right = scales.down k (time * n) b n h.positive (moved R end refl refl h.right);
        }),
  );
}
