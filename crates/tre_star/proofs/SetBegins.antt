-- The begins of the pairs of a set, zone by zone.
use Rattle.std.proofs.Common.{◌*◌, ℕ, List, [], ◌∷◌, ◌++◌, inl, inr, ⊎_elim, subst, sym, refl, arith}
use Rattle.std.proofs.Math.Nat.{mul_assoc, mul-pos}
use Rattle.tre_compose.specs.Begins.{BeginsOf}
use Rattle.tre_pairs.specs.Leads.{Leads, LeadsOn}
use Rattle.tre_pairs.specs.Pairs.{Pairs, Both, Composed}
use Rattle.tre_pairs.proofs.Chains.{Composed-at}
use Rattle.tre_pairs.proofs.Scaling.{moved}
use Rattle.tre_zone.specs.Zone.{IsZoneOf, ZoneHolds}
use Rattle.tre_zone.specs.ZoneList.{AreCanonical, SetHolds, HoldExactly}
use Rattle.tre_zone.specs.declared.zone_bounds.ZoneBounds.{ZoneBounds}
use Rattle.tre_zone.proofs.Scaling.{SetHolds-rising, SetHolds-scale}
use Rattle.tre_zone.proofs.ZoneListLemmas.{SetHolds-empty, SetHolds-push}

pub begins-none : HoldExactly [] (BeginsOf (SetHolds []))
begins-none = record {
  exact = λ a b n some le. (
    (λ h. absurd (SetHolds-empty a b n h)),
    (λ h. absurd (SetHolds-empty (h.leads.factor * a) h.leads.to (h.leads.factor * n)
        h.leads.led)),
  );
}

-- What leads in one of two, leads in both.
leads_in : (R S : Pairs) → ((a b n : ℕ) → R a b n → S a b n) → (b n : ℕ) → Leads R b n
    → Leads S b n
leads_in R S more b n h = record {
  factor = h.factor;
  positive = h.positive;
  to = h.to;
  led = more (h.factor * b) h.to (h.factor * n) h.led;
}

pub begins-more : (found zones : List ZoneBounds) (one zone : ZoneBounds)
    → HoldExactly found (BeginsOf (SetHolds zones)) → IsZoneOf one (BeginsOf (ZoneHolds zone))
    → HoldExactly (found ++ one ∷ []) (BeginsOf (SetHolds (zones ++ zone ∷ [])))
begins-more found zones one zone old is = record {
  exact = λ a b n some le.
      let whole = SetHolds-push found one a b n in
      let before = old.exact a b n some le in
      let this = is.exact a b n some le in (
        (λ h. ⊎_elim
            (λ x.
            let y = before.0 x in
            record {
              same = y.same;
              leads = leads_in (SetHolds zones) (SetHolds (zones ++ zone ∷ []))
                  (λ a b n s. (SetHolds-push zones zone a b n).1 (inl s)) a n y.leads;
            })
            (λ x.
            let y = this.0 x in
            record {
              same = y.same;
              leads = leads_in (ZoneHolds zone) (SetHolds (zones ++ zone ∷ []))
                  (λ a b n s. (SetHolds-push zones zone a b n).1 (inr s)) a n y.leads;
            })
            (whole.0 h)),
        (λ h.
            let k = h.leads.factor in
            whole.1 (⊎_elim
            (λ s. inl (before.1 (record {
              same = h.same;
              leads = record {
                factor = k;
                positive = h.leads.positive;
                to = h.leads.to;
                led = s;
              };
            })))
            (λ s. inr (this.1 (record {
              same = h.same;
              leads = record {
                factor = k;
                positive = h.leads.positive;
                to = h.leads.to;
                led = s;
              };
            })))
            ((SetHolds-push zones zone (k * a) h.leads.to (k * n)).0 h.leads.led))),
      );
}

pub through : (R : Pairs) (found set : List ZoneBounds) → HoldExactly found R
    → HoldExactly set (SetHolds found) → HoldExactly set R
through R found set exact held = record {
  exact = λ a b n some le.
      let one = held.exact a b n some le in
      let two = exact.exact a b n some le in
      ((λ h. two.0 (one.0 h)), (λ h. one.1 (two.1 h)));
}

-- A composition with begins: what leads on.
pub leading : (one other begins zones : List ZoneBounds) → AreCanonical one → AreCanonical begins
    → HoldExactly begins (BeginsOf (SetHolds other))
    → HoldExactly zones (Composed (SetHolds one) (SetHolds begins))
    → HoldExactly zones (Both (SetHolds one) (LeadsOn (SetHolds other)))
leading one other begins zones set set' exact held = record {
  exact = λ a b n some le.
      let whole = held.exact a b n some le in (
        (λ h.
            let c = whole.0 h in
            let k = c.factor in
            let pos = mul-pos c.positive some in
            let rising = SetHolds-rising begins set' c.midpoint (k * b) (k * n) pos c.right in
            let begin = (exact.exact c.midpoint (k * b) (k * n) pos rising).0 c.right in
            let first = subst (λ (t : ℕ). SetHolds one (k * a) t (k * n)) begin.same c.left in
            let i = begin.leads.factor in
            let led = subst (λ (t : ℕ). SetHolds other (i * t) begin.leads.to (i * (k * n)))
            begin.same begin.leads.led in
            record {
              left = (SetHolds-scale one k a b n c.positive).1 first;
              right = record {
                factor = i * k;
                positive = mul-pos begin.leads.positive c.positive;
                to = begin.leads.to;
                led = moved (SetHolds other) (sym (mul_assoc i k b)) refl
                    (sym (mul_assoc i k n)) led;
              };
            }),
        (λ h. whole.1 (Composed-at (SetHolds one) (SetHolds begins) a b b n h.left
            ((exact.exact b b n some (omega arith)).1
            (record { same = refl; leads = h.right })))),
      );
}
