-- Chains of what a repetition repeats inside a piece.
use Rattle.std.proofs.Common.{◌≡◌, ◌↔◌, length, ℕ, ◌*◌, ◌<◌, ◌≤◌, List, [], ◌∷◌, Option, None, Some, IfSome, ⊎_elim, inl, inr, refl, arith}
use Rattle.std.proofs.Math.Nat.{mul-pos}
use Rattle.tre_pairs.specs.Pairs.{Pairs, Composed, Either, LeadTo, Chain}
use Rattle.tre_pairs.proofs.Agreement.{Agree-Chain}
use Rattle.tre_pairs.proofs.Chains.{Composed-at, Chain-none, Chain-one}
use Rattle.tre_pairs.proofs.Laws.{IsInstant, Agree}
use Rattle.tre_pairs.proofs.Order.{IsOrdered-Chain, IsOrdered-Composed}
use Rattle.tre_pairs.proofs.Scaling.{moved, Scales-Either}
use Rattle.tre_zone.specs.Held.{Held, IsSetOf}
use Rattle.tre_zone.specs.Zone.{ZoneHolds, Includes, GivesZone, IsInstantBetween}
use Rattle.tre_zone.specs.ZoneList.{SetHolds, HoldExactly}
use Rattle.tre_zone.specs.declared.zone_bounds.ZoneBounds.{ZoneBounds}
use Rattle.tre_zone.proofs.HeldSets.{Agree-Held, Scales-Held, IsOrdered-Held}
use Rattle.tre_zoneset.specs.ZoneSet.{IsZoneSet}
use Rattle.tre_star.proofs.Chaining.{Scales-instants}
use Rattle.tre_mark.specs.Marked.{EndBetween}
use Rattle.tre_mark.proofs.Agreeing.{agree_refl, agree_sym}
use Rattle.tre_node.specs.Telling.{LeadsNoFurther}
use Rattle.tre_node.proofs.FoundSets.{holds_alone}
use Rattle.tre_node.proofs.Lists.{zone_alike}
use Rattle.tre_node.proofs.SetsOf.{no_pair, set_exact}

over_holds : (step : ZoneBounds) (twice : Option ZoneBounds)
    → GivesZone twice (Composed (ZoneHolds step) (ZoneHolds step))
    → IfSome twice (Includes step) → (a b n : ℕ) → 0 < n → a ≤ b
    → Composed (ZoneHolds step) (ZoneHolds step) a b n → ZoneHolds step a b n
over_holds step None gives over a b n some le h = absurd (gives.never a b n some le h)
over_holds step (Some zone) gives over a b n some le h =
    over.every a b n some le ((gives.exact a b n some le).1 h)

-- One zone leads no further where what two of it make is nothing, or in it.
pub lone_over : (step : ZoneBounds) (twice : Option ZoneBounds)
    → GivesZone twice (Composed (ZoneHolds step) (ZoneHolds step))
    → IfSome twice (Includes step) → LeadsNoFurther (step ∷ [])
lone_over step twice gives over =
    let S = Held (step ∷ []) in
    let ordered = IsOrdered-Composed S S (IsOrdered-Held (step ∷ [])) (IsOrdered-Held (step ∷ [])) in
    record {
      twice = λ a b n some h.
          let le = ordered.le a b n h in
          let k = h.factor in
          let one = (holds_alone (step ∷ []) step refl (k * a) h.midpoint (k * n)).1 h.left.held in
          let two = (holds_alone (step ∷ []) step refl h.midpoint (k * b) (k * n)).1 h.right.held in
          record {
            rising = le;
            held = (holds_alone (step ∷ []) step refl a b n).0
                (over_holds step twice gives over a b n some le (record {
                  factor = k;
                  positive = h.positive;
                  midpoint = h.midpoint;
                  left = one;
                  right = two;
                }));
          };
    }

pub no_zone : (zones : List ZoneBounds) → length zones < 1 → zones ≡ []
no_zone [] less = refl
no_zone (zone ∷ zones) less = absurd (omega (arith, less))

pub none_over : (steps : List ZoneBounds) → steps ≡ [] → LeadsNoFurther steps
none_over steps none = record {
  twice = λ a b n some h.
      absurd (no_pair steps none (h.factor * a) h.midpoint (h.factor * n) h.left);
}

-- Steps that lead no further are all chains of one or more.
module _ (from to : ℕ) (steps : List ZoneBounds) (over : LeadsNoFurther steps)
    (between : EndBetween from to steps) where
  abbrev I : Pairs
  I = IsInstantBetween from to

  abbrev S : Pairs
  S = Held steps

  led : (n begin : ℕ) (cuts : List ℕ) (end : ℕ) → 0 < n → LeadTo S I n begin cuts end
      → Either I S begin end n
  led n begin [] end some h = inl h
  led n begin (cut ∷ cuts) end some h = ⊎_elim
      (λ x. inr (moved S refl x.same refl h.0))
      (λ x. inr (over.twice begin end n some (Composed-at S S begin cut end n h.0 x)))
      (led n cut cuts end some h.1)

  pub over_chains : Agree (Either S I) (Chain S I)
  over_chains = record {
    at = λ a b n some. (
      (λ h. ⊎_elim
          (λ x. Chain-one S I a b n x (record {
            starts = between.begin a b n some x;
            same = refl;
            ends = between.end a b n some x;
          }))
          (λ x. Chain-none S I a b n x) h),
      (λ h. ⊎_elim (λ x. inr x) (λ x. inl x)
          ((Scales-Either I S (Scales-instants from to) (Scales-Held steps)).down h.factor a b n
          h.positive
          (led (h.factor * n) (h.factor * a) h.cuts (h.factor * b) (mul-pos h.positive some)
          h.steps))),
    );
  }

IsInstant-Instants : (from to : ℕ) → IsInstant (IsInstantBetween from to)
IsInstant-Instants from to = record { same = λ a b n h. h.same }

pub chain_set : (steps zones : List ZoneBounds) (from to : ℕ) → IsZoneSet steps
    → HoldExactly zones (Chain (SetHolds steps) (IsInstantBetween from to))
    → IsSetOf zones (Chain (Held steps) (IsInstantBetween from to))
chain_set steps zones from to set held =
    let E = IsInstantBetween from to in
    let same : Agree (Chain (SetHolds steps) E) (Chain (Held steps) E) =
    Agree-Chain (SetHolds steps) (Held steps) E E
    (agree_sym (Agree-Held steps set.canonical))
    (agree_refl E) in
    set_exact zones (Chain (Held steps) E)
    (IsOrdered-Chain (Held steps) E (IsOrdered-Held steps) (IsInstant-Instants from to))
    (record {
      exact = λ a b n some le.
          let one = held.exact a b n some le in
          let two = same.at a b n some in
          ((λ h. two.0 (one.0 h)), (λ h. one.1 (two.1 h)));
    })

pub instants_alike : (from to : ℕ) (zone : ZoneBounds)
    → ((a b n : ℕ) → 0 < n → ZoneHolds zone a b n ↔ IsInstantBetween from to a b n)
    → Agree (Held (zone ∷ [])) (IsInstantBetween from to)
instants_alike from to zone held = zone_alike zone (IsInstantBetween from to)
    (record { le = λ a b n h. let same = h.same in omega (arith, same) }) held
