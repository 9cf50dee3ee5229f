-- What a residual stands for where the trace has ended, from what its parts stand for.
use Rattle.std.proofs.Common.{◌≡◌, ℕ, ◌*◌, ◌<◌, ◌≤◌, ◌∙◌, Option, List, [], refl, sym, subst, arith}
use Rattle.std.proofs.Math.Nat.{mul-pos}
use Rattle.tre_pairs.specs.Pairs.{Pairs, Either, Both, Lasting}
use Rattle.tre_pairs.proofs.Agreement.{Agree-Either, Agree-Both, Agree-Lasting}
use Rattle.tre_pairs.proofs.Chains.{Composed-at}
use Rattle.tre_pairs.proofs.Laws.{Agree}
use Rattle.tre_pairs.proofs.Scaling.{moved}
use Rattle.tre_pairs.proofs.Shortening.{Agree-trans}
use Rattle.tre_zone.specs.Held.{Held}
use Rattle.tre_zone.specs.Interval.{IntervalEnds, LastsWithin}
use Rattle.tre_zone.specs.Zone.{EndsAt}
use Rattle.tre_zone.specs.ZoneList.{SetHolds, HoldExactly}
use Rattle.tre_zone.specs.declared.zone_bounds.ZoneBounds.{ZoneBounds}
use Rattle.tre_zone.proofs.ZoneListLemmas.{SetHolds-empty}
use Rattle.tre_syntax.specs.Meaning.{MatchesRest}
use Rattle.tre_syntax.specs.PatternTree.{PatternTree}
use Rattle.tre_syntax.proofs.Ends.{matches_at_end}
use Rattle.tre_residual.specs.Residual.{ResidualTree, nothing, here, joined, preceded, followed, either, both, lasting, Means, IsWellAt, IsComposition}
use Rattle.tre_residual.proofs.Crossings.{ends_around, ends_within}
use Rattle.tre_residual.proofs.Meanings.{Scales-Means, IsOrdered-Means}
use Rattle.tre_derive.specs.Closing.{ClosesTo, HeldAtEnd, end_at}
use Rattle.tre_derive.proofs.Held.{Agree-self, Agree-held, held_exactly, held_either, held_both, held_lasting, held_composed}

module _ (time events : ℕ) where
  -- What a residual stands for at the end.
  abbrev Last : ResidualTree → Option ℕ → Pairs
  Last residual before = Means residual (end_at time events before)

  abbrev Closes : ResidualTree → List ZoneBounds → Type 0
  Closes residual told = ClosesTo residual time events told

  closed_agree : (residual : ResidualTree) (told : List ZoneBounds) → Closes residual told
      → (before : Option ℕ) → Agree (Held told) (Last residual before)
  closed_agree residual told closes before =
      Agree-held told (Last residual before)
      (IsOrdered-Means (end_at time events before) residual) (closes.tells before)

  -- ---- what stands alone

  pub close_nothing : (told : List ZoneBounds) → told ≡ [] → Closes nothing told
  close_nothing told none = record {
    tells = λ before. record {
      exact = λ a b n some le. (
        (λ h. SetHolds-empty a b n (subst (λ list. SetHolds list a b n) none h)),
        (λ h. absurd h),
      );
    };
  }

  pub close_here : (zones told : List ZoneBounds) → told ≡ zones → Closes (here zones) told
  close_here zones told same = record {
    tells = λ before. record {
      exact = λ a b n some le. (
        (λ h. record { rising = le; held = subst (λ list. SetHolds list a b n) same h }),
        (λ h. subst (λ list. SetHolds list a b n) (sym same) h.held),
      );
    };
  }

  -- ---- when pairs end

  -- Each pair begins by the end of the trace, and ends then.
  abbrev pub EndsThere : ResidualTree → Type 0
  EndsThere residual = (before : Option ℕ) (a b n : ℕ) → 0 < n → Last residual before a b n
      → (a ≤ time * n) × (b ≡ time * n)

  pub well_ends : (inner : ResidualTree) → IsWellAt time inner → EndsThere inner
  well_ends inner well before a b n some h =
      let around = ends_around (end_at time events before) inner well.well a b n some h in
      let from = around.1 in
      let to = ends_within (end_at time events before) inner well.well a b n some h in
      (around.0, omega (arith, from, to))

  -- ---- a match at the end

  module _ (tree : PatternTree) (zones told : List ZoneBounds)
      (held : HoldExactly told (HeldAtEnd zones events tree)) where
    pub close_joined : (begun : List ZoneBounds)
        → HoldExactly zones (Both (SetHolds begun) (EndsAt time)) → Closes (joined begun tree) told
    close_joined begun ends = record {
      tells = λ before. record {
        exact = λ a b n some le.
            let law = matches_at_end time before events tree in
            let kept = held.exact a b n some le in
            let ending = ends.exact a b n some le in (
              (λ h.
                  let x = kept.0 h in
                  let y = ending.0 x.held in
                  let end = y.right.ends in
                  record {
                    left = record {
                      rising = omega (arith, le, end);
                      held = subst (λ (t : ℕ). SetHolds begun a t n) end y.left;
                    };
                    right = (law (time * n) b n some).1 (record { begin = refl; end = end }, x.at_end);
                  }),
              (λ h.
                  let last = (law (time * n) b n some).0 h.right in
                  let end = last.0.end in
                  kept.1 (record {
                    held = ending.1 (record {
                      left = subst (λ (t : ℕ). SetHolds begun a t n) (sym end) h.left.held;
                      right = record { ends = end };
                    });
                    at_end = last.1;
                  })),
            );
      };
    }

    -- Each pair of a residual ends at the end of the trace, so a match behind it lasts no time.
    pub close_followed : (inner : ResidualTree) → EndsThere inner → Closes inner zones
        → Closes (followed inner tree) told
    close_followed inner ends closes = record {
      tells = λ before. record {
        exact = λ a b n some le.
            let rest = end_at time events before in
            let law = matches_at_end time before events tree in
            let kept = held.exact a b n some le in
            let one = (closes.tells before).exact a b n some le in (
              (λ h.
                  let x = kept.0 h in
                  let y = one.0 x.held in
                  let end = (ends before a b n some y).1 in
                  Composed-at (Means inner rest) (MatchesRest tree rest) a b b n y
                  ((law b b n some).1 (record { begin = end; end = end }, x.at_end))),
              (λ h.
                  let k = h.factor in
                  let finer : 0 < k * n = mul-pos h.positive some in
                  let last = (law h.midpoint (k * b) (k * n) finer).0 h.right in
                  let middle : h.midpoint ≡ k * b = last.0.begin ∙ sym last.0.end in
                  kept.1 (record {
                    held = one.1 ((Scales-Means rest inner).down k a b n h.positive
                        (moved (Means inner rest) refl middle refl h.left));
                    at_end = last.1;
                  })),
            );
      };
    }

  -- ---- the others, part by part

  module _ (inner : ResidualTree) (told' told : List ZoneBounds) (closes : Closes inner told') where
    pub close_preceded : (zones : List ZoneBounds) → IsComposition told zones told'
        → Closes (preceded zones inner) told
    close_preceded zones composed = record {
      tells = λ before. held_exactly told (Last (preceded zones inner) before)
          (held_composed zones told' told (Held zones) (Last inner before) composed
          (Agree-self (Held zones)) (closed_agree inner told' closes before));
    }

    pub close_lasting : (ends : IntervalEnds)
        → HoldExactly told (Lasting (LastsWithin ends) (SetHolds told'))
        → Closes (lasting inner ends) told
    close_lasting ends held =
        let D = LastsWithin ends in
        record {
          tells = λ before. held_exactly told (Last (lasting inner ends) before)
              (Agree-trans (Held told) (Lasting D (Held told')) (Lasting D (Last inner before))
              (held_lasting D told' told held)
              (Agree-Lasting D (Held told') (Last inner before)
              (closed_agree inner told' closes before)));
        }

  module _ (one other : ResidualTree) (told_one told_other told : List ZoneBounds)
      (first : Closes one told_one) (second : Closes other told_other) where
    pub close_either : HoldExactly told (Either (SetHolds told_one) (SetHolds told_other))
        → Closes (either one other) told
    close_either held = record {
      tells = λ before. held_exactly told (Last (either one other) before)
          (Agree-trans (Held told) (Either (Held told_one) (Held told_other))
          (Either (Last one before) (Last other before)) (held_either told_one told_other told held)
          (Agree-Either (Held told_one) (Last one before) (Held told_other) (Last other before)
          (closed_agree one told_one first before) (closed_agree other told_other second before)));
    }

    pub close_both : HoldExactly told (Both (SetHolds told_one) (SetHolds told_other))
        → Closes (both one other) told
    close_both held = record {
      tells = λ before. held_exactly told (Last (both one other) before)
          (Agree-trans (Held told) (Both (Held told_one) (Held told_other))
          (Both (Last one before) (Last other before)) (held_both told_one told_other told held)
          (Agree-Both (Held told_one) (Last one before) (Held told_other) (Last other before)
          (closed_agree one told_one first before) (closed_agree other told_other second before)));
    }
