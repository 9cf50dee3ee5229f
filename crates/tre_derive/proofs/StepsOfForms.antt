-- What a step makes of each form of a residual, from what it makes of its parts.
use Rattle.std.proofs.Common.{◌≡◌, ℕ, ◌*◌, ◌<◌, ◌≤◌, List, [], None, sym, inl, inr, ⊎_elim, subst, arith}
use Rattle.std.proofs.lemmas.Bool.{cases_lt}
use Rattle.std.proofs.Math.Nat.{mul-pos, mul-lt-mul_of_pos_right}
use Rattle.tre_pairs.specs.Before.{Before}
use Rattle.tre_pairs.specs.Cuts.{Crossing}
use Rattle.tre_pairs.specs.Pairs.{Pairs, Composed, Either, Both, Lasting}
use Rattle.tre_pairs.proofs.Agreement.{Agree-Composed, Agree-Either, Agree-Both, Agree-Lasting}
use Rattle.tre_pairs.proofs.CutLaws.{IsCut}
use Rattle.tre_pairs.proofs.Laws.{IsOrdered, Implies, ImpliesBefore, Agree}
use Rattle.tre_pairs.proofs.Shortening.{Agree-trans}
use Rattle.tre_pairs.proofs.Ticks.{le_up, le_down, ge_down}
use Rattle.tre_zone.specs.Interval.{IntervalEnds, LastsWithin}
use Rattle.tre_zone.specs.ZoneList.{SetHolds, HoldExactly}
use Rattle.tre_zone.specs.declared.zone_bounds.ZoneBounds.{ZoneBounds}
use Rattle.tre_zone.proofs.ZoneListLemmas.{SetHolds-empty}
use Rattle.tre_state.specs.declared.names.TheConstants.{NAMES_MAX}
use Rattle.tre_trace.specs.Trace.{Timeline}
use Rattle.tre_syntax.specs.Cut.{uncut, MatchesBehind}
use Rattle.tre_syntax.specs.Meaning.{MatchesRest}
use Rattle.tre_syntax.specs.PatternTree.{PatternTree, NumbersBelow}
use Rattle.tre_syntax.proofs.CutMeaning.{IsOrdered-rest, IsCut-Matches}
use Rattle.tre_edges.specs.Piece.{rest_of_piece, end_of_piece, cut_behind}
use Rattle.tre_edges.specs.declared.piece.Piece.{Piece}
use Rattle.tre_zone.specs.Held.{Held, EndAt}
use Rattle.tre_forms.specs.Begun.{EndsFrom}
use Rattle.tre_residual.specs.Residual.{ResidualTree, nothing, here, preceded, followed, either, both, lasting, Means, IsWell, Builds, IsComposition}
use Rattle.tre_residual.proofs.Crossings.{ends_around}
use Rattle.tre_residual.proofs.Growth.{Means-grow, Means-early}
use Rattle.tre_residual.proofs.Meanings.{IsOrdered-Means}
use Rattle.tre_derive.specs.Derivative.{EndingFrom, StepsTo, BeginsBehindPairs, ComesBehind}
use Rattle.tre_derive.proofs.Held.{Agree-self, Agree-held, exact_as, held_exactly, held_either, held_both, held_lasting, held_composed}
use Rattle.tre_derive.proofs.Standing.{stands_for, stands_built, stands_nothing, stands_preceded, stands_followed, stands_either, stands_both, stands_lasting}

-- ---- the pairs that end at a time or later

module _ (time : ℕ) (R S : Pairs) where
  ending_composed : Agree (Composed R (EndingFrom time S)) (EndingFrom time (Composed R S))
  ending_composed = record {
    at = λ a b n some. (
      (λ h. record {
        related = record {
          factor = h.factor;
          positive = h.positive;
          midpoint = h.midpoint;
          left = h.left;
          right = h.right.related;
        };
        end = le_down h.factor time b n h.positive h.right.end;
      }),
      (λ h. record {
        factor = h.related.factor;
        positive = h.related.positive;
        midpoint = h.related.midpoint;
        left = h.related.left;
        right = record {
          related = h.related.right;
          end = le_up h.related.factor time b n h.end;
        };
      }),
    );
  }

  ending_either : Agree (Either (EndingFrom time R) (EndingFrom time S))
      (EndingFrom time (Either R S))
  ending_either = record {
    at = λ a b n some. (
      (λ h. ⊎_elim
          (λ x. record { related = inl x.related; end = x.end })
          (λ x. record { related = inr x.related; end = x.end })
          h),
      (λ h. ⊎_elim
          (λ x. inl (record { related = x; end = h.end }))
          (λ x. inr (record { related = x; end = h.end }))
          h.related),
    );
  }

  ending_both : Agree (Both (EndingFrom time R) (EndingFrom time S)) (EndingFrom time (Both R S))
  ending_both = record {
    at = λ a b n some. (
      (λ h. record {
        related = record { left = h.left.related; right = h.right.related };
        end = h.left.end;
      }),
      (λ h. record {
        left = record { related = h.related.left; end = h.end };
        right = record { related = h.related.right; end = h.end };
      }),
    );
  }

ending_lasting : (time : ℕ) (D : ℕ → ℕ → Type 0) (R : Pairs)
    → Agree (Lasting D (EndingFrom time R)) (EndingFrom time (Lasting D R))
ending_lasting time D R = record {
  at = λ a b n some. (
    (λ h. record {
      related = record { related = h.related.related; admitted = h.admitted };
      end = h.related.end;
    }),
    (λ h. record {
      related = record { related = h.related.related; end = h.end };
      admitted = h.related.admitted;
    }),
  );
}

-- One after the other, to the cut or behind it: the first ends there or behind it and the second is
-- behind it, or the first ends before it, and both cross.
module _ (cut : ℕ) (M U W X Y : Pairs) (grow : Implies U M) (early : ImpliesBefore cut M U)
    (parts : IsCut cut W X Y) (ordered : IsOrdered M) (rising : IsOrdered W) where
  ending_followed : Agree (Either (Composed (EndingFrom cut M) Y)
      (Crossing cut (Composed (Before cut U) W))) (EndingFrom cut (Composed M W))
  ending_followed = record {
    at = λ a b n some. (
      (λ h. ⊎_elim
          (λ x.
          let k = x.factor in
          let right = parts.behind.at x.midpoint (k * b) (k * n) x.right in
          let from = x.left.end in
          let le = rising.le x.midpoint (k * b) (k * n) right in
          record {
            related = record {
              factor = k;
              positive = x.positive;
              midpoint = x.midpoint;
              left = x.left.related;
              right = right;
            };
            end = le_down k cut b n x.positive (omega (arith, from, le));
          })
          (λ x. record {
            related = record {
              factor = x.related.factor;
              positive = x.related.positive;
              midpoint = x.related.midpoint;
              left = grow.at (x.related.factor * a) x.related.midpoint (x.related.factor * n)
                  x.related.left.related;
              right = x.related.right;
            };
            end = x.end;
          })
          h),
      (λ h.
          let k = h.related.factor in
          let m = h.related.midpoint in
          let finer : 0 < k * n = mul-pos h.related.positive some in
          ⊎_elim
          (λ before.
          let le = ordered.le (k * a) m (k * n) h.related.left in
          inr (record {
            related = record {
              factor = k;
              positive = h.related.positive;
              midpoint = m;
              left = record {
                related = early.at (k * a) m (k * n) before h.related.left;
                early = before;
              };
              right = h.related.right;
            };
            begin = ge_down k cut a n h.related.positive (omega (arith, le, before));
            end = h.end;
          }))
          (λ from. inl (record {
            factor = k;
            positive = h.related.positive;
            midpoint = m;
            left = record { related = h.related.left; end = from };
            right = parts.late.at m (k * b) (k * n) finer from h.related.right;
          }))
          (cases_lt m (cut * (k * n)))),
    );
  }

-- The same pairs, and then the same.
crossing_alike : (cut : ℕ) (R S W : Pairs) → Agree R S
    → Agree (Crossing cut (Composed (Before cut R) W)) (Crossing cut (Composed (Before cut S) W))
crossing_alike cut R S W same =
    let before : Agree (Before cut R) (Before cut S) = record {
      at = λ a b n some.
          let both = same.at a b n some in (
            (λ h. record { related = both.0 h.related; early = h.early }),
            (λ h. record { related = both.1 h.related; early = h.early }),
          );
    } in
    let all = Agree-Composed (Before cut R) (Before cut S) W W before (Agree-self W) in
    record {
      at = λ a b n some.
          let both = all.at a b n some in (
            (λ h. record { related = both.0 h.related; begin = h.begin; end = h.end }),
            (λ h. record { related = both.1 h.related; begin = h.begin; end = h.end }),
          );
    }

module _ (piece : Piece) where
  abbrev time : ℕ
  time = end_of_piece piece

  -- What a residual means where the piece alone comes, and where segments come behind it.
  abbrev Told : ResidualTree → Pairs
  Told residual = Means residual (rest_of_piece piece)

  abbrev Whole : ResidualTree → Timeline → Pairs
  Whole residual v = Means residual (uncut (cut_behind piece v))

  abbrev Left : ResidualTree → Timeline → Pairs
  Left residual v = EndingFrom time (Whole residual v)

  told_agree : (residual : ResidualTree) (told : List ZoneBounds) (rest : ResidualTree)
      → StepsTo residual piece told rest → Agree (Held told) (Told residual)
  told_agree residual told rest steps =
      Agree-held told (Told residual) (IsOrdered-Means (rest_of_piece piece) residual) steps.tells

  -- ---- nothing, and what is here

  pub step_nothing : (told : List ZoneBounds) → told ≡ [] → StepsTo nothing piece told nothing
  step_nothing told none = record {
    tells = record {
      exact = λ a b n some le. (
        (λ h. SetHolds-empty a b n (subst (λ list. SetHolds list a b n) none h)),
        (λ h. absurd h),
      );
    };
    leaves = stands_for piece (λ v a b n. ⊥) (Left nothing) nothing
        (λ v long. record { at = λ a b n some. ((λ h. absurd h), (λ h. h.related)) })
        (stands_nothing piece);
  }

  -- A pair that is here ends as the piece begins, and so before the piece ends.
  ends_early : (zones : List ZoneBounds) → EndAt piece.begin zones → (a b n : ℕ) → 0 < n
      → Held zones a b n → time * n ≤ b → ⊥
  ends_early zones ends a b n some h late =
      let end = ends.ends a b n some h in
      let lasts : piece.begin * n < time * n =
      mul-lt-mul_of_pos_right (let long = piece.long in omega (arith, long)) some in
      omega (arith, end, late, lasts)

  pub step_here : (zones told : List ZoneBounds) → EndAt piece.begin zones → told ≡ zones
      → StepsTo (here zones) piece told nothing
  step_here zones told ends same = record {
    tells = record {
      exact = λ a b n some le. (
        (λ h. record { rising = le; held = subst (λ list. SetHolds list a b n) same h }),
        (λ h. subst (λ list. SetHolds list a b n) (sym same) h.held),
      );
    };
    leaves = stands_for piece (λ v a b n. ⊥) (Left (here zones)) nothing
        (λ v long. record {
          at = λ a b n some. (
            (λ h. absurd h),
            (λ h. ends_early zones ends a b n some h.related h.end),
          );
        })
        (stands_nothing piece);
  }

  -- ---- what is told of a residual ends as the piece begins or later

  pub told_from : (residual : ResidualTree) (told : List ZoneBounds) (rest : ResidualTree)
      → IsWell piece.begin residual → StepsTo residual piece told rest
      → EndsFrom None piece.begin (Held told)
  told_from residual told rest well steps = record {
    from = λ a b n some last h. (ends_around (rest_of_piece piece) residual well a b n some
        ((steps.tells.exact a b n some h.rising).0 h.held)).1;
  }

  -- ---- a set before a residual

  module _ (inner : ResidualTree) (told' : List ZoneBounds) (rest' : ResidualTree)
      (steps : StepsTo inner piece told' rest') where
    pub step_preceded : (zones told : List ZoneBounds) (rest : ResidualTree)
        → IsComposition told zones told' → Builds rest (preceded zones rest')
        → StepsTo (preceded zones inner) piece told rest
    step_preceded zones told rest composed built = record {
      tells = held_exactly told (Told (preceded zones inner))
          (held_composed zones told' told (Held zones) (Told inner) composed
          (Agree-self (Held zones)) (told_agree inner told' rest' steps));
      leaves = stands_for piece (λ v. Composed (Held zones) (Left inner v))
          (Left (preceded zones inner)) rest
          (λ v long. ending_composed time (Held zones) (Whole inner v))
          (stands_built piece (λ v. Composed (Held zones) (Left inner v)) (preceded zones rest')
          rest (stands_preceded piece (Left inner) zones rest' steps.leaves) built);
    }

    -- ---- a match behind a residual

    pub step_followed : (tree : PatternTree) (told : List ZoneBounds) (begun rest : ResidualTree)
        → NumbersBelow NAMES_MAX tree → BeginsBehindPairs tree told' piece told begun
        → ComesBehind rest' tree begun rest → StepsTo (followed inner tree) piece told rest
    step_followed tree told begun rest numbers begins comes =
        let within = MatchesRest tree (rest_of_piece piece) in
        let W : Timeline → Pairs = λ v. MatchesRest tree (uncut (cut_behind piece v)) in
        let F : Timeline → Pairs =
        λ v. Composed (Left inner v) (MatchesBehind tree (cut_behind piece v)) in
        let G : Timeline → Pairs = λ v. Crossing time (Composed (Before time (Held told')) (W v)) in
        let same = told_agree inner told' rest' steps in
        record {
          tells = exact_as told (Composed (Held told') within) (Told (followed inner tree))
              begins.tells
              (Agree-Composed (Held told') (Told inner) within within same (Agree-self within));
          leaves = stands_for piece (λ v. Either (F v) (G v)) (Left (followed inner tree)) rest
              (λ v long. Agree-trans (Either (F v) (G v))
              (Either (F v) (Crossing time (Composed (Before time (Told inner)) (W v))))
              (Left (followed inner tree) v)
              (Agree-Either (F v) (F v) (G v)
              (Crossing time (Composed (Before time (Told inner)) (W v)))
              (Agree-self (F v))
              (crossing_alike time (Held told') (Told inner) (W v) same))
              (ending_followed time (Whole inner v) (Told inner) (W v) within
              (MatchesBehind tree (cut_behind piece v))
              (Means-grow (cut_behind piece v) inner) (Means-early (cut_behind piece v) inner)
              (IsCut-Matches (cut_behind piece v) (piece.long, tt) tree)
              (IsOrdered-Means (uncut (cut_behind piece v)) inner)
              (IsOrdered-rest tree (uncut (cut_behind piece v)))))
              (stands_built piece (λ v. Either (F v) (G v)) (either comes.behind begun) rest
              (stands_either piece F G comes.behind begun
              (stands_built piece F (followed rest' tree) comes.behind
              (stands_followed piece (Left inner) rest' tree numbers steps.leaves) comes.follows)
              begins.leaves)
              comes.builds);
        }

    -- ---- a residual with its duration in an interval

    pub step_lasting : (ends : IntervalEnds) (told : List ZoneBounds) (rest : ResidualTree)
        → HoldExactly told (Lasting (LastsWithin ends) (SetHolds told'))
        → Builds rest (lasting rest' ends) → StepsTo (lasting inner ends) piece told rest
    step_lasting ends told rest held built =
        let D = LastsWithin ends in
        let F : Timeline → Pairs = λ v. Lasting D (Left inner v) in
        record {
          tells = held_exactly told (Told (lasting inner ends))
              (Agree-trans (Held told) (Lasting D (Held told')) (Lasting D (Told inner))
              (held_lasting D told' told held)
              (Agree-Lasting D (Held told') (Told inner) (told_agree inner told' rest' steps)));
          leaves = stands_for piece F (Left (lasting inner ends)) rest
              (λ v long. ending_lasting time D (Whole inner v))
              (stands_built piece F (lasting rest' ends) rest
              (stands_lasting piece (Left inner) rest' ends steps.leaves) built);
        }

  -- ---- two residuals

  module _ (one other : ResidualTree) (told_one told_other : List ZoneBounds)
      (rest_one rest_other : ResidualTree) (first : StepsTo one piece told_one rest_one)
      (second : StepsTo other piece told_other rest_other) (told : List ZoneBounds)
      (rest : ResidualTree) where
    pub step_either : HoldExactly told (Either (SetHolds told_one) (SetHolds told_other))
        → Builds rest (either rest_one rest_other) → StepsTo (either one other) piece told rest
    step_either held built =
        let F : Timeline → Pairs = λ v. Either (Left one v) (Left other v) in
        record {
          tells = held_exactly told (Told (either one other))
              (Agree-trans (Held told) (Either (Held told_one) (Held told_other))
              (Either (Told one) (Told other)) (held_either told_one told_other told held)
              (Agree-Either (Held told_one) (Told one) (Held told_other) (Told other)
              (told_agree one told_one rest_one first)
              (told_agree other told_other rest_other second)));
          leaves = stands_for piece F (Left (either one other)) rest
              (λ v long. ending_either time (Whole one v) (Whole other v))
              (stands_built piece F (either rest_one rest_other) rest
              (stands_either piece (Left one) (Left other) rest_one rest_other first.leaves
              second.leaves)
              built);
        }

    pub step_both : HoldExactly told (Both (SetHolds told_one) (SetHolds told_other))
        → Builds rest (both rest_one rest_other) → StepsTo (both one other) piece told rest
    step_both held built =
        let F : Timeline → Pairs = λ v. Both (Left one v) (Left other v) in
        record {
          tells = held_exactly told (Told (both one other))
              (Agree-trans (Held told) (Both (Held told_one) (Held told_other))
              (Both (Told one) (Told other)) (held_both told_one told_other told held)
              (Agree-Both (Held told_one) (Told one) (Held told_other) (Told other)
              (told_agree one told_one rest_one first)
              (told_agree other told_other rest_other second)));
          leaves = stands_for piece F (Left (both one other)) rest
              (λ v long. ending_both time (Whole one v) (Whole other v))
              (stands_built piece F (both rest_one rest_other) rest
              (stands_both piece (Left one) (Left other) rest_one rest_other first.leaves
              second.leaves)
              built);
        }
