-- What a pattern under way that goes over a piece tells and leaves, and so what is fresh there.
use Rattle.std.proofs.Common.{◌≡◌, ◌∙◌, ℕ, ◌*◌, ◌-◌, ◌<◌, ◌≤◌, ◌↔◌, Bool, true, List, [], ◌∷◌, Option, None, refl, sym, inl, inr, ⊎_elim, subst, arith}
use Rattle.std.proofs.lemmas.Bool.{cases_lt}
use Rattle.std.proofs.Math.Nat.{mul_left_comm, mul-le-mul_right, mul-lt-mul_of_pos_right, mul-pos}
use Rattle.tre_pairs.specs.Before.{Before}
use Rattle.tre_pairs.specs.Cuts.{Crossing, JoinedAt}
use Rattle.tre_pairs.specs.Pairs.{Pairs, Composed, Either, Both}
use Rattle.tre_pairs.proofs.Agreement.{Agree-Composed, Agree-Either}
use Rattle.tre_pairs.proofs.Chains.{Composed-at}
use Rattle.tre_pairs.proofs.Laws.{Agree, IsInstant, Scales}
use Rattle.tre_pairs.proofs.Scaling.{moved}
use Rattle.tre_zone.specs.Held.{Held}
use Rattle.tre_zone.specs.Longest.{LastsUpTo}
use Rattle.tre_zone.specs.Zone.{EndsAt, IsInstantBetween, instants_of}
use Rattle.tre_zone.specs.ZoneList.{SetHolds, HoldExactly}
use Rattle.tre_zone.specs.declared.zone_bounds.ZoneBounds.{ZoneBounds}
use Rattle.tre_zone.proofs.HeldSets.{Held-empty, Scales-Held}
use Rattle.tre_trace.specs.Trace.{Timeline, quiet, AreLong}
use Rattle.tre_syntax.specs.Cut.{uncut, MatchesBehind, MatchesAcross}
use Rattle.tre_syntax.specs.Meaning.{MatchesRest}
use Rattle.tre_syntax.specs.PatternTree.{PatternTree}
use Rattle.tre_syntax.specs.Rest.{Rest, rest_of}
use Rattle.tre_syntax.proofs.CutMeaning.{IsBounded-rest, IsCut-Matches, IsOrdered-rest, Scales-rest}
use Rattle.tre_edges.specs.Piece.{rest_of_piece, end_of_piece, cut_behind}
use Rattle.tre_edges.specs.declared.piece.Piece.{Piece}
use Rattle.tre_mark.specs.MarkTree.{MarkTree}
use Rattle.tre_mark.specs.Marked.{Marked}
use Rattle.tre_mark.proofs.Meanings.{around_present}
use Rattle.tre_forms.specs.Begun.{EndsFrom}
use Rattle.tre_forms.specs.Enters.{alone, behind, Enters, Goes, GoesAlone}
use Rattle.tre_node.specs.Copying.{IsCopy}
use Rattle.tre_node.specs.HasEntered.{MayEnter}
use Rattle.tre_node.specs.IsNode.{IsMade, IsNew}
use Rattle.tre_node.specs.Looked.{Tells}
use Rattle.tre_node.specs.NodeTree.{around_of, mark_of_node, tree_of_node}
use Rattle.tre_node.specs.declared.node.Around.{Around}
use Rattle.tre_node.specs.declared.node.Node.{Node}
use Rattle.tre_node.proofs.Instances.{held_moments}
use Rattle.tre_node.proofs.Parts.{looked_tells}
use Rattle.tre_residual.specs.Residual.{ResidualTree, IsRoot, joined, either, marked, Means, Builds}
use Rattle.tre_derive.specs.Derivative.{EndingFrom, IsFresh, StepsTo, GoesOverTo, BeginsBehindPairs, BeginsToo, TellsAsSet}
use Rattle.tre_derive.proofs.Held.{exact_as}
use Rattle.tre_derive.proofs.Standing.{stands_of, stands_for, stands_built, stands_either}

-- ---- what may enter

pub moments_from : (from to : ℕ) → EndsFrom None from (Held (instants_of from to ∷ []))
moments_from from to = record {
  from = λ a b n some last h.
      let is = (held_moments from to a b n some).0 h in
      let starts = is.starts in
      let rising = h.rising in
      omega (arith, starts, rising);
}

pub ending_from : (time : ℕ) (all ending : List ZoneBounds)
    → HoldExactly ending (Both (SetHolds all) (EndsAt time)) → EndsFrom None time (Held ending)
ending_from time all ending held = record {
  from = λ a b n some last h.
      let end = ((held.exact a b n some h.rising).0 h.held).right.ends in
      omega (arith, end);
}

pub may_enter : (time : ℕ) (around : Around) (whole : Bool) (E : Pairs) → IsMade None whole around
    → EndsFrom None time E → (whole ≡ true → IsInstant E) → MayEnter time around E
may_enter time around whole E made from moments = record {
  from = subst (λ (z : Option ℕ). EndsFrom z time E) (sym made.counts) from;
  moments = λ w. moments (sym made.enters ∙ w);
}

pub may_none : (time : ℕ) (node : Node) → MayEnter time (around_of node) (Held [])
may_none time node = record {
  from = record { from = λ a b n some last h. absurd (Held-empty a b n h) };
  moments = λ w. record { same = λ a b n h. absurd (Held-empty a b n h) };
}

-- All durations count.
all_last : (longest : Option ℕ) → longest ≡ None → (d n : ℕ) → LastsUpTo longest d n
all_last longest none d n =
    subst (λ (z : Option ℕ). LastsUpTo z d n) (sym none) (record { within = tt })

module _ (piece : Piece) where
  abbrev time : ℕ
  time = end_of_piece piece

  -- What comes from the begin of the piece on.
  abbrev From : Timeline → Rest
  From v = uncut (cut_behind piece v)

  begin_early : (n : ℕ) → piece.begin * n ≤ time * n
  begin_early n = mul-le-mul_right n (let e : piece.begin ≤ time = omega arith in e)

  begin_before : (n : ℕ) → 0 < n → piece.begin * n < time * n
  begin_before n some =
      mul-lt-mul_of_pos_right (let long = piece.long in omega (arith, long)) some

  -- Where two residuals stand for the same pairs as the piece begins, what one does the other does.
  pub steps_alike : (one other : ResidualTree)
      → ((v : Timeline) (a b n : ℕ) → 0 < n
      → Means one (rest_of piece.begin piece.before v) a b n
      ↔ Means other (rest_of piece.begin piece.before v) a b n)
      → (told : List ZoneBounds) (rest : ResidualTree) → StepsTo one piece told rest
      → StepsTo other piece told rest
  steps_alike one other same told rest steps = record {
    tells = record {
      exact = λ a b n some le.
          let tells = steps.tells.exact a b n some le in
          let alike = same (quiet (piece.segment ∷ [])) a b n some in
          ((λ h. alike.0 (tells.0 h)), (λ h. tells.1 (alike.1 h)));
    };
    leaves = stands_for piece (λ v. EndingFrom time (Means one (From v)))
        (λ v. EndingFrom time (Means other (From v))) rest
        (λ v long. record {
          at = λ a b n some.
              let alike = same (record { segments = piece.segment ∷ v.segments; last = v.last })
              a b n some in (
                (λ h. record { related = alike.0 h.related; end = h.end }),
                (λ h. record { related = alike.1 h.related; end = h.end }),
              );
        })
        steps.leaves;
  }

  -- ---- a pattern under way

  module _ (node : Node) (enter told : List ZoneBounds) (after : Node)
      (root : IsRoot piece.begin node) (may : MayEnter piece.begin (around_of node) (Held enter))
      (h : TellsAsSet node enter piece told after) where
    abbrev mark : MarkTree
    mark = mark_of_node piece.begin node

    abbrev kept : PatternTree
    kept = tree_of_node h.looked

    found : Tells piece mark kept (around_of h.looked)
    found = looked_tells piece mark h.looked h.looks.looked

    counts : (around_of h.looked).longest ≡ None
    counts = h.looks.made.counts ∙ root.counts

    told_agree : Agree (Either (Held (around_of h.looked).ended.items)
        (Composed (Held enter) (Held (around_of h.looked).inside.items)))
        (GoesAlone piece mark kept (Held enter))
    told_agree = Agree-Either (Held (around_of h.looked).ended.items)
        (Marked (alone piece) mark kept)
        (Composed (Held enter) (Held (around_of h.looked).inside.items))
        (Composed (Held enter) (MatchesRest kept (alone piece)))
        (record {
          at = λ a b n some. found.ended.at a b n some
              (all_last (around_of h.looked).longest counts (b - a) n);
        })
        (Agree-Composed (Held enter) (Held enter) (Held (around_of h.looked).inside.items)
        (MatchesRest kept (alone piece))
        (record { at = λ a b n some. ((λ x. x), (λ x. x)) })
        (record { at = found.inside.pairs }))

    told_exact : HoldExactly told (GoesAlone piece mark (tree_of_node node) (Held enter))
    told_exact = subst (λ (t : PatternTree). HoldExactly told (GoesAlone piece mark t (Held enter)))
        h.looks.tree
        (exact_as told (Either (Held (around_of h.looked).ended.items)
        (Composed (Held enter) (Held (around_of h.looked).inside.items)))
        (GoesAlone piece mark kept (Held enter)) h.holds told_agree)

    may_looked : MayEnter piece.begin (around_of h.looked) (Held enter)
    may_looked = record {
      from = subst (λ (z : Option ℕ). EndsFrom z piece.begin (Held enter))
          (sym h.looks.made.counts) may.from;
      moments = λ w. may.moments (sym h.looks.made.enters ∙ w);
    }

    goes : Enters (around_of h.looked).longest piece mark kept (Held enter)
        (mark_of_node time after)
    goes = h.entered.goes mark h.looks.looked may_looked

    abbrev Left : PatternTree → Timeline → Pairs
    Left t v = Crossing time (Goes piece v mark t (Before time (Held enter)))

    left_agree : (v : Timeline) → AreLong v.segments
        → Agree (Marked (behind piece v) (mark_of_node time after) (tree_of_node after))
        (Left (tree_of_node node) v)
    left_agree v long =
        subst (λ (t : PatternTree). Agree
        (Marked (behind piece v) (mark_of_node time after) (tree_of_node after)) (Left t v))
        h.looks.tree
        (subst (λ (t : PatternTree). Agree
        (Marked (behind piece v) (mark_of_node time after) t) (Left kept v))
        (sym h.entered.tree)
        (record {
          at = λ a b n some. (goes.leaves v long).at a b n some
              (all_last (around_of h.looked).longest counts (b - a) n);
        }))

    root_after : IsRoot time after
    root_after = record {
      node_is = h.entered.node h.looks.node;
      counts = h.entered.made.counts ∙ counts;
    }

    -- What is told as a set and left as a residual.
    pub goes_over : (whole : ResidualTree) → Builds whole (marked after)
        → GoesOverTo node enter piece told whole
    goes_over whole built = record {
      tells = told_exact;
      leaves = stands_built piece (Left (tree_of_node node)) (marked after) whole
          (stands_of piece (Left (tree_of_node node)) (marked after)
          (λ v long. left_agree v long) root_after)
          built;
    }

  -- A copy stands for the same.
  pub copy_alike : (node copy : Node) → IsCopy node copy → (rest : Rest) (a b n : ℕ)
      → Means (marked copy) rest a b n ↔ Means (marked node) rest a b n
  copy_alike node copy same rest a b n =
      let P = λ (m : MarkTree) (t : PatternTree). Marked rest m t a b n in (
        (λ h. subst (λ (m : MarkTree). P m (tree_of_node node)) (same.mark rest.start)
            (subst (λ (t : PatternTree). P (mark_of_node rest.start copy) t) same.tree h)),
        (λ h. subst (λ (m : MarkTree). P m (tree_of_node copy)) (sym (same.mark rest.start))
            (subst (λ (t : PatternTree). P (mark_of_node rest.start node) t) (sym same.tree) h)),
      )

  pub copy_root : (node copy : Node) → IsCopy node copy → IsRoot piece.begin node
      → IsRoot piece.begin copy
  copy_root node copy same root = record {
    node_is = same.node_is piece.begin root.node_is;
    counts = same.like.made.counts ∙ root.counts;
  }

  module _ (node : Node) (told : List ZoneBounds) (rest : ResidualTree) where
    abbrev begun : MarkTree
    begun = mark_of_node piece.begin node

    abbrev inner : PatternTree
    inner = tree_of_node node

    alone_same : (cut : ℕ) (v : Timeline) (a b n : ℕ)
        → Goes piece v begun inner (Before cut (Held [])) a b n ↔ Marked (From v) begun inner a b n
    alone_same cut v a b n = (
      (λ h. ⊎_elim (λ x. x)
          (λ y. absurd (Held-empty (y.factor * a) y.midpoint (y.factor * n) y.left.related)) h),
      (λ h. inl h),
    )

    -- Where nothing enters, what ends as the piece ends or later crosses its end.
    pub goes_alone : GoesOverTo node [] piece told rest → StepsTo (marked node) piece told rest
    goes_alone goes = record {
      tells = record {
        exact = λ a b n some le.
            let tells = goes.tells.exact a b n some le in (
              (λ h. ⊎_elim (λ x. x)
                  (λ y. absurd (Held-empty (y.factor * a) y.midpoint (y.factor * n) y.left))
                  (tells.0 h)),
              (λ h. tells.1 (inl h)),
            );
      };
      leaves = stands_for piece
          (λ v. Crossing time (Goes piece v begun inner (Before time (Held []))))
          (λ v. EndingFrom time (Means (marked node) (From v))) rest
          (λ v long. record {
            at = λ a b n some.
                let same = alone_same time v a b n in (
                  (λ h. record { related = same.0 h.related; end = h.end }),
                  (λ h.
                      let early = begin_early n in
                      let begin = (around_present (From v) begun inner a b n h.related).0 in
                      record {
                        related = same.1 h.related;
                        begin = omega (arith, early, begin);
                        end = h.end;
                      }),
                );
          })
          goes.leaves;
    }

    -- ---- what begins in the piece

    pub begins_of : (tree : PatternTree) (whole : Bool) (enter : List ZoneBounds)
        → IsNew tree None whole node → GoesOverTo node enter piece told rest
        → BeginsBehindPairs tree enter piece told rest
    begins_of tree whole enter is goes =
        let never = is.unbegun.nothing piece.begin in
        subst (λ (t : PatternTree). BeginsBehindPairs t enter piece told rest) is.tree_is
        (record {
          tells = record {
            exact = λ a b n some le.
                let tells = goes.tells.exact a b n some le in (
                  (λ h. ⊎_elim (λ x. absurd (never.never inner (alone piece) a b n x)) (λ y. y)
                      (tells.0 h)),
                  (λ h. tells.1 (inr h)),
                );
          };
          leaves = stands_for piece
              (λ v. Crossing time (Goes piece v begun inner (Before time (Held enter))))
              (λ v. Crossing time
              (Composed (Before time (Held enter)) (MatchesRest inner (From v)))) rest
              (λ v long. record {
                at = λ a b n some. (
                  (λ h. record {
                    related = ⊎_elim (λ x. absurd (never.never inner (From v) a b n x)) (λ y. y)
                        h.related;
                    begin = h.begin;
                    end = h.end;
                  }),
                  (λ h. record { related = inr h.related; begin = h.begin; end = h.end }),
                );
              })
              goes.leaves;
        })

  -- ---- a set that a match goes on

  module _ (tree : PatternTree) (begun ending told : List ZoneBounds) (rest : ResidualTree)
      (ends : Agree (Held ending) (Both (Held begun) (EndsAt piece.begin))) where
    -- A match behind pairs that end as the piece begins.
    joined_of : (R : Pairs) → Scales R → (a b n : ℕ) → 0 < n → Composed (Held ending) R a b n
        → JoinedAt piece.begin (Held begun) R a b n
    joined_of R scales a b n some h =
        let k = h.factor in
        let finer = mul-pos h.positive some in
        let both = (ends.at (k * a) h.midpoint (k * n) finer).0 h.left in
        let at = both.right.ends ∙ mul_left_comm piece.begin k n in
        record {
          left = (Scales-Held begun).down k a (piece.begin * n) n h.positive
              (moved (Held begun) refl at refl both.left);
          right = scales.down k (piece.begin * n) b n h.positive (moved R at refl refl h.right);
        }

    ending_at : (R : Pairs) (a b n : ℕ) → 0 < n → JoinedAt piece.begin (Held begun) R a b n
        → Held ending a (piece.begin * n) n
    ending_at R a b n some h =
        (ends.at a (piece.begin * n) n some).1
        (record { left = h.left; right = record { ends = refl } })

    pub step_begun : BeginsBehindPairs tree ending piece told rest
        → StepsTo (joined begun tree) piece told rest
    step_begun begins = record {
      tells = exact_as told (Composed (Held ending) (MatchesRest tree (rest_of_piece piece)))
          (Means (joined begun tree) (rest_of_piece piece)) begins.tells
          (record {
            at = λ a b n some. (
              joined_of (MatchesRest tree (rest_of_piece piece))
                  (Scales-rest tree (rest_of_piece piece)) a b n some,
              (λ h. Composed-at (Held ending) (MatchesRest tree (rest_of_piece piece)) a
                  (piece.begin * n) b n
                  (ending_at (MatchesRest tree (rest_of_piece piece)) a b n some h) h.right),
            );
          });
      leaves = stands_for piece
          (λ v. Crossing time
          (Composed (Before time (Held ending)) (MatchesRest tree (From v))))
          (λ v. EndingFrom time (Means (joined begun tree) (From v))) rest
          (λ v long. record {
            at = λ a b n some. (
              (λ h. record {
                related = joined_of (MatchesRest tree (From v)) (Scales-rest tree (From v)) a b n
                    some (record {
                      factor = h.related.factor;
                      positive = h.related.positive;
                      midpoint = h.related.midpoint;
                      left = h.related.left.related;
                      right = h.related.right;
                    });
                end = h.end;
              }),
              (λ h.
                  let held = ending_at (MatchesRest tree (From v)) a b n some h.related in
                  let rising = held.rising in
                  let early = begin_early n in
                  record {
                    related = Composed-at (Before time (Held ending)) (MatchesRest tree (From v)) a
                        (piece.begin * n) b n
                        (record { related = held; early = begin_before n some }) h.related.right;
                    begin = omega (arith, rising, early);
                    end = h.end;
                  }),
            );
          })
          begins.leaves;
    }

  -- ---- what is fresh

  module _ (tree : PatternTree) (told : List ZoneBounds) (left whole : ResidualTree) where
    abbrev moments : List ZoneBounds
    moments = instants_of piece.begin time ∷ []

    abbrev Begun : Timeline → Pairs
    Begun v = Crossing time (Composed (Before time (Held moments)) (MatchesRest tree (From v)))

    -- A match that comes behind a moment is a match.
    entered : (v : Timeline) (a b n : ℕ) → 0 < n
        → Composed (Before time (Held moments)) (MatchesRest tree (From v)) a b n
        → MatchesRest tree (From v) a b n
    entered v a b n some h =
        let k = h.factor in
        let is = (held_moments piece.begin time (k * a) h.midpoint (k * n)
        (mul-pos h.positive some)).0 h.left.related in
        (Scales-rest tree (From v)).down k a b n h.positive
        (subst (λ (x : ℕ). MatchesRest tree (From v) x (k * b) (k * n)) (sym is.same) h.right)

    -- A match that begins in the piece, and not as it ends, begins at one of its moments.
    enters : (v : Timeline) (a b n : ℕ) → 0 < n → a < time * n → MatchesRest tree (From v) a b n
        → Composed (Before time (Held moments)) (MatchesRest tree (From v)) a b n
    enters v a b n some early h =
        let from = (IsBounded-rest tree (From v)).begin a b n h in
        Composed-at (Before time (Held moments)) (MatchesRest tree (From v)) a a b n
        (record {
          related = (held_moments piece.begin time a a n some).1
              (record { starts = from; same = refl; ends = omega (arith, early) });
          early = early;
        }) h

    module _ (moment : List ZoneBounds) (is : HoldExactly moment (IsInstantBetween time time)) where
      abbrev Begins : Timeline → Pairs
      Begins v = JoinedAt time (Held moment) (MatchesBehind tree (cut_behind piece v))

      across_agree : (v : Timeline) → Agree (Either (Begun v) (Begins v))
          (MatchesAcross tree (cut_behind piece v))
      across_agree v =
          let parts = IsCut-Matches (cut_behind piece v) (piece.long, tt) tree in
          record {
            at = λ a b n some. (
              (λ h. ⊎_elim
                  (λ x. record {
                    related = entered v a b n some x.related;
                    begin = x.begin;
                    end = x.end;
                  })
                  (λ y.
                  let at = ((is.exact a (time * n) n some y.left.rising).0 y.left.held).same in
                  let match = parts.behind.at (time * n) b n y.right in
                  record {
                    related = moved (MatchesRest tree (From v)) (sym at) refl refl match;
                    begin = omega (arith, at);
                    end = (IsOrdered-rest tree (From v)).le (time * n) b n match;
                  })
                  h),
              (λ h.
                  let begin = h.begin in
                  ⊎_elim
                  (λ early. inl (record {
                    related = enters v a b n some early h.related;
                    begin = h.begin;
                    end = h.end;
                  }))
                  (λ late.
                  let at : a ≡ time * n = omega (arith, begin, late) in
                  inr (record {
                    left = record {
                      rising = begin;
                      held = (is.exact a (time * n) n some begin).1
                          (record { starts = late; same = at; ends = omega arith });
                    };
                    right = parts.late.at (time * n) b n some (omega arith)
                        (moved (MatchesRest tree (From v)) at refl refl h.related);
                  }))
                  (cases_lt a (time * n))),
            );
          }

    pub fresh_of : BeginsBehindPairs tree moments piece told left → BeginsToo left tree time whole
        → IsFresh tree piece whole
    fresh_of begins too =
        let moment = too.begins.moment in
        let is = too.begins.is in
        record {
          across = stands_for piece (λ v. Either (Begun v) (Begins moment is v))
              (λ v. MatchesAcross tree (cut_behind piece v)) whole
              (λ v long. across_agree moment is v)
              (stands_built piece (λ v. Either (Begun v) (Begins moment is v))
              (either left too.beginning) whole
              (stands_either piece Begun (Begins moment is) left too.beginning begins.leaves
              (stands_built piece (Begins moment is) (joined moment tree) too.beginning
              (stands_of piece (Begins moment is) (joined moment tree)
              (λ v long. record { at = λ a b n some. ((λ h. h), (λ h. h)) })
              too.begins.numbers)
              too.begins.builds))
              too.builds);
        }
