-- What a literal tells over a piece.
use Rattle.std.proofs.Common.{◌∙◌, ℕ, ◌*◌, ◌<◌, List, [], inl, inr, ⊎_elim, arith, refl, sym, subst}
use Rattle.std.proofs.Math.Nat.{mul-le-mul_left, mul-lt-mul_of_pos_right, le_of_mul-le-mul_left}
use Rattle.std.proofs.lemmas.Bool.{cases_lt, false≢true}
use Rattle.std.specs.Prelude.{All}
use Rattle.std.proofs.lemmas.List.Elements.{All-nil}
use Rattle.tre_pairs.specs.Cuts.{JoinedAt}
use Rattle.tre_pairs.proofs.Laws.{Agree, Scales}
use Rattle.tre_pairs.proofs.SameLaws.{same_agree}
use Rattle.tre_pairs.proofs.Ticks.{eq_up, eq_down, ge_up, ge_down}
use Rattle.tre_zone.specs.Held.{Held}
use Rattle.tre_zone.specs.Longest.{LastsUpTo}
use Rattle.tre_zone.specs.Zone.{IsInSpan, IsOnward}
use Rattle.tre_zone.specs.declared.zone_bounds.ZoneBounds.{ZoneBounds}
use Rattle.tre_zone.proofs.HeldSets.{Held-empty}
use Rattle.tre_state.specs.StateTree as states
use Rattle.tre_state.specs.StateTree.{StateTree}
use Rattle.tre_syntax.specs.Meaning.{MatchesRest}
use Rattle.tre_syntax.specs.PatternTree.{PatternTree, literal, atom}
use Rattle.tre_edges.specs.Piece.{end_of_piece}
use Rattle.tre_edges.specs.declared.piece.Piece.{Piece}
use Rattle.tre_mark.specs.MarkTree.{MarkTree, atom_mark}
use Rattle.tre_mark.specs.Marked.{Marked}
use Rattle.tre_mark.proofs.Agreeing.{agree_sym, agree_then, joined_composed}
use Rattle.tre_forms.specs.Dull.{None}
use Rattle.tre_forms.specs.Enters.{alone, Enters}
use Rattle.tre_forms.proofs.Idle.{dull_literal}
use Rattle.tre_node.specs.declared.node.Around.{Around}
use Rattle.tre_node.specs.declared.node.Stretch.{Stretch}
use Rattle.tre_node.specs.IsNode.{IsStretch}
use Rattle.tre_node.specs.NodeTree.{begun_at}
use Rattle.tre_node.specs.Telling.{EndsBegun, HoldsBegun, LiteralLooks}
use Rattle.tre_node.proofs.BegunAt.{begin_before, begun_end, begun_later, held_begun, stretches_later}
use Rattle.tre_node.proofs.SetsOf.{set_agrees}

Scales-onward : (from to : ℕ) → Scales (IsOnward from to)
Scales-onward from to = record {
  up = λ k a b n pos h.
      let rising = h.rising in
      record {
        starts = eq_up k from a n h.starts;
        rising = mul-le-mul_left k rising;
        ends = ge_up k to b n h.ends;
      };
  down = λ k a b n pos h. record {
    starts = eq_down k from a n pos h.starts;
    rising = le_of_mul-le-mul_left h.rising pos;
    ends = ge_down k to b n pos h.ends;
  };
}

module _ (piece : Piece) (state : StateTree) (begun : List Stretch)
    (are : All (IsStretch piece.begin) begun) where
  abbrev T : ℕ
  T = piece.begin

  abbrev T' : ℕ
  T' = end_of_piece piece

  abbrev B : List ZoneBounds
  B = begun_at T begun

  abbrev tree : PatternTree
  tree = atom (literal state)

  abbrev mark : MarkTree
  mark = atom_mark [] B

  some_piece : (n : ℕ) → 0 < n → T * n < T' * n
  some_piece n some = let long = piece.long in mul-lt-mul_of_pos_right (omega (arith, long)) some

  held_early : (a n : ℕ) → 0 < n → Held B a (T * n) n → a < T * n
  held_early a n some h =
      begin_before T begun are a n some ((held_begun T begun a (T * n) n h.rising).0 h).0

  -- It holds throughout the piece.
  module _ (holds : states.HoldsOn state piece.segment.val) where
    spans : (a b n : ℕ) → IsInSpan T T' a b n → MatchesRest tree (alone piece) a b n
    spans a b n h = record {
      begin = h.starts;
      some_time = h.lasts;
      end = h.ends;
      throughout = (λ _ _. holds, tt);
    }

    onward_goes : Agree (JoinedAt T (Held B) (IsOnward T T')) (Marked (alone piece) mark tree)
    onward_goes = record {
      at = λ a b n some. (
        (λ h. inr (record {
          left = h.left;
          right = ⊎_elim
              (λ late. inr (spans (T * n) b n
              (record { starts = omega arith; lasts = late; ends = h.right.ends })))
              (λ early. let rising = h.right.rising in
              inl (record { begin = refl; end = omega (arith, rising, early) }))
              (cases_lt (T * n) b);
        })),
        (λ h. ⊎_elim (λ y. absurd (Held-empty a (T * n) n y.left))
            (λ y. record {
              left = y.left;
              right = ⊎_elim
                  (λ z.
                  let end = z.end in
                  let up = some_piece n some in
                  record {
                    starts = refl;
                    rising = omega (arith, end);
                    ends = omega (arith, end, up);
                  })
                  (λ z.
                  let lasts = z.some_time in
                  record { starts = refl; rising = omega (arith, lasts); ends = z.end })
                  y.right;
            }) h),
      );
    }

    pub literal_on : {around around' : Around} {begun' : List Stretch}
        → HoldsBegun piece around around' begun begun'
        → LiteralLooks piece state around around' begun begun'
    literal_on {around} {around'} {begun'} h = record {
      made = h.made;
      tells = record {
        inside = record {
          pairs = λ a b n some. (
            (λ x. spans a b n ((h.found.pairs a b n some).0 x)),
            (λ x. (h.found.pairs a b n some).1
                (record { starts = x.begin; lasts = x.some_time; ends = x.end })),
          );
        };
        ended = same_agree (LastsUpTo around.longest) (Held around'.ended.items)
            (Marked (alone piece) mark tree)
            (agree_then (set_agrees h.told)
            (agree_then (agree_sym (joined_composed T B (IsOnward T T') (begun_end T begun)
            (Scales-onward T T'))) onward_goes));
        dull = λ off. absurd (false≢true (sym off ∙ h.on));
        began = λ next a b n some x. ⊎_elim (λ y. absurd (Held-empty a (T * n) n y.left))
            (λ y. held_early a n some y.left) x;
      };
      on = record {
        holds = λ lives. record {
          holds = λ c n some from early.
              spans c (T' * n) n (record { starts = from; lasts = early; ends = omega arith });
        };
        goes = λ lives. record {
          at = λ a n some short.
              let same = begun_later T T' begun (omega arith) are a n some in
              let cut = h.cut.same a n some short in (
                (λ x. inl (same.0 ((held_begun T' begun a (T' * n) n x.rising).1
                    (cut.0 ((held_begun T' begun' a (T' * n) n x.rising).0 x).0, refl)))),
                (λ x. ⊎_elim
                    (λ y.
                    let z = same.1 y in
                    (held_begun T' begun' a (T' * n) n z.rising).1
                    (cut.1 ((held_begun T' begun a (T' * n) n z.rising).0 z).0, refl))
                    (λ y. absurd y.pair.related) x),
              );
        };
        ends = λ off. absurd (false≢true (sym off ∙ h.on));
      };
      are = h.cut.are T' (stretches_later T T' begun (omega arith) are);
      idle = h.idle;
    }

  -- It doesn't hold in the piece.
  module _ (fails : states.HoldsOn state piece.segment.val → ⊥) where
    never : (a b n : ℕ) → 0 < n → MatchesRest tree (alone piece) a b n → ⊥
    never a b n some h =
        let begin = h.begin in
        let lasts = h.some_time in
        let end = h.end in
        fails (h.throughout.0 (omega (arith, begin, lasts)) (omega (arith, lasts, end)))

    pub literal_off : {around around' : Around} {begun' : List Stretch}
        → EndsBegun T around around' begun begun'
        → LiteralLooks piece state around around' begun begun'
    literal_off {around} {around'} {begun'} h = record {
      made = h.made;
      tells = record {
        inside = record {
          pairs = λ a b n some. (
            (λ x. absurd (Held-empty a b n (subst (λ (z : List ZoneBounds). Held z a b n) h.found x))),
            (λ x. absurd (never a b n some x)),
          );
        };
        ended = record {
          at = λ a b n some short. (
            (λ x.
                let y = subst (λ (z : List ZoneBounds). Held z a b n) h.told x in
                let end = (begun_end T begun).ends a b n some y in
                inr (record {
                  left = subst (λ t. Held B a t n) end y;
                  right = inl (record { begin = refl; end = end });
                })),
            (λ x. ⊎_elim (λ y. absurd (Held-empty a (T * n) n y.left))
                (λ y. ⊎_elim
                (λ z. subst (λ (list : List ZoneBounds). Held list a b n) (sym h.told)
                (subst (λ t. Held B a t n) (sym z.end) y.left))
                (λ z. absurd (never (T * n) b n some z)) y.right) x),
          );
        };
        dull = λ off. dull_literal piece state (λ c n some early x. never c (T' * n) n some x);
        began = λ next a b n some x. ⊎_elim (λ y. absurd (Held-empty a (T * n) n y.left))
            (λ y. held_early a n some y.left) x;
      };
      on = record {
        holds = λ lives. absurd (false≢true (sym h.off ∙ lives));
        goes = λ lives. absurd (false≢true (sym h.off ∙ lives));
        ends = λ off. subst (λ (s : List Stretch). Enters around.longest piece mark tree None
            (atom_mark [] (begun_at T' s))) (sym h.none) (record {
              leaves = λ next long. record {
                at = λ a b n some short. (
                  (λ x. ⊎_elim (λ y. absurd (Held-empty a (T' * n) n y.left))
                      (λ y. absurd (Held-empty a (T' * n) n y.left)) x),
                  (λ c. ⊎_elim
                      (λ x. ⊎_elim (λ y. absurd (Held-empty a (T * n) n y.left))
                      (λ y.
                      let up = some_piece n some in
                      let late = c.end in
                      ⊎_elim
                      (λ z. let end = z.end in absurd (omega (arith, end, late, up)))
                      (λ z. absurd (fails (z.throughout.0 (omega (arith, late, up)) up))) y.right) x)
                      (λ e. absurd e.left.related) c.related),
                );
              };
            });
      };
      are = subst (λ (s : List Stretch). All (IsStretch T') s) (sym h.none) (All-nil (IsStretch T'));
      idle = λ off. h.none;
    }
