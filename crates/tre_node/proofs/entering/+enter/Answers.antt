use Rattle.std.proofs.Common.{refl, inl, inr, ap, sym, ◌∙◌}
use Rattle.std.proofs.lemmas.Result.{on_ok_weaker}
use Rattle.tre_node.proofs.Parts.{parts_go, set_by, sequence_entered_by, parts_named}
use Rattle.tre_node.proofs.FormsEntered.{empty_entered, rise_entered, fall_entered, event_entered, same_entered, entered_by, literal_entered, alternation_entered, both_named, repetition_entered, again_named}
use Rattle.tre_node.proofs.InstancesEntered.{restriction_entered, intersection_entered, part_named, sides_named}
use Rattle.tre_node.proofs.Settled.{atom_known, gone_in}
use Rattle.tre_node.proofs.entering.+enter.Goals as goal
use Rattle.tre_node.proofs.entering.+enter.Goals.{enter_parts-then-around+in_ok-feed, enter_parts-else-around, enter_again-then-around+in_ok-feed, enter_again-else-around}

pub go_in-returns : goal.go_in-returns
go_in-returns t c = gone_in c.in_ok-enter_form.ensures c.settle.ensures

pub enter_form-returns-in-Seq : goal.enter_form-returns-in-Seq
enter_form-returns-in-Seq t c =
    on_ok_weaker c.enter_parts.result
    (λ h. record {
      entered = sequence_entered_by c.in-Seq.is
          (record { counts = refl; enters = refl }, parts_named c.deref_mut.ensures.value c.deref_mut-in-Seq.ensures.value h, refl);
      known = (h.left_known, h.right_known);
    })
    c.enter_parts.ensures

pub enter_parts-returns : goal.enter_parts-returns
enter_parts-returns t c =
    on_ok_weaker c.go_in-2.result
    (λ l. record {
      left_tree = l.entered.tree;
      right_tree = c.in_ok-go_in.ensures.entered.tree;
      left_made = l.entered.made;
      right_made = c.in_ok-go_in.ensures.entered.made;
      left_node = l.entered.node;
      right_node = c.in_ok-go_in.ensures.entered.node;
      left_known = l.known;
      right_known = c.in_ok-go_in.ensures.known;
      goes = λ one other x y eq not_whole may.
          parts_go c.args.piece.now one other c.args.left.now c.go_in-2.new.node c.args.right.now
          c.go_in.new.node c.args.entering.now c.deref-2.result.now eq not_whole x y l.entered c.in_ok-go_in.ensures.entered may
          (elim c.if-around.branch [
            | enter_parts-then-around+in_ok-feed w ↦ inl (set_by
                (c.deref-2.ensures.value ∙ ap (λ v. v.items) w.mid-is)
                (w.deref.ensures.value ∙ ap (λ v. v.ended.items) w.around-told.ensures)
                (w.deref-then-around.ensures.value ∙ ap (λ v. v.inside.items) w.around-told.ensures)
                w.in_ok-feed.ensures)
            | enter_parts-else-around w ↦ inr (
              c.deref-2.ensures.value ∙ ap (λ v. v.items) w.mid-is ∙ c.clear.ensures.items,
              ap (λ v. v.lives) (sym c.around.ensures) ∙ w.if-around.false,
            )
          ]);
    })
    c.go_in-2.ensures

pub enter_form-returns-in-Eps : goal.enter_form-returns-in-Eps
enter_form-returns-in-Eps t c =
    record { entered = same_entered c.in-Eps.is (empty_entered c.args.piece.now c.args.entering.now _); known = atom_known c.in-Eps.is tt }

pub enter_form-returns-in-Rise : goal.enter_form-returns-in-Rise
enter_form-returns-in-Rise t c =
    record { entered = same_entered c.in-Rise.is (rise_entered c.args.piece.now c.args.entering.now _ _); known = atom_known c.in-Rise.is tt }

pub enter_form-returns-in-Fall : goal.enter_form-returns-in-Fall
enter_form-returns-in-Fall t c =
    record { entered = same_entered c.in-Fall.is (fall_entered c.args.piece.now c.args.entering.now _ _); known = atom_known c.in-Fall.is tt }

pub enter_form-returns-in-Event : goal.enter_form-returns-in-Event
enter_form-returns-in-Event t c =
    record { entered = same_entered c.in-Event.is (event_entered c.args.piece.now c.args.entering.now _ _); known = atom_known c.in-Event.is tt }

pub enter_form-returns-in-Lit : goal.enter_form-returns-in-Lit
enter_form-returns-in-Lit t c =
    on_ok_weaker c.enter_literal.result
    (λ h. record {
      entered = entered_by c.in-Lit.is (literal_entered c.args.piece.now c.args.entering.now _ _
          (record { counts = refl; enters = refl }, refl, h, refl));
      known = tt;
    })
    c.enter_literal.ensures

pub enter_form-returns-in-Alt : goal.enter_form-returns-in-Alt
enter_form-returns-in-Alt t c =
    on_ok_weaker c.enter_both.result
    (λ h. record {
      entered = entered_by c.in-Alt.is (alternation_entered c.args.piece.now c.args.entering.now _ _
          (record { counts = refl; enters = refl }, both_named c.deref_mut-in-Alt.ensures.value c.deref_mut-in-Alt-2.ensures.value h, refl));
      known = (h.left_known, h.right_known);
    })
    c.enter_both.ensures

pub enter_form-returns-in-Star : goal.enter_form-returns-in-Star
enter_form-returns-in-Star t c =
    on_ok_weaker c.enter_again.result
    (λ h. record {
      entered = entered_by c.in-Star.is (repetition_entered c.args.piece.now c.args.entering.now _ _
          (record { counts = refl; enters = refl }, again_named c.deref_mut-in-Star.ensures.value c.deref.ensures.value c.deref-in-Star.ensures.value h, refl));
      known = h.known;
    })
    c.enter_again.ensures

pub enter_both-returns : goal.enter_both-returns
enter_both-returns t c =
    on_ok_weaker c.go_in-2.result
    (λ r. record {
      left = c.in_ok-go_in.ensures.entered;
      right = r.entered;
      left_known = c.in_ok-go_in.ensures.known;
      right_known = r.known;
    }) c.go_in-2.ensures

pub enter_again-returns : goal.enter_again-returns
enter_again-returns t c =
    on_ok_weaker c.go_in.result
    (λ h. record {
      fed = c.deref.result.now;
      entered = h.entered;
      known = h.known;
      is = elim c.if-around.branch [
        | enter_again-then-around+in_ok-feed w ↦ inl (set_by
            (c.deref.ensures.value ∙ ap (λ v. v.items) w.mid-is) refl refl w.in_ok-feed.ensures)
        | enter_again-else-around w ↦ inr (
          c.deref.ensures.value ∙ ap (λ v. v.items) w.mid-is ∙ c.clear.ensures.items,
          ap (λ v. v.lives) (sym c.around.ensures) ∙ w.if-around.false,
        )
      ];
    }) c.go_in.ensures

pub enter_form-returns-then-around : goal.enter_form-returns-then-around
enter_form-returns-then-around t c =
    on_ok_weaker c.go_in.result
    (λ h. record {
      entered = entered_by c.in-Within.is (restriction_entered c.args.piece.now c.args.entering.now _ _ (
        record { counts = refl; enters = refl },
        refl,
        inl (c.if-around.true, part_named c.deref_mut-then-around.ensures.value refl h.entered, refl),
        refl,
        refl,
      ));
      known = h.known;
    })
    c.go_in.ensures

pub enter_form-returns-in_ok-lead_in-in-Within : goal.enter_form-returns-in_ok-lead_in-in-Within
enter_form-returns-in_ok-lead_in-in-Within t c =
    on_ok_weaker c.go_in-in-Within.result
    (λ h. record {
      entered = entered_by c.in-Within.is (restriction_entered c.args.piece.now c.args.entering.now _ _ (
        record { counts = refl; enters = refl },
        refl,
        inr (
          c.if-around.false,
          (
            c.lead_in.new.mid.items,
            c.in_ok-lead_in-in-Within.ensures,
            part_named c.deref_mut-in-Within.ensures.value c.deref-in-Within.ensures.value h.entered,
          ),
        ),
        refl,
        refl,
      ));
      known = h.known;
    })
    c.go_in-in-Within.ensures

pub enter_form-returns-then-around-2 : goal.enter_form-returns-then-around-2
enter_form-returns-then-around-2 t c =
    on_ok_weaker c.enter_both-then-around-2.result
    (λ h. record {
      entered = entered_by c.in-Meet.is (intersection_entered c.args.piece.now c.args.entering.now _ _ (
        record { counts = refl; enters = refl },
        inl (
          c.if-around-2.true,
          sides_named c.deref_mut-then-around-2.ensures.value
              c.deref_mut-then-around-2-2.ensures.value refl h,
          refl,
        ),
        refl,
        refl,
      ));
      known = (h.left_known, h.right_known);
    })
    c.enter_both-then-around-2.ensures

pub enter_form-returns-in_ok-lead_in-in-Meet : goal.enter_form-returns-in_ok-lead_in-in-Meet
enter_form-returns-in_ok-lead_in-in-Meet t c =
    on_ok_weaker c.enter_both-in-Meet.result
    (λ h. record {
      entered = entered_by c.in-Meet.is (intersection_entered c.args.piece.now c.args.entering.now _ _ (
        record { counts = refl; enters = refl },
        inr (
          c.if-around-2.false,
          (
            c.lead_in-in-Meet.new.mid.items,
            c.in_ok-lead_in-in-Meet.ensures,
            sides_named c.deref_mut-in-Meet.ensures.value c.deref_mut-in-Meet-2.ensures.value
                c.deref-in-Meet.ensures.value h,
          ),
        ),
        refl,
        refl,
      ));
      known = (h.left_known, h.right_known);
    })
    c.enter_both-in-Meet.ensures
