-- Each form starts as its parts do.
use Rattle.std.proofs.Common.{◌≡◌, ◌∙◌, ap, refl, subst, sym}
use Rattle.std.proofs.lemmas.Bool.{both_ways}
use Rattle.std.proofs.lemmas.Result.{IfOk-weaker, IfOk-at_ok}
use Rattle.tre_syntax.specs.Expr.{tree_of}
use Rattle.tre_syntax.specs.PatternTree.{sequence, alternation, intersection, repetition, restriction}
use Rattle.tre_mark.specs.MarkTree.{mark_of, sequence_mark, alternation_mark, repetition_mark, intersection_one, restriction_one, intersection_of, restriction_of}
use Rattle.tre_mark.specs.Marked.{IsUnbegun}
use Rattle.tre_mark.proofs.Starts.{intersection_some, restriction_some, start_moved, start_nothing, start_sequence, start_alternation, start_repetition, start_intersection, start_restriction}
use Rattle.tre_mark.proofs.mark.Mark.+start.Goals as goal

pub returns-then-is_empty : goal.returns-then-is_empty
returns-then-is_empty t c = IfOk-weaker c.empty.result _ _
    (λ mark unbegun. start_nothing c.args.time c.args.zones.now (mark_of mark)
    (tree_of c.args.expr.now) (c.is_empty.ensures.0 c.if-is_empty.true) unbegun) c.empty.ensures

pub returns-in_ok-rest-in-Seq : goal.returns-in_ok-rest-in-Seq
returns-in_ok-rest-in-Seq t c =
    let zones = c.args.zones.now in
    let one = mark_of c.in_ok-left-in-Seq.left.value in
    let other = mark_of c.in_ok-rest-in-Seq.rest.value in
    let left = tree_of c.deref.result.now in
    let right = tree_of c.deref-in-Seq.result.now in
    let form : tree_of c.args.expr.now ≡ sequence left right =
    ap tree_of c.in-Seq.is
    ∙ ap (λ e. sequence (tree_of e) (tree_of c.in-Seq.right.value)) (sym c.deref.ensures)
    ∙ ap (λ e. sequence left (tree_of e)) (sym c.deref-in-Seq.ensures) in
    start_moved c.args.time zones (sequence_mark one other) (sequence_mark one other)
    (sequence left right) (tree_of c.args.expr.now) refl form
    (start_sequence c.args.time zones c.requires.ends one other left right
    (IfOk-at_ok _ c.in_ok-left-in-Seq.ensures c.start.ensures)
    (subst (λ mark. IsUnbegun (mark_of mark) right) (sym c.in_ok-rest-in-Seq.ensures)
    c.in_ok-right-in-Seq.ensures))

pub returns-in_ok-left-in-Alt : goal.returns-in_ok-left-in-Alt
returns-in_ok-left-in-Alt t c =
    let zones = c.args.zones.now in
    let one = mark_of c.in_ok-left-in-Alt.left.value in
    let other = mark_of c.in_ok-left-in-Alt.right.value in
    let left = tree_of c.deref-in-Alt.result.now in
    let right = tree_of c.deref-in-Alt-2.result.now in
    let form : tree_of c.args.expr.now ≡ alternation left right =
    ap tree_of c.in-Alt.is
    ∙ ap (λ e. alternation (tree_of e) (tree_of c.in-Alt.right.value)) (sym c.deref-in-Alt.ensures)
    ∙ ap (λ e. alternation left (tree_of e)) (sym c.deref-in-Alt-2.ensures) in
    start_moved c.args.time zones (alternation_mark one other) (alternation_mark one other)
    (alternation left right) (tree_of c.args.expr.now) refl form
    (start_alternation c.args.time zones c.requires.ends one other left right
    (IfOk-at_ok _ c.in_ok-left-in-Alt.ensures.one c.start-left.ensures)
    (IfOk-at_ok _ c.in_ok-left-in-Alt.ensures.other c.start-right.ensures))

pub returns-in_ok-body-in-Star : goal.returns-in_ok-body-in-Star
returns-in_ok-body-in-Star t c =
    let zones = c.args.zones.now in
    let body = mark_of c.in_ok-body-in-Star.body.value in
    let tree = tree_of c.deref-in-Star.result.now in
    let form : tree_of c.args.expr.now ≡ repetition tree =
    ap tree_of c.in-Star.is ∙ ap (λ e. repetition (tree_of e)) (sym c.deref-in-Star.ensures) in
    IfOk-weaker c.repetition_behind.result _ _
    (λ mark is. start_moved c.args.time zones (repetition_mark zones body) (mark_of mark)
    (repetition tree) (tree_of c.args.expr.now)
    (is ∙ ap (λ here. repetition_mark here body) c.zones.ensures.same) form
    (start_repetition c.args.time zones c.requires.ends body tree
    (IfOk-at_ok _ c.in_ok-body-in-Star.ensures c.empty-in-Star.ensures)))
    c.repetition_behind.ensures

pub returns-in_ok-left-in-Meet : goal.returns-in_ok-left-in-Meet
returns-in_ok-left-in-Meet t c =
    let time = c.args.time in
    let zones = c.args.zones.now in
    let one = mark_of c.in_ok-left-in-Meet.left.value in
    let other = mark_of c.in_ok-left-in-Meet.right.value in
    let left = tree_of c.deref-in-Meet.result.now in
    let right = tree_of c.deref-in-Meet-2.result.now in
    let form : tree_of c.args.expr.now ≡ intersection left right =
    ap tree_of c.in-Meet.is
    ∙ ap (λ e. intersection (tree_of e) (tree_of c.in-Meet.right.value))
    (sym c.deref-in-Meet.ensures)
    ∙ ap (λ e. intersection left (tree_of e)) (sym c.deref-in-Meet-2.ensures) in
    IfOk-weaker c.intersection_behind.result _ _
    (λ mark is. start_moved time zones
    (intersection_one time zones one other) (mark_of mark)
    (intersection left right) (tree_of c.args.expr.now)
    (is ∙ ap (λ outer. intersection_of time outer one other) c.zones-in-Meet.ensures.same
    ∙ intersection_some time zones one other
    (λ none. both_ways c.is_empty.result c.if-is_empty.false (c.is_empty.ensures.1 none))) form
    (start_intersection time zones c.zones-in-Meet.ensures.tight
    (λ none. both_ways c.is_empty.result c.if-is_empty.false (c.is_empty.ensures.1 none))
    c.requires.ends c.in_ok-moment-in-Meet.moment
    c.in_ok-moment-in-Meet.ensures one other left right
    (IfOk-at_ok _ c.in_ok-left-in-Meet.ensures.one c.start-left-in-Meet.ensures)
    (IfOk-at_ok _ c.in_ok-left-in-Meet.ensures.other c.start-right-in-Meet.ensures)))
    c.intersection_behind.ensures

pub returns-in_ok-body-in-Within : goal.returns-in_ok-body-in-Within
returns-in_ok-body-in-Within t c =
    let time = c.args.time in
    let zones = c.args.zones.now in
    let body = mark_of c.in_ok-body-in-Within.body.value in
    let tree = tree_of c.deref-in-Within.result.now in
    let ends = c.in-Within.field-1 in
    let form : tree_of c.args.expr.now ≡ restriction tree ends =
    ap tree_of c.in-Within.is
    ∙ ap (λ e. restriction (tree_of e) ends) (sym c.deref-in-Within.ensures) in
    IfOk-weaker c.restriction_behind.result _ _
    (λ mark is. start_moved time zones (restriction_one time zones body)
    (mark_of mark) (restriction tree ends) (tree_of c.args.expr.now)
    (is ∙ ap (λ outer. restriction_of time outer body) c.zones-in-Within.ensures.same
    ∙ restriction_some time zones body
    (λ none. both_ways c.is_empty.result c.if-is_empty.false (c.is_empty.ensures.1 none))) form
    (start_restriction time zones c.zones-in-Within.ensures.tight
    (λ none. both_ways c.is_empty.result c.if-is_empty.false (c.is_empty.ensures.1 none))
    c.requires.ends c.in_ok-moment-in-Within.moment
    c.in_ok-moment-in-Within.ensures body tree ends
    (IfOk-at_ok _ c.in_ok-body-in-Within.ensures c.start-in-Within.ensures)))
    c.restriction_behind.ensures
