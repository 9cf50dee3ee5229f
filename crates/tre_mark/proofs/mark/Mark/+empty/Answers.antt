use Rattle.std.proofs.Common.{◌≡◌, ◌∙◌, ap, refl, sym, subst, []}
use Rattle.std.proofs.lemmas.Result.{IfOk-weaker, IfOk-at_ok}
use Rattle.tre_state.specs.State as states
use Rattle.tre_syntax.specs.Expr.{tree_of}
use Rattle.tre_syntax.specs.PatternTree.{PatternTree, empty, literal, rise, fall, event, sequence, alternation, intersection, repetition, restriction}
use Rattle.tre_mark.specs.MarkTree.{mark_of, sequence_mark, alternation_mark, repetition_mark, intersection_none, restriction_none}
use Rattle.tre_mark.specs.Marked.{IsUnbegun}
use Rattle.tre_mark.proofs.Starts.{unbegun_sequence, unbegun_alternation, unbegun_repetition, unbegun_intersection, unbegun_restriction, unbegun_moved}
use Rattle.tre_mark.proofs.mark.Mark.+empty.Goals as goal

pub returns-in-Eps : goal.returns-in-Eps
returns-in-Eps t c =
    subst (λ (tree : PatternTree). IsUnbegun (mark_of c.no_atom.result) tree)
    (sym (ap tree_of c.in-Eps.is)) (c.no_atom.ensures empty)

pub returns-in-Lit : goal.returns-in-Lit
returns-in-Lit t c =
    subst (λ (tree : PatternTree). IsUnbegun (mark_of c.no_atom-in-Lit.result) tree)
    (sym (ap tree_of c.in-Lit.is)) (c.no_atom-in-Lit.ensures
    (literal (states.tree_of c.in-Lit.field-0)))

pub returns-in-Rise : goal.returns-in-Rise
returns-in-Rise t c =
    subst (λ (tree : PatternTree). IsUnbegun (mark_of c.no_atom-in-Rise.result) tree)
    (sym (ap tree_of c.in-Rise.is)) (c.no_atom-in-Rise.ensures
    (rise (states.tree_of c.in-Rise.field-0)))

pub returns-in-Fall : goal.returns-in-Fall
returns-in-Fall t c =
    subst (λ (tree : PatternTree). IsUnbegun (mark_of c.no_atom-in-Fall.result) tree)
    (sym (ap tree_of c.in-Fall.is)) (c.no_atom-in-Fall.ensures
    (fall (states.tree_of c.in-Fall.field-0)))

pub returns-in-Event : goal.returns-in-Event
returns-in-Event t c =
    subst (λ (tree : PatternTree). IsUnbegun (mark_of c.no_atom-in-Event.result) tree)
    (sym (ap tree_of c.in-Event.is)) (c.no_atom-in-Event.ensures (event c.in-Event.field-0))

pub returns-in_ok-left-in-Seq : goal.returns-in_ok-left-in-Seq
returns-in_ok-left-in-Seq t c =
    let one = mark_of c.in_ok-left-in-Seq.left.value in
    let other = mark_of c.in_ok-left-in-Seq.right.value in
    let left = tree_of c.deref.result.now in
    let right = tree_of c.deref-in-Seq.result.now in
    let form : tree_of c.args.expr.now ≡ sequence left right =
    ap tree_of c.in-Seq.is
    ∙ ap (λ e. sequence (tree_of e) (tree_of c.in-Seq.right.value)) (sym c.deref.ensures)
    ∙ ap (λ e. sequence left (tree_of e)) (sym c.deref-in-Seq.ensures) in
    unbegun_moved (sequence_mark one other) (sequence_mark one other) (sequence left right)
    (tree_of c.args.expr.now) refl form
    (unbegun_sequence one other left right
    (IfOk-at_ok _ c.in_ok-left-in-Seq.ensures.one c.empty-left.ensures)
    (IfOk-at_ok _ c.in_ok-left-in-Seq.ensures.other c.empty-right.ensures))

pub returns-in_ok-left-in-Alt : goal.returns-in_ok-left-in-Alt
returns-in_ok-left-in-Alt t c =
    let one = mark_of c.in_ok-left-in-Alt.left.value in
    let other = mark_of c.in_ok-left-in-Alt.right.value in
    let left = tree_of c.deref-in-Alt.result.now in
    let right = tree_of c.deref-in-Alt-2.result.now in
    let form : tree_of c.args.expr.now ≡ alternation left right =
    ap tree_of c.in-Alt.is
    ∙ ap (λ e. alternation (tree_of e) (tree_of c.in-Alt.right.value)) (sym c.deref-in-Alt.ensures)
    ∙ ap (λ e. alternation left (tree_of e)) (sym c.deref-in-Alt-2.ensures) in
    unbegun_moved (alternation_mark one other) (alternation_mark one other)
    (alternation left right) (tree_of c.args.expr.now) refl form
    (unbegun_alternation one other left right
    (IfOk-at_ok _ c.in_ok-left-in-Alt.ensures.one c.empty-left-in-Alt.ensures)
    (IfOk-at_ok _ c.in_ok-left-in-Alt.ensures.other c.empty-right-in-Alt.ensures))

pub returns-in_ok-body-in-Star : goal.returns-in_ok-body-in-Star
returns-in_ok-body-in-Star t c =
    let body = mark_of c.in_ok-body-in-Star.body.value in
    let tree = tree_of c.deref-in-Star.result.now in
    let form : tree_of c.args.expr.now ≡ repetition tree =
    ap tree_of c.in-Star.is ∙ ap (λ e. repetition (tree_of e)) (sym c.deref-in-Star.ensures) in
    IfOk-weaker c.repetition_behind.result _ _
    (λ mark is. unbegun_moved (repetition_mark [] body) (mark_of mark) (repetition tree)
    (tree_of c.args.expr.now) is form
    (unbegun_repetition body tree
    (IfOk-at_ok _ c.in_ok-body-in-Star.ensures c.empty.ensures)))
    c.repetition_behind.ensures

pub returns-in_ok-left-in-Meet : goal.returns-in_ok-left-in-Meet
returns-in_ok-left-in-Meet t c =
    let left = tree_of c.deref-in-Meet.result.now in
    let right = tree_of c.deref-in-Meet-2.result.now in
    let form : tree_of c.args.expr.now ≡ intersection left right =
    ap tree_of c.in-Meet.is
    ∙ ap (λ e. intersection (tree_of e) (tree_of c.in-Meet.right.value))
    (sym c.deref-in-Meet.ensures)
    ∙ ap (λ e. intersection left (tree_of e)) (sym c.deref-in-Meet-2.ensures) in
    IfOk-weaker c.intersection_behind.result _ _
    (λ mark is. unbegun_moved intersection_none (mark_of mark) (intersection left right)
    (tree_of c.args.expr.now) is form (unbegun_intersection left right))
    c.intersection_behind.ensures

pub returns-in_ok-body-in-Within : goal.returns-in_ok-body-in-Within
returns-in_ok-body-in-Within t c =
    let tree = tree_of c.deref-in-Within.result.now in
    let ends = c.in-Within.field-1 in
    let form : tree_of c.args.expr.now ≡ restriction tree ends =
    ap tree_of c.in-Within.is
    ∙ ap (λ e. restriction (tree_of e) ends) (sym c.deref-in-Within.ensures) in
    IfOk-weaker c.restriction_behind.result _ _
    (λ mark is. unbegun_moved restriction_none (mark_of mark) (restriction tree ends)
    (tree_of c.args.expr.now) is form (unbegun_restriction tree ends))
    c.restriction_behind.ensures
