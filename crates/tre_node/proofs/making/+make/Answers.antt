use Rattle.std.proofs.Common.{◌≡◌, ◌∙◌, ℕ, IfOk, Option, true, ap, sym, subst}
use Rattle.std.proofs.lemmas.Result.{IfOk-weaker}
use Rattle.tre_state.specs.declared.names.TheConstants.{NAMES_MAX}
use Rattle.tre_syntax.specs.Expr.{tree_of}
use Rattle.tre_syntax.specs.PatternTree.{NumbersBelow, sequence, alternation, intersection, repetition, restriction}
use Rattle.tre_node.specs.IsNode.{IsNew, least_of}
use Rattle.tre_node.proofs.NewNodes.{new_as, parts_new}
use Rattle.tre_node.proofs.making.+make.Goals as goal

pub returns-in-Eps : goal.returns-in-Eps
returns-in-Eps t c = parts_new c.requires.longest c.around.ensures tt (sym (ap tree_of c.in-Eps.is))

pub returns-in-Event : goal.returns-in-Event
returns-in-Event t c =
    parts_new c.requires.longest c.around-in-Event.ensures
    (subst (NumbersBelow NAMES_MAX) (ap tree_of c.in-Event.is) c.requires.numbers)
    (sym (ap tree_of c.in-Event.is))

pub returns-in-Lit : goal.returns-in-Lit
returns-in-Lit t c =
    IfOk-weaker c.make_literal.result _ _ (λ node h. new_as (sym (ap tree_of c.in-Lit.is)) h)
    c.make_literal.ensures

pub returns-in-Rise : goal.returns-in-Rise
returns-in-Rise t c =
    IfOk-weaker c.make_rise.result _ _ (λ node h. new_as (sym (ap tree_of c.in-Rise.is)) h)
    c.make_rise.ensures

pub returns-in-Fall : goal.returns-in-Fall
returns-in-Fall t c =
    IfOk-weaker c.make_fall.result _ _ (λ node h. new_as (sym (ap tree_of c.in-Fall.is)) h)
    c.make_fall.ensures

pub returns-in-Seq : goal.returns-in-Seq
returns-in-Seq t c =
    let left = tree_of c.deref.result.now in
    let right = tree_of c.deref-in-Seq.result.now in
    let form : tree_of c.args.expr.now ≡ sequence left right =
    ap tree_of c.in-Seq.is
    ∙ ap (λ e. sequence (tree_of e) (tree_of c.in-Seq.right.value)) (sym c.deref.ensures)
    ∙ ap (λ e. sequence left (tree_of e)) (sym c.deref-in-Seq.ensures) in
    IfOk-weaker c.make_sequence.result _ _ (λ node h. new_as (sym form) h)
    (c.make_sequence.ensures left right c.make-left.ensures c.make-right.ensures)

pub returns-in-Alt : goal.returns-in-Alt
returns-in-Alt t c =
    let left = tree_of c.deref-in-Alt.result.now in
    let right = tree_of c.deref-in-Alt-2.result.now in
    let form : tree_of c.args.expr.now ≡ alternation left right =
    ap tree_of c.in-Alt.is
    ∙ ap (λ e. alternation (tree_of e) (tree_of c.in-Alt.right.value)) (sym c.deref-in-Alt.ensures)
    ∙ ap (λ e. alternation left (tree_of e)) (sym c.deref-in-Alt-2.ensures) in
    IfOk-weaker c.make_alternation.result _ _ (λ node h. new_as (sym form) h)
    (c.make_alternation.ensures left right c.make-left-in-Alt.ensures c.make-right-in-Alt.ensures)

pub returns-in-Meet : goal.returns-in-Meet
returns-in-Meet t c =
    let left = tree_of c.deref-in-Meet.result.now in
    let right = tree_of c.deref-in-Meet-2.result.now in
    let form : tree_of c.args.expr.now ≡ intersection left right =
    ap tree_of c.in-Meet.is
    ∙ ap (λ e. intersection (tree_of e) (tree_of c.in-Meet.right.value)) (sym c.deref-in-Meet.ensures)
    ∙ ap (λ e. intersection left (tree_of e)) (sym c.deref-in-Meet-2.ensures) in
    IfOk-weaker c.make_intersection.result _ _ (λ node h. new_as (sym form) h)
    (c.make_intersection.ensures left right c.make-left-in-Meet.ensures c.make-right-in-Meet.ensures)

pub returns-in-Star : goal.returns-in-Star
returns-in-Star t c =
    let tree = tree_of c.deref-in-Star.result.now in
    let form : tree_of c.args.expr.now ≡ repetition tree =
    ap tree_of c.in-Star.is ∙ ap (λ e. repetition (tree_of e)) (sym c.deref-in-Star.ensures) in
    IfOk-weaker c.make_repetition.result _ _ (λ node h. new_as (sym form) h)
    (c.make_repetition.ensures tree c.make.ensures)

pub returns-in-Within : goal.returns-in-Within
returns-in-Within t c =
    let tree = tree_of c.deref-in-Within.result.now in
    let ends = c.in-Within.interval in
    let form : tree_of c.args.expr.now ≡ restriction tree ends =
    ap tree_of c.in-Within.is
    ∙ ap (λ e. restriction (tree_of e) ends) (sym c.deref-in-Within.ensures) in
    IfOk-weaker c.make_restriction.result _ _ (λ node h. new_as (sym form) h)
    (c.make_restriction.ensures tree
    (subst (λ (reach : Option ℕ). IfOk c.make-in-Within.result (λ node. IsNew tree reach true node))
    (c.least-reach.ensures ∙ ap (λ h. least_of c.args.longest h) c.high.ensures.high)
    c.make-in-Within.ensures))
