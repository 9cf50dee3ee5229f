-- The form at the top is the tree's, and its parts are those of the tree.
use Rattle.std.proofs.Common.{◌≡◌, IfOk, ap, sym, subst}
use Rattle.std.proofs.lemmas.Result.{IfOk-weaker}
use Rattle.tre_syntax.specs.Expr.{tree_of}
use Rattle.tre_edges.specs.declared.piece.Piece.{Piece}
use Rattle.tre_residual.specs.Residual.{ResidualTree, nothing, here, joined, preceded, followed, either, both, lasting, marked, residual_tree, IsWell}
use Rattle.tre_derive.specs.Derivative.{StepsTo}
use Rattle.tre_derive.specs.declared.stepped.Stepped.{Stepped}
use Rattle.tre_derive.proofs.StepsOfForms.{step_nothing, step_here, told_from}
use Rattle.tre_derive.proofs.stepping.+step.Goals as goal

abbrev DoesStep : Piece → ResidualTree → Stepped → Type 0
DoesStep piece residual stepped = StepsTo residual piece stepped.told (residual_tree stepped.rest)

pub returns-in-Nil : goal.returns-in-Nil
returns-in-Nil t c =
    let tree : residual_tree c.args.residual.now ≡ nothing = ap residual_tree c.in-Nil.is in
    subst (λ (whole : ResidualTree). StepsTo whole c.args.piece.now c.new.result nothing)
    (sym tree) (step_nothing c.args.piece.now c.new.result c.new.ensures)

pub returns-in_ok-try_clone-in-Here : goal.returns-in_ok-try_clone-in-Here
returns-in_ok-try_clone-in-Here t c =
    let piece = c.args.piece.now in
    let ended = c.in-Here.ended in
    let told = c.in_ok-try_clone-in-Here.field-0 in
    let tree : residual_tree c.args.residual.now ≡ here ended = ap residual_tree c.in-Here.is in
    subst (λ (whole : ResidualTree). StepsTo whole piece told nothing) (sym tree)
    (step_here piece ended told
    (subst (λ (whole : ResidualTree). IsWell piece.begin whole) tree c.requires.well)
    c.in_ok-try_clone-in-Here.ensures)

pub returns-in-At : goal.returns-in-At
returns-in-At t c =
    let form = joined c.in-At.begun (tree_of c.in-At.expr) in
    let tree : residual_tree c.args.residual.now ≡ form = ap residual_tree c.in-At.is in
    IfOk-weaker c.begin_now.result _ _
    (λ stepped steps.
    subst (λ (whole : ResidualTree).
    StepsTo whole c.args.piece.now stepped.told (residual_tree stepped.rest)) (sym tree) steps)
    c.begin_now.ensures

pub returns-in_ok-inner-in-Pre : goal.returns-in_ok-inner-in-Pre
returns-in_ok-inner-in-Pre t c =
    let inner = residual_tree c.deref.result.now in
    let tree : residual_tree c.args.residual.now ≡ preceded c.in-Pre.zones inner =
    rw c.deref.ensures (ap residual_tree c.in-Pre.is) in
    IfOk-weaker c.precede.result _ _
    (λ stepped steps.
    subst (λ (whole : ResidualTree).
    StepsTo whole c.args.piece.now stepped.told (residual_tree stepped.rest)) (sym tree)
    (steps inner c.args.piece.now c.in_ok-inner-in-Pre.ensures))
    c.precede.ensures

-- Each pair that is told ends as the piece begins or later.
pub follow-requires-clause-from : goal.follow-requires-clause-from
follow-requires-clause-from t c =
    let piece = c.args.piece.now in
    let inner = residual_tree c.deref-in-Post.result.now in
    let told = c.in_ok-inner-in-Post.inner in
    let tree : residual_tree c.args.residual.now ≡ followed inner (tree_of c.in-Post.expr) =
    rw c.deref-in-Post.ensures (ap residual_tree c.in-Post.is) in
    let well = subst (λ (whole : ResidualTree). IsWell piece.begin whole) tree
    c.requires.well in
    told_from piece inner told.told (residual_tree told.rest) well.0
    c.in_ok-inner-in-Post.ensures

pub returns-in_ok-inner-in-Post : goal.returns-in_ok-inner-in-Post
returns-in_ok-inner-in-Post t c =
    let inner = residual_tree c.deref-in-Post.result.now in
    let tree : residual_tree c.args.residual.now ≡ followed inner (tree_of c.in-Post.expr) =
    rw c.deref-in-Post.ensures (ap residual_tree c.in-Post.is) in
    IfOk-weaker c.follow.result _ _
    (λ stepped steps.
    subst (λ (whole : ResidualTree).
    StepsTo whole c.args.piece.now stepped.told (residual_tree stepped.rest)) (sym tree)
    (steps inner c.in_ok-inner-in-Post.ensures))
    c.follow.ensures

pub returns-in_ok-other-in-Or : goal.returns-in_ok-other-in-Or
returns-in_ok-other-in-Or t c =
    let one = residual_tree c.deref-in-Or.result.now in
    let other = residual_tree c.deref-in-Or-2.result.now in
    let tree : residual_tree c.args.residual.now ≡ either one other =
    rw (c.deref-in-Or.ensures, c.deref-in-Or-2.ensures) (ap residual_tree c.in-Or.is) in
    let first : DoesStep c.args.piece.now one c.in_ok-other-in-Or.one =
    subst (DoesStep c.args.piece.now one) (sym c.in_ok-other-in-Or.ensures.second)
    c.in_ok-one-in-Or.ensures in
    let second : DoesStep c.args.piece.now other c.in_ok-other-in-Or.other =
    subst (λ r. IfOk r (DoesStep c.args.piece.now other)) c.in_ok-other-in-Or.ensures.first
    c.step-other.ensures in
    IfOk-weaker c.choose.result _ _
    (λ stepped steps.
    subst (λ (whole : ResidualTree).
    StepsTo whole c.args.piece.now stepped.told (residual_tree stepped.rest)) (sym tree)
    (steps one other c.args.piece.now first second))
    c.choose.ensures

pub returns-in_ok-other-in-Both : goal.returns-in_ok-other-in-Both
returns-in_ok-other-in-Both t c =
    let one = residual_tree c.deref-in-Both.result.now in
    let other = residual_tree c.deref-in-Both-2.result.now in
    let tree : residual_tree c.args.residual.now ≡ both one other =
    rw (c.deref-in-Both.ensures, c.deref-in-Both-2.ensures) (ap residual_tree c.in-Both.is) in
    let first : DoesStep c.args.piece.now one c.in_ok-other-in-Both.one =
    subst (DoesStep c.args.piece.now one) (sym c.in_ok-other-in-Both.ensures.second)
    c.in_ok-one-in-Both.ensures in
    let second : DoesStep c.args.piece.now other c.in_ok-other-in-Both.other =
    subst (λ r. IfOk r (DoesStep c.args.piece.now other)) c.in_ok-other-in-Both.ensures.first
    c.step-other-in-Both.ensures in
    IfOk-weaker c.meet.result _ _
    (λ stepped steps.
    subst (λ (whole : ResidualTree).
    StepsTo whole c.args.piece.now stepped.told (residual_tree stepped.rest)) (sym tree)
    (steps one other c.args.piece.now first second))
    c.meet.ensures

pub returns-in_ok-inner-in-Dur : goal.returns-in_ok-inner-in-Dur
returns-in_ok-inner-in-Dur t c =
    let inner = residual_tree c.deref-in-Dur.result.now in
    let tree : residual_tree c.args.residual.now ≡ lasting inner c.in-Dur.interval =
    rw c.deref-in-Dur.ensures (ap residual_tree c.in-Dur.is) in
    IfOk-weaker c.restrict.result _ _
    (λ stepped steps.
    subst (λ (whole : ResidualTree).
    StepsTo whole c.args.piece.now stepped.told (residual_tree stepped.rest)) (sym tree)
    (steps inner c.args.piece.now c.in_ok-inner-in-Dur.ensures))
    c.restrict.ensures

pub returns-in-Mark : goal.returns-in-Mark
returns-in-Mark t c =
    let form = marked c.deref-in-Mark.result.now in
    let tree : residual_tree c.args.residual.now ≡ form =
    rw c.deref-in-Mark.ensures (ap residual_tree c.in-Mark.is) in
    IfOk-weaker c.go_on.result _ _
    (λ stepped steps.
    subst (λ (whole : ResidualTree).
    StepsTo whole c.args.piece.now stepped.told (residual_tree stepped.rest)) (sym tree) steps)
    c.go_on.ensures
