-- The form at the top is the tree's, and its parts are those of the tree.
use Rattle.std.proofs.Common.{◌≡◌, ap, sym, subst}
use Rattle.std.proofs.lemmas.Result.{IfOk-weaker}
use Rattle.tre_syntax.specs.Expr.{tree_of}
use Rattle.tre_residual.specs.Residual.{ResidualTree, nothing, here, joined, preceded, followed, either, both, lasting, marked, residual_tree, IsWell}
use Rattle.tre_derive.specs.Closing.{ClosesTo}
use Rattle.tre_derive.proofs.ClosingForms.{close_nothing, close_here, close_joined, close_followed, close_preceded, close_lasting, close_either, close_both, well_ends}
use Rattle.tre_derive.proofs.closing.+close.Goals as goal

pub returns-in-Nil : goal.returns-in-Nil
returns-in-Nil t c =
    let time = c.args.time in
    let events = c.args.events in
    let tree : residual_tree c.args.residual.now ≡ nothing = ap residual_tree c.in-Nil.is in
    subst (λ (whole : ResidualTree). ClosesTo whole time events c.new.result)
    (sym tree) (close_nothing time events c.new.result c.new.ensures)

pub returns-in_ok-ended-in-Here : goal.returns-in_ok-ended-in-Here
returns-in_ok-ended-in-Here t c =
    let time = c.args.time in
    let events = c.args.events in
    let ended = c.in-Here.ended in
    let told = c.in_ok-ended-in-Here.ended in
    let tree : residual_tree c.args.residual.now ≡ here ended = ap residual_tree c.in-Here.is in
    subst (λ (whole : ResidualTree). ClosesTo whole time events told) (sym tree)
    (close_here time events ended told c.in_ok-ended-in-Here.ensures)

pub returns-in_ok-ended-in-At : goal.returns-in_ok-ended-in-At
returns-in_ok-ended-in-At t c =
    let time = c.args.time in
    let events = c.args.events in
    let begun = c.in-At.begun in
    let expr = tree_of c.in-At.expr in
    let told = c.held_at_end.result in
    let tree : residual_tree c.args.residual.now ≡ joined begun expr =
    ap residual_tree c.in-At.is in
    subst (λ (whole : ResidualTree). ClosesTo whole time events told) (sym tree)
    (close_joined time events expr c.in_ok-ended-in-At.ended told c.held_at_end.ensures begun
    c.in_ok-ended-in-At.ensures)

pub returns-in_ok-inner-in-Pre : goal.returns-in_ok-inner-in-Pre
returns-in_ok-inner-in-Pre t c =
    let time = c.args.time in
    let events = c.args.events in
    let inner = residual_tree c.deref.result.now in
    let tree : residual_tree c.args.residual.now ≡ preceded c.in-Pre.zones inner =
    rw c.deref.ensures (ap residual_tree c.in-Pre.is) in
    IfOk-weaker c.composed.result _ _
    (λ told composed.
    subst (λ (whole : ResidualTree). ClosesTo whole time events told) (sym tree)
    (close_preceded time events inner c.in_ok-inner-in-Pre.inner told c.in_ok-inner-in-Pre.ensures
    c.in-Pre.zones composed))
    c.composed.ensures

pub returns-in_ok-inner-in-Post : goal.returns-in_ok-inner-in-Post
returns-in_ok-inner-in-Post t c =
    let time = c.args.time in
    let events = c.args.events in
    let inner = residual_tree c.deref-in-Post.result.now in
    let expr = tree_of c.in-Post.expr in
    let told = c.held_at_end-in-Post.result in
    let tree : residual_tree c.args.residual.now ≡ followed inner expr =
    rw c.deref-in-Post.ensures (ap residual_tree c.in-Post.is) in
    let well = subst (λ (whole : ResidualTree). IsWell time whole) tree c.requires.well.well in
    subst (λ (whole : ResidualTree). ClosesTo whole time events told) (sym tree)
    (close_followed time events expr c.in_ok-inner-in-Post.inner told
    c.held_at_end-in-Post.ensures inner
    (well_ends time events inner (record { well = well.0 }))
    c.in_ok-inner-in-Post.ensures)

pub returns-in_ok-other-in-Or : goal.returns-in_ok-other-in-Or
returns-in_ok-other-in-Or t c =
    let time = c.args.time in
    let events = c.args.events in
    let one = residual_tree c.deref-in-Or.result.now in
    let other = residual_tree c.deref-in-Or-2.result.now in
    let tree : residual_tree c.args.residual.now ≡ either one other =
    rw (c.deref-in-Or.ensures, c.deref-in-Or-2.ensures) (ap residual_tree c.in-Or.is) in
    IfOk-weaker c.of_either.result _ _
    (λ told held.
    subst (λ (whole : ResidualTree). ClosesTo whole time events told) (sym tree)
    (close_either time events one other c.in_ok-one-in-Or.one c.in_ok-other-in-Or.other told
    c.in_ok-one-in-Or.ensures c.in_ok-other-in-Or.ensures held))
    c.of_either.ensures

pub returns-in_ok-other-in-Both : goal.returns-in_ok-other-in-Both
returns-in_ok-other-in-Both t c =
    let time = c.args.time in
    let events = c.args.events in
    let one = residual_tree c.deref-in-Both.result.now in
    let other = residual_tree c.deref-in-Both-2.result.now in
    let tree : residual_tree c.args.residual.now ≡ both one other =
    rw (c.deref-in-Both.ensures, c.deref-in-Both-2.ensures) (ap residual_tree c.in-Both.is) in
    IfOk-weaker c.meet.result _ _
    (λ told held.
    subst (λ (whole : ResidualTree). ClosesTo whole time events told) (sym tree)
    (close_both time events one other c.in_ok-one-in-Both.one c.in_ok-other-in-Both.other told
    c.in_ok-one-in-Both.ensures c.in_ok-other-in-Both.ensures held))
    c.meet.ensures

pub returns-in_ok-inner-in-Dur : goal.returns-in_ok-inner-in-Dur
returns-in_ok-inner-in-Dur t c =
    let time = c.args.time in
    let events = c.args.events in
    let inner = residual_tree c.deref-in-Dur.result.now in
    let interval = c.in-Dur.interval in
    let tree : residual_tree c.args.residual.now ≡ lasting inner interval =
    rw c.deref-in-Dur.ensures (ap residual_tree c.in-Dur.is) in
    IfOk-weaker c.within.result _ _
    (λ told held.
    subst (λ (whole : ResidualTree). ClosesTo whole time events told) (sym tree)
    (close_lasting time events inner c.in_ok-inner-in-Dur.inner told c.in_ok-inner-in-Dur.ensures
    interval held))
    c.within.ensures

pub returns-in-Mark : goal.returns-in-Mark
returns-in-Mark t c =
    let time = c.args.time in
    let events = c.args.events in
    let tree : residual_tree c.args.residual.now ≡ marked c.deref-in-Mark.result.now =
    rw c.deref-in-Mark.ensures (ap residual_tree c.in-Mark.is) in
    IfOk-weaker c.close_node.result _ _
    (λ told closes.
    subst (λ (whole : ResidualTree). ClosesTo whole time events told) (sym tree) closes)
    c.close_node.ensures
