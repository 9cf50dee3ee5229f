use Rattle.std.proofs.Common.{◌≡◌, ap, subst, sym}
use Rattle.tre_state.specs.State as states
use Rattle.tre_state.specs.StateTree.{StateTree}
use Rattle.tre_syntax.specs.Expr.{tree_of}
use Rattle.tre_syntax.specs.PatternTree.{atom, literal, sequence}
use Rattle.tre_offline.specs.Lengths.{Spans}
use Rattle.tre_offline.proofs.Spanning.{Spans-always, Spans-left, Spans-right}
use Rattle.tre_offline.proofs.iterated.+spans.Goals as goal

pub returns-in-Lit : goal.returns-in-Lit
returns-in-Lit t c = λ yes.
    let whole : tree_of c.args.expr.now ≡ atom (literal (states.tree_of c.in-Lit.state)) =
    ap tree_of c.in-Lit.is in
    subst Spans (sym whole)
    (subst (λ (state : StateTree). Spans (atom (literal state))) (sym (c.is_yes.ensures yes))
    Spans-always)

pub returns-then-spans : goal.returns-then-spans
returns-then-spans t c = λ yes.
    let whole : tree_of c.args.expr.now
    ≡ sequence (tree_of c.in-Seq.left.value) (tree_of c.in-Seq.right.value) =
    ap tree_of c.in-Seq.is in
    subst Spans (sym whole)
    (Spans-left (tree_of c.in-Seq.left.value) (tree_of c.in-Seq.right.value)
    (rw c.deref.ensures at (c.spans.ensures c.if-spans.true)))

pub returns-else-spans : goal.returns-else-spans
returns-else-spans t c = λ yes.
    let whole : tree_of c.args.expr.now
    ≡ sequence (tree_of c.in-Seq.left.value) (tree_of c.in-Seq.right.value) =
    ap tree_of c.in-Seq.is in
    subst Spans (sym whole)
    (Spans-right (tree_of c.in-Seq.left.value) (tree_of c.in-Seq.right.value)
    (rw c.deref-else-spans.ensures at (c.spans-else-spans.ensures yes)))
