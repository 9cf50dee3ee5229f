use Rattle.std.proofs.Common.{◌≡◌, ◌++◌, Some, None, sym, ap, ◌∙◌, ⊎_elim}
use Rattle.tre_syntax.specs.Expr.{tree_of}
use Rattle.tre_syntax.specs.PatternTree.{numbers_of, seen_after}
use Rattle.tre_syntax.proofs.Counts.{seen_after_both, seen_after_none}
use Rattle.tre_syntax.proofs.count.+seen_after.Goals as goal

pub returns-in-Some : goal.returns-in-Some
returns-in-Some t c =
    let left = numbers_of c.args.kind (tree_of c.in-Seq.one.value) in
    let right = numbers_of c.args.kind (tree_of c.in-Seq.other.value) in
    let whole : numbers_of c.args.kind (tree_of c.args.expr.now) ≡ left ++ right =
    ⊎_elim (ap (λ x. numbers_of c.args.kind (tree_of x)))
    (⊎_elim (ap (λ x. numbers_of c.args.kind (tree_of x))) (ap (λ x. numbers_of c.args.kind (tree_of x)))) c.in-Seq.is
    in
    let first : seen_after c.args.seen left ≡ Some c.in-Some.seen =
    ap (λ x. seen_after c.args.seen (numbers_of c.args.kind (tree_of x))) (sym c.deref.ensures)
    ∙ sym c.seen_after.ensures ∙ c.in-Some.is in
    c.seen_after-in-Some.ensures
    ∙ ap (λ x. seen_after c.in-Some.seen (numbers_of c.args.kind (tree_of x))) c.deref-in-Some.ensures
    ∙ sym (seen_after_both c.args.seen left right c.in-Some.seen first)
    ∙ ap (seen_after c.args.seen) (sym whole)

pub returns-in-None : goal.returns-in-None
returns-in-None t c =
    let left = numbers_of c.args.kind (tree_of c.in-Seq.one.value) in
    let right = numbers_of c.args.kind (tree_of c.in-Seq.other.value) in
    let whole : numbers_of c.args.kind (tree_of c.args.expr.now) ≡ left ++ right =
    ⊎_elim (ap (λ x. numbers_of c.args.kind (tree_of x)))
    (⊎_elim (ap (λ x. numbers_of c.args.kind (tree_of x))) (ap (λ x. numbers_of c.args.kind (tree_of x)))) c.in-Seq.is
    in
    let first : seen_after c.args.seen left ≡ None =
    ap (λ x. seen_after c.args.seen (numbers_of c.args.kind (tree_of x))) (sym c.deref.ensures)
    ∙ sym c.seen_after.ensures ∙ c.in-None.is in
    sym (seen_after_none c.args.seen left right first) ∙ ap (seen_after c.args.seen) (sym whole)
