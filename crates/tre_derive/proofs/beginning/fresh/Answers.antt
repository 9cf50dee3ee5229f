use Rattle.std.proofs.Common.{[], ◌∷◌, None, sym, subst}
use Rattle.std.proofs.lemmas.Result.{IfOk-weaker}
use Rattle.tre_pairs.proofs.Laws.{IsInstant}
use Rattle.tre_zone.specs.Held.{Held}
use Rattle.tre_zone.specs.declared.zone_bounds.ZoneBounds.{ZoneBounds}
use Rattle.tre_syntax.specs.Expr.{tree_of}
use Rattle.tre_edges.specs.Piece.{end_of_piece}
use Rattle.tre_forms.specs.Begun.{EndsFrom}
use Rattle.tre_node.proofs.Instances.{moments_are_instants}
use Rattle.tre_residual.specs.Residual.{residual_tree}
use Rattle.tre_derive.specs.Derivative.{BeginsBehindPairs}
use Rattle.tre_derive.proofs.Passing.{fresh_of, moments_from}
use Rattle.tre_derive.proofs.beginning.fresh.Goals as goal

pub begin_behind-requires-clause-from : goal.begin_behind-requires-clause-from
begin_behind-requires-clause-from c =
    let from = c.args.piece.now.begin in
    subst (λ (z : ZoneBounds). EndsFrom None from (Held (z ∷ []))) (sym c.instants.ensures.bounds)
    (moments_from from (end_of_piece c.args.piece.now))

pub begin_behind-requires-clause-moments : goal.begin_behind-requires-clause-moments
begin_behind-requires-clause-moments c = λ whole.
    subst (λ (z : ZoneBounds). IsInstant (Held (z ∷ []))) (sym c.instants.ensures.bounds)
    (moments_are_instants c.args.piece.now.begin (end_of_piece c.args.piece.now))

pub returns : goal.returns
returns c =
    let piece = c.args.piece.now in
    let tree = tree_of c.args.expr.now in
    let told = c.in_ok-begun.begun.told in
    let left = residual_tree c.in_ok-begun.begun.rest in
    IfOk-weaker c.begun_or_beginning.result _ _
    (λ whole too.
    fresh_of piece tree told left (residual_tree whole)
    (subst (λ (z : ZoneBounds). BeginsBehindPairs tree (z ∷ []) piece told left)
    c.instants.ensures.bounds c.in_ok-begun.ensures) too)
    c.begun_or_beginning.ensures
