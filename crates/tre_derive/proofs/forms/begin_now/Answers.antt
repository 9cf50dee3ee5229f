use Rattle.std.proofs.Common.{◌≡◌, List, false, true, sym, subst}
use Rattle.std.proofs.lemmas.Result.{IfOk-weaker}
use Rattle.std.specs.Prelude.{None}
use Rattle.tre_zone.specs.Held.{Held}
use Rattle.tre_zone.specs.declared.zone_bounds.ZoneBounds.{ZoneBounds}
use Rattle.tre_syntax.specs.Expr.{tree_of}
use Rattle.tre_forms.specs.Begun.{EndsFrom}
use Rattle.tre_residual.specs.Residual.{residual_tree}
use Rattle.tre_derive.specs.Derivative.{BeginsBehindPairs}
use Rattle.tre_derive.proofs.Held.{held_ending}
use Rattle.tre_derive.proofs.Passing.{ending_from, step_begun}
use Rattle.tre_derive.proofs.forms.begin_now.Goals as goal

pub begin_behind-requires-clause-from : goal.begin_behind-requires-clause-from
begin_behind-requires-clause-from c =
    subst (λ (z : List ZoneBounds). EndsFrom None c.args.piece.now.begin (Held z))
    (sym c.zones.ensures.same)
    (ending_from c.args.piece.now.begin c.args.begun.now c.in_ok-begun.begun c.in_ok-begun.ensures)

pub begin_behind-requires-clause-moments : goal.begin_behind-requires-clause-moments
begin_behind-requires-clause-moments c = λ (wrong : false ≡ true). absurd cc

pub returns : goal.returns
returns c =
    let piece = c.args.piece.now in
    let tree = tree_of c.args.expr.now in
    let begun = c.args.begun.now in
    let ending = c.in_ok-begun.begun in
    IfOk-weaker c.begin_behind.result _ _
    (λ whole begins.
    step_begun piece tree begun ending whole.told (residual_tree whole.rest)
    (held_ending piece.begin begun ending c.in_ok-begun.ensures)
    (subst (λ (z : List ZoneBounds).
    BeginsBehindPairs tree z piece whole.told (residual_tree whole.rest)) c.zones.ensures.same
    begins))
    c.begin_behind.ensures
