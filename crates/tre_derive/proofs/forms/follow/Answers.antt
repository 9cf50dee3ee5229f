use Rattle.std.proofs.Common.{◌≡◌, List, Ok, IfOk, None, false, true, sym, subst}
use Rattle.tre_zone.specs.Held.{Held}
use Rattle.tre_zone.specs.declared.zone_bounds.ZoneBounds.{ZoneBounds}
use Rattle.tre_syntax.specs.Expr.{tree_of}
use Rattle.tre_forms.specs.Begun.{EndsFrom}
use Rattle.tre_residual.specs.Residual.{residual_tree}
use Rattle.tre_residual.specs.declared.residual.Residual.{Residual}
use Rattle.tre_derive.specs.Derivative.{BeginsBehindPairs, ComesBehind}
use Rattle.tre_derive.proofs.StepsOfForms.{step_followed}
use Rattle.tre_derive.proofs.ToldAndLeft.{both_parts}
use Rattle.tre_derive.proofs.forms.follow.Goals as goal

pub begin_behind-begun-requires-clause-from : goal.begin_behind-begun-requires-clause-from
begin_behind-begun-requires-clause-from c =
    subst (λ (z : List ZoneBounds). EndsFrom None c.args.piece.now.begin (Held z))
    (sym c.zones.ensures.same) c.requires.from

pub begin_behind-begun-requires-clause-moments : goal.begin_behind-begun-requires-clause-moments
begin_behind-begun-requires-clause-moments c = λ (wrong : false ≡ true). absurd cc

pub returns : goal.returns
returns c =
    let piece = c.args.piece.now in
    let tree = tree_of c.args.expr.now in
    let inner = c.args.inner in
    let rest = residual_tree inner.rest in
    let begun = c.in_ok-begun.begun in
    let later = residual_tree begun.rest in
    let begins : BeginsBehindPairs tree inner.told piece begun.told later =
    subst (λ (list : List ZoneBounds). BeginsBehindPairs tree list piece begun.told later)
    c.zones.ensures.same
    (subst (λ r. IfOk r (λ b.
    BeginsBehindPairs tree c.zones.result.now piece b.told (residual_tree b.rest)))
    c.in_ok-begun.ensures.first c.begin_behind-begun.ensures) in
    both_parts c.of.result (Ok begun.told) c.behind-rest.result
    (λ told. BeginsBehindPairs tree inner.told piece told later)
    (λ whole. ComesBehind rest tree later (residual_tree whole)) _
    (λ s begins comes residual steps.
    step_followed piece residual inner.told rest steps tree s.told later (residual_tree s.rest)
    c.requires.numbers begins comes)
    c.of.ensures.told c.of.ensures.rest begins
    (subst (λ (r : Residual). IfOk c.behind-rest.result (λ whole.
    ComesBehind (residual_tree r) tree later (residual_tree whole)))
    c.in_ok-begun.ensures.second c.behind-rest.ensures)
