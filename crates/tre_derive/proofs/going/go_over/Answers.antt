use Rattle.std.proofs.Common.{Ok, IfOk, sym, subst}
use Rattle.tre_node.specs.declared.node.Node.{Node}
use Rattle.tre_residual.specs.Residual.{marked, residual_tree, Builds}
use Rattle.tre_derive.specs.Derivative.{TellsAsSet}
use Rattle.tre_derive.proofs.Passing.{goes_over}
use Rattle.tre_derive.proofs.ToldAndLeft.{both_parts}
use Rattle.tre_derive.proofs.going.go_over.Goals as goal

pub returns : goal.returns
returns c =
    let piece = c.args.piece.now in
    let enter = c.args.entering.now in
    let node = c.args.node in
    let after = c.in_ok-told.node in
    let told = Ok c.in_ok-told.told in
    both_parts c.of.result told c.mark-rest.result
    (λ set. TellsAsSet node enter piece set after)
    (λ whole. Builds (residual_tree whole) (marked after)) _
    (λ s tells built.
    goes_over piece node enter s.told after c.requires.root c.requires.enter tells
    (residual_tree s.rest) built)
    c.of.ensures.told c.of.ensures.rest
    (subst (λ (n : Node). IfOk told (λ set. TellsAsSet node enter piece set n))
    (sym c.in_ok-told.ensures.second)
    (subst (λ r. IfOk r (λ set. TellsAsSet node enter piece set c.told_by-told.new.node))
    c.in_ok-told.ensures.first c.told_by-told.ensures))
    c.mark-rest.ensures
