use Rattle.std.proofs.Common.{◌∙◌, ap}
use Rattle.std.proofs.lemmas.Result.{IfOk-at_ok}
use Rattle.tre_syntax.specs.PatternTree.{restriction}
use Rattle.tre_node.specs.IsNode.{least_of}
use Rattle.tre_node.proofs.NewNodes.{new_own, parts_new}
use Rattle.tre_node.proofs.making.make_restriction.Goals as goal

pub returns : goal.returns
returns c tree l =
    let f = IfOk-at_ok _ c.in_ok-body.ensures l in
    parts_new c.requires c.around.ensures (
      c.least.ensures ∙ ap (λ h. least_of c.args.longest h) c.high.ensures.high,
      c.new.ensures.items,
      new_own f,
    ) (ap (λ t. restriction t c.args.interval.now) f.tree_is)
