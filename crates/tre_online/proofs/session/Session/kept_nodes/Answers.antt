use Rattle.std.proofs.Common.{◌≤◌, ◌∙◌, subst, sym}
use Rattle.tre_syntax.specs.Pattern.{pattern_tree}
use Rattle.tre_syntax.specs.PatternTree.{node_count}
use Rattle.tre_mark.specs.Nodes.{form_count}
use Rattle.tre_mark.proofs.NodeCounts.{forms_below}
use Rattle.tre_node.specs.NodeTree.{tree_of_node}
use Rattle.tre_online.specs.Session.{at_of, node_of}
use Rattle.tre_online.proofs.Nodes.{counted, shaped}
use Rattle.tre_online.proofs.session.Session.kept_nodes.Goals as goal

pub returns-clause-same : goal.returns-clause-same
returns-clause-same c none =
    let session = c.args.self.now in
    counted (pattern_tree session.pattern) (form_count (tree_of_node (node_of session)))
    c.nodes.result session.well.count session.pattern.small c.nodes.ensures

pub returns-clause-all : goal.returns-clause-all
returns-clause-all c =
    let session = c.args.self.now in
    counted (pattern_tree session.pattern) (form_count (tree_of_node (node_of session)))
    c.nodes.result session.well.count session.pattern.small c.nodes.ensures
    ∙ sym session.well.count ∙ sym (shaped (at_of session) (node_of session))

pub returns-clause-bound : goal.returns-clause-bound
returns-clause-bound c =
    let session = c.args.self.now in
    let tree = pattern_tree session.pattern in
    subst (λ count. count ≤ node_count tree)
    (sym (counted tree (form_count (tree_of_node (node_of session))) c.nodes.result
    session.well.count session.pattern.small c.nodes.ensures)) (forms_below tree)
