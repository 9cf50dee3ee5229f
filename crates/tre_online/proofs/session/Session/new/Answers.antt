use Rattle.std.proofs.Common.{None, true, refl, subst, arith}
use Rattle.tre_syntax.specs.Pattern.{pattern_tree}
use Rattle.tre_syntax.specs.PatternTree.{PatternTree}
use Rattle.tre_node.specs.IsNode.{IsNew}
use Rattle.tre_online.proofs.NewZones.{none_apart}
use Rattle.tre_online.proofs.Standing.{stands_at_start, well_new}
use Rattle.tre_online.proofs.session.Session.new.Goals as goal

pub make-requires-clause-longest : goal.make-requires-clause-longest
make-requires-clause-longest c = record { limit = tt }

pub invariant_of-result : goal.invariant_of-result
invariant_of-result c =
    let new = subst (λ (tree : PatternTree). IsNew tree None true c.in_ok-node.node)
    c.expr.ensures.tree c.in_ok-node.ensures in
    record {
      in_time = omega arith;
      well = well_new 0 new refl;
      apart = rw c.new.ensures.items none_apart;
    }

pub returns-clause-stands : goal.returns-clause-stands
returns-clause-stands c =
    stands_at_start _ (pattern_tree c.args.pattern)
    (subst (λ (tree : PatternTree). IsNew tree None true c.in_ok-node.node)
    c.expr.ensures.tree c.in_ok-node.ensures) refl refl refl c.new.ensures.items
