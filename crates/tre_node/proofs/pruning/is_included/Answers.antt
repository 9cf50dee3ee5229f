use Rattle.std.proofs.Common.{rules}
use borrow.Author.Tests.{tests}
use Rattle.std.proofs.lemmas.Iterator.{cases_from_any, YieldsList-from_slice}
use Rattle.tre_zone.specs.Zone.{Includes}
use Rattle.tre_zoneset.proofs.Members.{any_is}
use Rattle.tre_node.proofs.pruning.is_included.Goals as goal

pub returns : goal.returns
returns c is =
    (any_is (λ other. Includes other c.args.zone.now) c.any.result c.args.others.now
    (cases_from_any _ _ _ (λ other. Includes other c.args.zone.now)
    (λ other. Includes other c.args.zone.now → ⊥) c.any.ensures.ran
    (YieldsList-from_slice c.args.others.now cc) (λ x q k. search (rules, tests))
    (λ x q k. search (rules, tests)))).0 is
