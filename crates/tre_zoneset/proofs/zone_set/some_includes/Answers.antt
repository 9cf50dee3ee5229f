use Rattle.std.proofs.Common.{rules}
use borrow.Author.Tests.{tests}
use Rattle.std.proofs.lemmas.Iterator.{cases_from_any, YieldsList-from_slice}
use Rattle.tre_zone.specs.Zone.{Includes}
use Rattle.tre_zoneset.proofs.Members.{any_is}
use Rattle.tre_zoneset.proofs.zone_set.some_includes.Goals as goal

pub returns : goal.returns
returns c =
    any_is (λ member. Includes member c.args.zone.now) c.any.result c.args.zones.now
    (cases_from_any _ _ _ (λ member. Includes member c.args.zone.now)
    (λ member. Includes member c.args.zone.now → ⊥) c.any.ensures.ran
    (YieldsList-from_slice c.args.zones.now cc) (λ x q k. search (rules, tests))
    (λ x q k. search (rules, tests)))
