use Rattle.std.proofs.Common.{rules}
use borrow.Author.Tests.{tests}
use Rattle.std.proofs.lemmas.Iterator.{cases_from_any, YieldsList-from_slice}
use Rattle.tre_zone.specs.Zone.{ZoneHolds}
use Rattle.tre_zoneset.proofs.Members.{any_is, SetHolds-any}
use Rattle.tre_zoneset.proofs.zone_set.ZoneSet.holds.Goals as goal

pub returns : goal.returns
returns c =
    let some = SetHolds-any c.args.self.now c.args.a c.args.b c.args.n in
    let any =
    any_is (λ zone. ZoneHolds zone c.args.a c.args.b c.args.n) c.any.result c.args.self.now
    (cases_from_any _ _ _ (λ zone. ZoneHolds zone c.args.a c.args.b c.args.n)
    (λ zone. ZoneHolds zone c.args.a c.args.b c.args.n → ⊥) c.any.ensures.ran
    (YieldsList-from_slice c.args.self.now cc) (λ x q k. search (rules, tests))
    (λ x q k. search (rules, tests))) in
    ((λ t. some.1 (any.0 t)), (λ h. any.1 (some.0 h)))
