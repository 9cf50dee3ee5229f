use Rattle.std.proofs.Common.{rules}
use borrow.Author.Tests.{tests}
use Rattle.std.proofs.lemmas.Iterator.{cases_from_any, YieldsList-from_slice}
use Rattle.tre_zone.specs.Zone.{Includes}
use Rattle.tre_zoneset.proofs.Members.{any_is}
use Rattle.tre_online.proofs.NewZones.{is_new}
use Rattle.tre_online.proofs.told.is_beside.Goals as goal

pub returns : goal.returns
returns c =
    let both = any_is (λ other. Includes other c.args.zone.now) c.any.result c.args.earlier.now
    (cases_from_any _ _ _ (λ other. Includes other c.args.zone.now)
    (λ other. Includes other c.args.zone.now → ⊥) c.any.ensures.ran
    (YieldsList-from_slice c.args.earlier.now cc) (λ x q k. search (rules, tests))
    (λ x q k. search (rules, tests))) in
    is_new c.args.earlier.now c.args.zone.now c.any.result
    ((λ yes. record { included = both.0 yes }), (λ told. both.1 told.included))
