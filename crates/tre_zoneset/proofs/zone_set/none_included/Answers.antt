use Rattle.std.proofs.Common.{rules}
use Rattle.std.proofs.lemmas.Result.{IfOk-weaker}
use Rattle.tre_zone.specs.ZoneList.{SetHolds}
use Rattle.tre_zoneset.proofs.Unions.{HoldExactly-gathered}
use Rattle.tre_zoneset.proofs.Thinning.{IsZoneSet-thinned, HoldExactly-thinned}
use Rattle.tre_zoneset.proofs.zone_set.none_included.Goals as goal

pub returns-clause-held : goal.returns-clause-held
returns-clause-held c =
    HoldExactly-thinned c.args.zones.items c.in_order-zones.result.items
    c.in_ok-turned.turned.items c.reverse.new.self.items c.in_ok-kept.kept.items
    c.reverse-2.new.self.items c.in_order-zones.ensures
    (rw c.deref-4.ensures.value at c.in_ok-turned.ensures) c.reverse.ensures.permutation
    (rw c.deref-5.ensures.value at c.in_ok-kept.ensures) c.reverse-2.ensures.permutation

pub returns-clause-set : goal.returns-clause-set
returns-clause-set c = search (rules, IsZoneSet-thinned, c.in_ok-turned.turned.items)

pub returns-in-Some-clause-held : goal.returns-in-Some-clause-held
returns-in-Some-clause-held c = search (rules, HoldExactly-gathered, c.in-Some.near)

pub returns-then-are_soon_compared-clause-held : goal.returns-then-are_soon_compared-clause-held
returns-then-are_soon_compared-clause-held c =
    IfOk-weaker c.few_apart.result _ _
    (λ kept held. HoldExactly-gathered kept.items c.in_order-zones.result.items
    (SetHolds c.args.zones.items) held c.in_order-zones.ensures)
    (rw c.deref-then-are_soon_compared.ensures.value at c.few_apart.ensures.held)
