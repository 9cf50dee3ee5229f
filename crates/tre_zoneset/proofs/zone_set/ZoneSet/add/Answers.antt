use Rattle.std.proofs.Common.{refl}
use Rattle.tre_zoneset.specs.ZoneSet.{IsAdded}
use Rattle.tre_zoneset.proofs.Members.{IsZoneSet-push}
use Rattle.tre_zoneset.proofs.Kept.{IsZoneSet-kept, IsApartFrom-kept}
use Rattle.tre_zoneset.proofs.Unions.{HoldExactly-added, HoldExactly-included}
use Rattle.tre_zoneset.proofs.zone_set.ZoneSet.add.Goals as goal

pub returns-then-some_includes-clause-held : goal.returns-then-some_includes-clause-held
returns-then-some_includes-clause-held c =
    HoldExactly-included c.args.self.now c.args.zone
    (rw (c.deref.ensures.value, c.self.view_is) at (c.if-some_includes.ensures.0 refl))

added : (c : goal.In_ok-put_last) → IsAdded c.args.self.now c.args.zone c.put_last.new.zones.items
added c = rw c.self.view_is at c.in_ok-put_last.ensures.ok

pub invariant_of-self-2 : goal.invariant_of-self-2
invariant_of-self-2 c =
    let is = added c in
    rw is.last
    (IsZoneSet-push is.kept c.args.zone
    (IsZoneSet-kept _ c.args.self.now is.kept is.without (rw c.self.view_is at c.self.invariant))
    (IsApartFrom-kept c.args.zone c.args.self.now is.kept is.without
    (λ any. let e = c.if-some_includes.ensures.1
    (rw (c.deref.ensures.value, c.self.view_is) any) in (cc)))
    c.bounds-bounds.ensures.canonical)

pub returns-clause-added : goal.returns-clause-added
returns-clause-added c = λ yes. added c

pub returns-clause-held : goal.returns-clause-held
returns-clause-held c =
    let is = added c in
    rw is.last (HoldExactly-added c.args.self.now is.kept c.args.zone is.without)

pub returns-clause-set : goal.returns-clause-set
returns-clause-set c = invariant_of-self-2 c
