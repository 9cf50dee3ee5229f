use Rattle.std.proofs.Common.{refl}
use Rattle.tre_zone.proofs.ZoneListLemmas.{SetHolds-empty}
use Rattle.tre_zoneset.proofs.Unions.{HoldExactly-none_beside, OnErr-from}
use Rattle.tre_zoneset.proofs.zone_set.ZoneSet.join.Goals as goal

pub returns-in_err-joined-clause-err : goal.returns-in_err-joined-clause-err
returns-in_err-joined-clause-err c =
    OnErr-from _ c.from_residual.result
    (0, HoldExactly-none_beside c.args.self.now _ (λ a b n h. SetHolds-empty a b n h))

pub returns-then-is_empty-clause-held : goal.returns-then-is_empty-clause-held
returns-then-is_empty-clause-held c =
    rw (c.if-is_empty.ensures.0 refl)
    (HoldExactly-none_beside c.args.self.now _ (λ a b n h. SetHolds-empty a b n h))
