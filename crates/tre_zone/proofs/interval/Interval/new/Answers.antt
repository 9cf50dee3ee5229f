use Rattle.std.proofs.Common.{refl}
use Rattle.tre_pairs.specs.declared.TheConstants.{TIME_MAX}
use Rattle.tre_zone.proofs.Durations.{no_end, room, no_room, not_empty, interval_without_end, interval_to, high_within}
use Rattle.tre_zone.proofs.interval.Interval.new.Goals as goal

pub returns-in-None-clause-empty : goal.returns-in-None-clause-empty
returns-in-None-clause-empty c = rw c.in-None.is
    (not_empty _ (no_end c.args.low c.args.low_weak c.args.high_weak))

pub returns-then-has_room-clause-empty : goal.returns-then-has_room-clause-empty
returns-then-has_room-clause-empty c =
    rw c.in-Some.is (not_empty _ (room c.args.low c.args.low_weak c.in-Some.top c.args.high_weak
    (c.if-has_room.ensures.0 refl)))

pub returns-else-has_room-clause-empty : goal.returns-else-has_room-clause-empty
returns-else-has_room-clause-empty c =
    rw c.in-Some.is (
      (λ e. no_room c.args.low c.args.low_weak c.in-Some.top c.args.high_weak
          (λ h. let e = c.if-has_room.ensures.1 h in (cc))),
      (λ h. refl),
    )

pub invariant_of-result : goal.invariant_of-result
invariant_of-result c = rw c.in-None.is
    (interval_without_end c.args.low c.args.low_weak c.requires.low)

pub invariant_of-result-then-has_room : goal.invariant_of-result-then-has_room
invariant_of-result-then-has_room c =
    interval_to _ _ _ _ c.requires.low (high_within _ _ TIME_MAX c.in-Some.is c.requires.high)
    (c.if-has_room.ensures.0 refl)
