-- Sets that hold exactly a relation, and relations that hold of the same pairs.
use Rattle.std.proofs.Common.{List}
use Rattle.tre_pairs.specs.Pairs.{Pairs}
use Rattle.tre_pairs.proofs.Laws.{IsOrdered, Agree}
use Rattle.tre_zone.specs.ZoneList.{SetHolds, HoldExactly}
use Rattle.tre_zone.specs.declared.zone_bounds.ZoneBounds.{ZoneBounds}
use Rattle.tre_zone.proofs.Scaling.{SetHolds-rising}
use Rattle.tre_zoneset.specs.ZoneSet.{IsZoneSet}

-- A set that holds exactly an ordered relation agrees with it, also where no order is asked.
pub Agree-held : (zones : List ZoneBounds) (R : Pairs) → IsZoneSet zones → IsOrdered R
    → HoldExactly zones R → Agree (SetHolds zones) R
Agree-held zones R set ordered held = record {
  at = λ a b n some. (
    (λ h. (held.exact a b n some (SetHolds-rising zones set.canonical a b n some h)).0 h),
    (λ h. (held.exact a b n some (ordered.le a b n h)).1 h),
  );
}

pub HoldExactly-agree : (zones : List ZoneBounds) (R S : Pairs) → Agree R S
    → HoldExactly zones R → HoldExactly zones S
HoldExactly-agree zones R S same held = record {
  exact = λ a b n some le.
      let old = held.exact a b n some le in
      let both = same.at a b n some in
      ((λ h. both.0 (old.0 h)), (λ h. old.1 (both.1 h)));
}
