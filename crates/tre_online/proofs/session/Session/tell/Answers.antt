use Rattle.std.proofs.Common.{List, subst}
use Rattle.std.proofs.lemmas.Result.{on_ok_weaker}
use Rattle.tre_zone.specs.ZoneList.{SetHolds, HoldExactly}
use Rattle.tre_zone.specs.declared.zone_bounds.ZoneBounds.{ZoneBounds}
use Rattle.tre_online.proofs.session.Session.tell.Goals as goal

pub returns-clause-same : goal.returns-clause-same
returns-clause-same c =
    on_ok_weaker c.keep_apart.result
    (λ same. subst (λ (list : List ZoneBounds).
    HoldExactly c.keep_apart.new.zones.items (SetHolds list))
    (rw (c.deref.ensures.value, c.deref-2.ensures.value, c.around-around.ensures) at
    c.in_ok-put_told.ensures) same) c.keep_apart.ensures.same
