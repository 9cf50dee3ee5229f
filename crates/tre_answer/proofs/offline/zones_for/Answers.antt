use Rattle.std.proofs.Common.{◌∙◌, List, sym, true≢false}
use Rattle.std.specs.Cmp.Lexicographic.{slice_cmp}
use Rattle.std.specs.List.Sorted.{IsSortedByKey}
use Rattle.std.specs.Ordering.{int_cmp}
use Rattle.tre_show.specs.Order.{IsRising}
use Rattle.tre_strips.specs.Listed.{line_key}
use Rattle.tre_zone.specs.declared.zone_bounds.ZoneBounds.{ZoneBounds}
use Rattle.tre_answer.proofs.offline.zones_for.Goals as goal

-- strips are listed in the order in which zones are printed
is_rising : (zones : List ZoneBounds) → IsSortedByKey line_key (slice_cmp int_cmp) zones
    → IsRising zones
unfolding IsRising
is_rising zones rising = rising

pub returns-then-normal-clause-zones : goal.returns-then-normal-clause-zones
returns-then-normal-clause-zones c =
    let listed = c.in_ok-zones.ensures.listed in
    record {
      exact = c.in_ok-zones.ensures.held;
      apart = listed.apart;
      tight = listed.tight;
      rising = is_rising _ listed.rising;
      strips = λ asked. c.in_ok-zones.ensures.strips;
    }

pub returns-clause-zones : goal.returns-clause-zones
returns-clause-zones c =
    let order = c.in_printed_order.ensures in
    let set = order.set c.into_zones.ensures.set in
    record {
      exact = record {
        exact = λ a b n positive rises. rw c.into_zones.ensures.same at order.held a b n;
      };
      apart = set.apart;
      tight = order.tight c.into_zones.ensures.set;
      rising = order.rising;
      strips = λ asked. absurd (true≢false (sym asked ∙ c.if-normal.false));
    }
