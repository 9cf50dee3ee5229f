use Rattle.tre_compose.specs.Composition.{joined_of, composed_of}
use Rattle.tre_zone.proofs.ZoneKeys.{zones_same}
use Rattle.tre_compose.proofs.composed.Goals as goal

pub returns : goal.returns
unfolding joined_of composed_of
returns c =
    zones_same _ _ c.no_looser-begin_low.ensures.bound c.no_looser-begin_high.ensures.bound
    c.no_looser-end_low.ensures.bound c.no_looser-end_high.ensures.bound
    (rw (
      c.plus-shortest.ensures.key,
      c.no_looser-begin_high.ensures.bound,
      c.no_looser-end_low.ensures.bound,
    ) at c.no_looser.ensures.bound)
    (rw (
      c.plus-longest.ensures.key,
      c.no_looser-end_high.ensures.bound,
      c.no_looser-begin_low.ensures.bound,
    ) at c.no_looser-2.ensures.bound)
