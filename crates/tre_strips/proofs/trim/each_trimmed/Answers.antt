use Rattle.tre_strips.proofs.Trimming.{IsTrimmed-none, IsTrimmed-more, IsTrimmed-all}
use Rattle.tre_strips.proofs.trim.each_trimmed.Goals as goal

pub loop-zone-init : goal.loop-zone-init
loop-zone-init c = rw c.in_ok-kept.ensures.items IsTrimmed-none

pub loop-zone-preserved : goal.loop-zone-preserved
loop-zone-preserved c =
    IsTrimmed-more _ _ _ _ _ _ _ c.loop-zone-test.true c.zone-item.is c.loop-zone.invariant
    c.rest_of.ensures c.in_ok-push_found.ensures.held c.in_ok-push_found.ensures.canonical

pub returns : goal.returns
returns c = record {
  held = IsTrimmed-all c.args.zones.now c.loop-zone.zone-index c.loop-zone.before
      c.loop-zone.kept.items c.loop-zone-test.false c.loop-zone.invariant;
  canonical = c.loop-zone.invariant.canonical;
}
