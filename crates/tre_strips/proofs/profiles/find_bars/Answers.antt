use Rattle.std.proofs.Common.{rules}
use Rattle.tre_strips.proofs.Comparing.{Narrows-itself, Narrows-trans}
use Rattle.tre_strips.proofs.ZoneBars.{AreBarsOf-none, AreBarsOf-step, AreBarsOf-all}
use Rattle.tre_strips.proofs.profiles.find_bars.Goals as goal

pub loop-zone-init : goal.loop-zone-init
loop-zone-init c = search (rules, Narrows-itself, AreBarsOf-none, c.clear.ensures.items)

pub loop-zone-preserved : goal.loop-zone-preserved
loop-zone-preserved c = record {
  narrowed = Narrows-trans _ _ _ c.loop-zone.invariant.narrowed c.bar_of.ensures.narrowed;
  bars = AreBarsOf-step c.loop-zone.times c.bar_of.new.times c.args.zones.now c.loop-zone.zone-index
      c.zone-item.result c.loop-zone.bars.items c.push_found.new.bars.items c.bar_of.result
      c.loop-zone-test.true c.zone-item.is c.loop-zone.invariant.bars c.bar_of.ensures.narrowed
      c.bar_of.ensures.bar c.in_ok-push_found.ensures;
}

pub returns : goal.returns
returns c = record {
  narrowed = c.loop-zone.invariant.narrowed;
  bars = AreBarsOf-all _ c.args.zones.now c.loop-zone.zone-index c.loop-zone.bars.items
      c.loop-zone-test.false c.loop-zone.invariant.bars;
}
