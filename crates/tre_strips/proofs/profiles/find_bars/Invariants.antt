use Rattle.std.proofs.Common.{take}
use Rattle.tre_strips.specs.Profiles.{AreBarsOf}
use Rattle.tre_strips.specs.Times.{Narrows}
use Rattle.tre_strips.proofs.profiles.find_bars.Given as goal

abbrev pub invariant-loop-zone : goal.invariant-loop-zone
invariant-loop-zone l = record {
  narrowed : Narrows l.initial.times l.times;
  bars : AreBarsOf l.times (take l.zone-index l.zones) l.bars.items;
}
