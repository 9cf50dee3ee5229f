use Rattle.std.proofs.Common.{rules}
use Rattle.tre_strips.specs.Sweep.{begin_of}
use Rattle.tre_strips.proofs.Sweeping.{BeginFrom-waiting, BeginFrom-none}
use Rattle.tre_strips.proofs.begins.next_begin.Goals as goal

pub returns-then-place-zones-clause-first : goal.returns-then-place-zones-clause-first
returns-then-place-zones-clause-first c =
    search (rules, begin_of, BeginFrom-waiting, c.args.place, c.args.zones.now, c.requires.turn)

pub returns-else-place-zones-clause-first : goal.returns-else-place-zones-clause-first
returns-else-place-zones-clause-first c = BeginFrom-none _ _ _ c.if-place-zones.false
