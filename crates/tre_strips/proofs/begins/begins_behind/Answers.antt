use Rattle.tre_strips.proofs.Sweeping.{BeginsBehind-last}
use Rattle.tre_strips.proofs.begins.begins_behind.Goals as goal

pub returns : goal.returns
returns c =
    BeginsBehind-last c.args.zone.now c.last_begin.ensures.canonical c.args.time _
    c.last_begin.ensures.last
