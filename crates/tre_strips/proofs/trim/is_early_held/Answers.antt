use Rattle.std.proofs.Common.{refl}
use Rattle.tre_strips.proofs.Trimming.{IsEarlyHeld-covered, IsEarlyHeld-some, IsEarlyHeld-none}
use Rattle.tre_strips.proofs.trim.is_early_held.Goals as goal

pub returns-then-covers_early : goal.returns-then-covers_early
returns-then-covers_early c = λ yes_it.
    IsEarlyHeld-covered c.args.zone.now c.args.other.now c.args.last.now
    (c.if-covers_early.ensures.0 refl)

pub returns-in-Some : goal.returns-in-Some
returns-in-Some c = λ yes_it.
    IsEarlyHeld-some c.args.zone.now c.args.other.now c.in-Some.early c.args.last.now
    c.in-Some.ensures (c.includes.ensures.pairs.0 yes_it)

pub returns-in-None : goal.returns-in-None
returns-in-None c = λ yes_it.
    IsEarlyHeld-none c.args.zone.now c.args.other.now c.args.last.now c.in-None.ensures
