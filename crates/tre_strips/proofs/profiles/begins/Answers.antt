use Rattle.tre_strips.proofs.ZoneBars.{Begin-before, Begin-told}
use Rattle.tre_strips.proofs.profiles.begins.Goals as goal

pub returns-then-is_before-clause-told : goal.returns-then-is_before-clause-told
returns-then-is_before-clause-told c =
    Begin-before _ _ _ (rw c.low_end.ensures at c.if-is_before.ensures.told)

pub returns-clause-told : goal.returns-clause-told
returns-clause-told c =
    Begin-told c.is_before.new.self c.is_before-2.new.self c.args.low.now c.args.high.now
    c.is_before-2.result c.is_before-2.ensures.narrowed
    (rw c.low_end.ensures at c.if-is_before.ensures.told)
    (rw c.high_end.ensures at c.is_before-2.ensures.told)
