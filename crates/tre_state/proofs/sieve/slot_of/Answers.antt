use Rattle.std.proofs.Common.{get_or, ap, ◌∙◌, arith}
use Rattle.tre_state.proofs.Sieving.{slot_none, slot_is}
use Rattle.tre_state.proofs.sieve.slot_of.Goals as goal

pub returns-then-len-eq0-clause-slot : goal.returns-then-len-eq0-clause-slot
returns-then-len-eq0-clause-slot c = slot_none c.args.bytes.now c.if-len-eq0.true

pub returns-clause-slot : goal.returns-clause-slot
returns-clause-slot c =
    slot_is c.args.bytes.now c.from-last.result c.from-before.result c.from-middle.result
    c.from-last.ensures
    (c.from-before.ensures
    ∙ ap (λ i. get_or c.args.bytes.now i 0) (omega (arith, c.saturating_sub.ensures)))
    c.from-middle.ensures
