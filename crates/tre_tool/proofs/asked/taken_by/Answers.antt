use Rattle.tre_tool.proofs.Texts.{Spell-taken, IsRefusalOf-taken}
use Rattle.tre_tool.proofs.asked.taken_by.Goals as goal

pub returns-in-Ok-clause-spells : goal.returns-in-Ok-clause-spells
returns-in-Ok-clause-spells c = λ pattern first.
    Spell-taken c.args.job.now pattern c.in-Ok.pattern _ c.text.result.now
    c.in-Some.is c.text.ensures
    c.in-Ok.ensures.outcome first

pub returns-in-Err-clause-refuses : goal.returns-in-Err-clause-refuses
returns-in-Err-clause-refuses c = rw c.minus_status.ensures (λ never patterns first.
    IsRefusalOf-taken c.args.job.now _ c.text.result.now c.in-Err.fault c.in-Some.is
    c.text.ensures
    c.in-Err.ensures.outcome never patterns first)
