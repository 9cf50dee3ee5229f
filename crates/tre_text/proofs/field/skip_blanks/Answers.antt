use Rattle.tre_text.proofs.Fields.{take-rest}
use Rattle.tre_text.proofs.Words.{rest_from}
use Rattle.tre_text.proofs.field.skip_blanks.Goals as goal

pub returns-clause-rest : goal.returns-clause-rest
returns-clause-rest c =
    rw (take-rest c.loop-start.start c.args.bytes.now)
    (rest_from c.args.bytes.now c.loop-start.start c.loop-start.invariant.within)
