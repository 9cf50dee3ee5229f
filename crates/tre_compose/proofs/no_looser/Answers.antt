use Rattle.tre_compose.proofs.Joined.{no_looser-key}
use Rattle.tre_compose.proofs.no_looser.Goals as goal

pub returns-clause-key : goal.returns-clause-key
returns-clause-key c = λ direct left right.
    rw (c.tighter.ensures, c.plus.ensures.key)
    (no_looser-key c.args.direct.now c.args.left.now c.args.right.now direct left right)
