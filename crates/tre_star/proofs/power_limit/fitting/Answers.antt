use Rattle.tre_star.proofs.Powers.{sum_of-lower}
use Rattle.tre_star.proofs.power_limit.fitting.Goals as goal

pub returns-else-key-clause-far : goal.returns-else-key-clause-far
returns-else-key-clause-far c =
    rw c.tighter.ensures
    (sum_of-lower c.args.near.now c.args.far.now c.args.least.now c.requires.rising)
