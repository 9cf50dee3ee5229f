use Rattle.tre_star.proofs.Powers.{overlaps}
use Rattle.tre_star.proofs.power_limit.fewest_steps.Goals as goal

pub returns-clause-overlap : goal.returns-clause-overlap
returns-clause-overlap c = overlaps c.args.least c.args.most c.requires.rising
