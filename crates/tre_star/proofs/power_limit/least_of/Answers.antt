use Rattle.std.proofs.Common.{rules}
use Rattle.std.proofs.lemmas.Int.{to_z-of_z}
use Rattle.tre_star.proofs.Powers.{least_value, value_within}
use Rattle.tre_star.proofs.power_limit.least_of.Goals as goal

pub returns-clause-value : goal.returns-clause-value
returns-clause-value c = search (rules, to_z-of_z, least_value, c.value.ensures, c.args.low.now)

pub returns-clause-limit : goal.returns-clause-limit
returns-clause-limit c = search (rules, to_z-of_z, value_within, c.value.ensures, c.args.low.now)
