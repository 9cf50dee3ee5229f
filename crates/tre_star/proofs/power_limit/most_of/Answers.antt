use Rattle.std.proofs.Common.{rules}
use Rattle.std.proofs.lemmas.Int.{to_z-of_z}
use Rattle.tre_star.proofs.Powers.{value_within}
use Rattle.tre_star.proofs.power_limit.most_of.Goals as goal

pub returns-clause-limit : goal.returns-clause-limit
returns-clause-limit c = search (rules, to_z-of_z, value_within, c.value.ensures, c.args.high.now)
