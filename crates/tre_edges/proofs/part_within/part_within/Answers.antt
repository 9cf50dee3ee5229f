use Rattle.std.proofs.Common.{rules}
use Rattle.tre_edges.proofs.PartsOfRuns.{any_length}
use Rattle.tre_edges.proofs.part_within.part_within.Goals as goal

pub returns-in-None : goal.returns-in-None
returns-in-None c = search (rules, any_length, c.part_of_run.result, c.args.edges, c.args.begin)
