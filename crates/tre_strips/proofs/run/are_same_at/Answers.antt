use Rattle.std.proofs.Common.{rules}
use Rattle.tre_strips.proofs.Comparing.{sample_single}
use Rattle.tre_strips.proofs.run.are_same_at.Goals as goal

pub returns : goal.returns
returns c = search (rules, sample_single, c.args.bars.now, c.args.others.now)
