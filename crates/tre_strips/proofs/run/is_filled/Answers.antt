use Rattle.std.proofs.Common.{rules}
use Rattle.tre_strips.specs.Bar.{place_of}
use Rattle.tre_strips.proofs.Comparing.{sample_single}
use Rattle.tre_strips.proofs.run.is_filled.Goals as goal

pub returns : goal.returns
returns c = search (rules, place_of, sample_single, c.args.bar.now.low, c.args.bar.now.high)
