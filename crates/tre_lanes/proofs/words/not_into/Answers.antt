use Rattle.std.proofs.Common.{◌∙◌}
use Rattle.std.specs.Int.{bit_not, w64}
use Rattle.tre_lanes.proofs.Combining.{zip2-right}
use Rattle.tre_lanes.proofs.words.not_into.Goals as goal

pub returns : goal.returns
returns c = c.combine.ensures ∙ zip2-right (bit_not w64) c.args.a.now c.args.b.now c.requires
