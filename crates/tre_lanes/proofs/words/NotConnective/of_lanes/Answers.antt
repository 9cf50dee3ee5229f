use Rattle.std.proofs.Common.{sym, ◌∙◌}
use Rattle.std.specs.Int.{bit_not, w64}
use Rattle.tre_lanes.proofs.Combining.{zip2-right}
use Rattle.tre_lanes.proofs.words.NotConnective.of_lanes.Goals as goal

pub returns : goal.returns
returns c = sym (zip2-right (bit_not w64) c.args._a c.args.b (c.fits-_a.0 ∙ sym c.fits-b.0))
