use Rattle.tre_zone.proofs.Ranges.{canonical-ranges}
use Rattle.tre_zone.proofs.laws.canonical_ranges.Goals as goal

pub returns : goal.returns
returns c = canonical-ranges
