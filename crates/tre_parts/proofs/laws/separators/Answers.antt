use Rattle.tre_parts.proofs.Blanks.{blank_more, blank_alike, blank_end}
use Rattle.tre_parts.proofs.laws.separators.Goals as goal

pub returns-clause-more : goal.returns-clause-more
returns-clause-more g c = λ terms. blank_more (g.R.PartReader.format terms)

pub returns-clause-alike : goal.returns-clause-alike
returns-clause-alike g c = λ terms. blank_alike (g.R.PartReader.format terms)

pub returns-clause-last : goal.returns-clause-last
returns-clause-last g c = λ terms. blank_end (g.R.PartReader.format terms)
