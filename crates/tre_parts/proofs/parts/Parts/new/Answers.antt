use Rattle.tre_parts.proofs.Fed.{fed-start}
use Rattle.tre_parts.proofs.parts.Parts.new.Goals as goal

pub returns-clause-fed : goal.returns-clause-fed
returns-clause-fed g c =
    rw c.new-part.ensures.items
    (fed-start g.R.PartReader.terms g.R.PartReader.format
    g.R.PartReader.holds c.args.reader c.requires.begins)
