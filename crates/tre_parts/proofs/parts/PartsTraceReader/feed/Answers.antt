use Rattle.std.proofs.Common.{length-append, arith}
use Rattle.tre_parts.proofs.Fed.{fed-more}
use Rattle.tre_parts.proofs.parts.PartsTraceReader.feed.Goals as goal

pub returns-clause-goes_on : goal.returns-clause-goes_on
returns-clause-goes_on g c = λ bytes fed.
    let terms = g.R.PartReader.terms c.args.self.now.walk.reader in
    let takes = c.in_ok-feed.ensures.takes terms bytes fed.at
    (omega (arith, c.requires.room, fed.counts)) in
    fed-more g.R.PartReader.terms g.R.PartReader.format
    g.R.PartReader.holds terms _ _ _ _ _ takes.0
    c.in_ok-feed.ensures.same_terms
    (omega (arith, fed.counts, length-append bytes c.args.piece.now))
