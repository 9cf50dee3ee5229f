use Rattle.tre_edges.proofs.WordBits.{cleared_part}
use Rattle.tre_edges.proofs.truth_words.clear_past.Goals as goal

pub returns-then-count-ne0 : goal.returns-then-count-ne0
returns-then-count-ne0 c = cleared_part c.args.count c.args.words.now c.requires c.if-count-ne0.true
