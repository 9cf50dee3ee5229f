use Rattle.tre_show.proofs.LineOrder.{line_before}
use Rattle.tre_show.proofs.laws.line_order.Goals as goal

pub returns : goal.returns
returns c = line_before
