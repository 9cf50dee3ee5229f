use Rattle.tre_offline.proofs.Beginnings.{joined_end}
use Rattle.tre_offline.proofs.beginning.with_end.Goals as goal

pub returns : goal.returns
returns c =
    joined_end c.args.end c.args.found c.add.new.self c.instants.result c.instants.ensures.held
    c.in_ok-add.ensures.held
