use Rattle.tre_offline.proofs.Beginnings.{one_moment}
use Rattle.tre_offline.proofs.beginning.the_end.Goals as goal

pub returns : goal.returns
returns c =
    one_moment c.args.end c.new-found.result c.add.new.self c.instants.result c.new-found.ensures
    c.instants.ensures.held c.in_ok-add.ensures.held
