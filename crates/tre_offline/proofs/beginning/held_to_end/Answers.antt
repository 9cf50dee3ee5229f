use Rattle.std.proofs.lemmas.Result.{IfOk-at_ok}
use Rattle.tre_offline.proofs.Beginnings.{held_there}
use Rattle.tre_offline.proofs.beginning.held_to_end.Goals as goal

pub returns : goal.returns
returns c = λ x rest is exact.
    held_there rest c.args.end is c.args.longest x c.in_ok-all.all c.in_ok-there.there
    c.in_ok-found.found c.add.new.self c.instants.result
    (IfOk-at_ok _ c.in_ok-all.was exact) c.in_ok-there.ensures c.in_ok-found.ensures
    c.instants.ensures.held c.in_ok-add.ensures.held
