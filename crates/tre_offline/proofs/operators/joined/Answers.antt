use Rattle.std.proofs.lemmas.Result.{IfOk-at_ok}
use Rattle.tre_offline.proofs.Operations.{alternation_exact}
use Rattle.tre_offline.proofs.operators.joined.Goals as goal

pub returns : goal.returns
returns c = λ longest left right rest one other.
    alternation_exact longest left right rest c.args.one c.in_ok-other.other c.join.new.self one
    (IfOk-at_ok _ c.in_ok-other.was other) c.in_ok-join.ensures.held
