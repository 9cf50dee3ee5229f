use Rattle.std.proofs.Common.{rules, tests, ◌∙◌}
use Rattle.std.proofs.lemmas.Iterator.{YieldsList-from_slice}
use Rattle.std.proofs.lemmas.Iterator.Consumers.{count_from_yields_List}
use Rattle.std.proofs.lemmas.Iterator.Search.{YieldsList-from_take_while}
use Rattle.std.proofs.lemmas.List.Folds.{length-prefix_len}
use Rattle.tre_state.proofs.front.front_len.Goals as goal

pub returns-clause-len : goal.returns-clause-len
returns-clause-len g c = λ class same.
    count_from_yields_List c.take_while.result c.count.result c.count.ensures.ran
    (YieldsList-from_take_while _ class (YieldsList-from_slice c.args.bytes.now (cc))
    c.take_while.ensures.closure c.take_while.ensures.done (λ x b q k. search (rules, same, tests)))
    ∙ length-prefix_len class c.args.bytes.now
