use Rattle.std.proofs.Common.{rules}
use Rattle.std.proofs.lemmas.List.{take_all, take_more}
use Rattle.std.proofs.lemmas.Result.{err_from_is_err_and}
use Rattle.tre_vcd.proofs.definitions.copy_of.Goals as goal

pub loop-definition-init : goal.loop-definition-init
loop-definition-init c = c.new-copies.ensures.items

pub returns-in_err-push_copy : goal.returns-in_err-push_copy
returns-in_err-push_copy c =
    let p = err_from_is_err_and c.from_residual.result c.from_residual.ensures.1 in rw p.1 tt

pub loop-definition-preserved : goal.loop-definition-preserved
loop-definition-preserved c =
    search (rules, take_more, c.loop-definition.invariant, c.args.definitions.now)

pub returns : goal.returns
returns c = search (rules, take_all, c.loop-definition.definition-index)
