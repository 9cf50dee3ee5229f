use Rattle.std.proofs.lemmas.Result.{on_ok_weaker}
use Rattle.tre_node.proofs.Joins.{keeps_early, keeps_late}
use Rattle.tre_node.proofs.joining.put_early_zone.Goals as goal

pub returns-in-Some : goal.returns-in-Some
returns-in-Some c =
    on_ok_weaker c.put_near.result
    (keeps_early c.args.reach c.args.time c.args.outer.now.items c.args.zone.now c.in-Some.early
    c.put_near.new.outer.items c.in-Some.ensures) c.put_near.ensures

pub returns-in-None : goal.returns-in-None
returns-in-None c =
    keeps_late c.args.reach c.args.time c.args.outer.now.items c.args.zone.now c.in-None.ensures
