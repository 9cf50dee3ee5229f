use Rattle.std.proofs.lemmas.Result.{on_ok_weaker}
use Rattle.tre_node.proofs.Lists.{exact_again, exact_alone}
use Rattle.tre_node.proofs.SetsOf.{lasting_set}
use Rattle.tre_node.proofs.combining.restrict_some.Goals as goal

pub returns : goal.returns
returns c =
    on_ok_weaker c.prune.result
    (λ same. lasting_set c.args.interval.now c.prune.new.zones.items c.args.zones.now
    (exact_again c.prune.new.zones.items c.gather_within.new.found.items _ same
    (exact_alone c.clear.ensures.items c.in_ok-gather_within.ensures))) c.prune.ensures
