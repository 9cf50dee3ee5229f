use Rattle.std.proofs.lemmas.Result.{on_ok_weaker}
use Rattle.tre_node.proofs.Lists.{exact_again, exact_alone}
use Rattle.tre_node.proofs.SetsOf.{both_set}
use Rattle.tre_node.proofs.combining.meet_some.Goals as goal

pub returns : goal.returns
returns c =
    on_ok_weaker c.prune.result
    (λ same. both_set c.prune.new.zones.items c.args.one.now c.args.other.now
    (exact_again c.prune.new.zones.items c.gather_meets.new.found.items _ same
    (exact_alone c.clear.ensures.items c.in_ok-gather_meets.ensures))) c.prune.ensures
