use Rattle.std.proofs.lemmas.List.Sorted.{IsPermutation-trans}
use Rattle.tre_show.proofs.order.sort.Goals as goal

pub returns-then-not-are_rising-clause-same : goal.returns-then-not-are_rising-clause-same
returns-then-not-are_rising-clause-same c =
    IsPermutation-trans _ _ _ c.move_near.ensures c.sort_far.ensures.same
