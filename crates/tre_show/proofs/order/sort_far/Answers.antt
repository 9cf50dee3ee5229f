use Rattle.std.proofs.Common.{rules}
use Rattle.std.proofs.lemmas.List.Sorted.{answers_always}
use Rattle.tre_show.specs.Order.{sort_key, IsRising}
use Rattle.tre_show.proofs.order.sort_far.Goals as goal

pub returns-clause-rising : goal.returns-clause-rising
unfolding IsRising
returns-clause-rising c =
    c.sort_unstable_by_key.ensures.sorted sort_key
    (answers_always _ _ _ (λ f a r g h. search rules))
