use Rattle.std.proofs.Common.{rules}
use Rattle.std.proofs.lemmas.List.Sorted.{IsNonDecreasingBy-from_sort_by_key}
use Rattle.tre_strips.specs.Sweep.{begin_of}
use Rattle.tre_strips.proofs.Whole.{AreInTurn-sorted, HaveSamePairs-permutation}
use Rattle.tre_strips.proofs.canonical.in_turn.Goals as goal

pub returns-clause-turn : goal.returns-clause-turn
returns-clause-turn c =
    AreInTurn-sorted _ _ c.sort_unstable_by_key.ensures.permutation c.requires
    (IsNonDecreasingBy-from_sort_by_key begin_of c.sort_unstable_by_key.new.self.items
    c.sort_unstable_by_key.ensures.sorted (λ a r f k. search rules))

pub returns-clause-same : goal.returns-clause-same
returns-clause-same c =
    HaveSamePairs-permutation _ _ c.sort_unstable_by_key.ensures.permutation
