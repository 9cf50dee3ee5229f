use Rattle.tre_strips.proofs.trim.covers_early.Goals as goal

pub returns : goal.returns
returns c =
    rw (c.bounds.ensures.same, c.bounds-2.ensures.same) at c.are_looser.ensures
