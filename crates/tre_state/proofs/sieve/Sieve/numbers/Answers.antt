use Rattle.tre_state.proofs.Sieving.{both_set}
use Rattle.tre_state.proofs.sieve.Sieve.numbers.Goals as goal

pub returns : goal.returns
returns c = λ k may.
    rw (c.slot_of.ensures.slot, c.last_of.ensures.last, c.self.view_is)
    (both_set _ _ k may.0 may.1)
