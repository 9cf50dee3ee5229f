use Rattle.tre_generate.proofs.made_run.summary_of.Goals as goal

pub compared-requires-clause-matched : goal.compared-requires-clause-matched
compared-requires-clause-matched c =
    let found = rw c.in_ok-whole.ensures.first at c.matches.ensures in
    rw c.in_ok-whole.ensures.second (rw c.requires.made at found)
