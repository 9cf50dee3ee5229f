use Rattle.tre_tell.proofs.Loop.{StandsAtMemory-unread}
use Rattle.tre_tell.proofs.laws.nothing_told.Goals as goal

pub returns : goal.returns
returns c = λ request input output nothing closed none.
    StandsAtMemory-unread request nothing input output (λ is_open. cc) none (λ is_open. cc)
