use Rattle.tre_feed.proofs.Standing.{no_both, refused_faulty, takes_refused}
use Rattle.tre_feed.proofs.each.Fed.finish.Goals as goal

pub returns-in-Err-clause-last : goal.returns-in-Err-clause-last
returns-in-Err-clause-last g c = λ bytes stands more none. absurd (refused_faulty _ _ _ _ _ _
    (c.in-Err.ensures.refused bytes stands)
    (λ is. no_both c.ne.result (rw is at c.ne.ensures) more) none)

pub returns-in-Err-clause-takes : goal.returns-in-Err-clause-takes
returns-in-Err-clause-takes g c = λ bytes stands. takes_refused _ _ _ _ _ _ _
    (c.in-Err.ensures.refused bytes stands)
    (λ more is. no_both c.ne.result (rw is at c.ne.ensures) more)
