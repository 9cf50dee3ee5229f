use Rattle.tre_star.proofs.Behind.{found_is, found_never}
use Rattle.tre_star.proofs.tails.is_among.Goals as goal

pub returns-in-Some : goal.returns-in-Some
returns-in-Some c = λ yes a b n some le h.
    c.is_included.ensures yes a b n some le
    (found_is c.args.found.now c.in-Some.zone c.in-Some.is a b n h)

pub returns-in-None : goal.returns-in-None
returns-in-None c = λ yes a b n some le h.
    absurd (found_never c.args.found.now c.in-None.is a b n h)
