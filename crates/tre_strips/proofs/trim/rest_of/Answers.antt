use Rattle.tre_strips.proofs.Trimming.{Trims-none, Trims-some}
use Rattle.tre_strips.proofs.trim.rest_of.Goals as goal

pub returns-in-Some : goal.returns-in-Some
returns-in-Some c =
    rw c.in-Some.is (Trims-some c.args.zone.now c.in-Some.other _ c.rest_behind.ensures)

pub returns-in-None : goal.returns-in-None
returns-in-None c = rw c.in-None.is (Trims-none c.args.zone.now)
