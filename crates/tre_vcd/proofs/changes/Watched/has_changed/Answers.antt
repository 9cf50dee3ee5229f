use Rattle.tre_vcd.proofs.changes.Watched.has_changed.Goals as goal

pub returns-in-Some : goal.returns-in-Some
returns-in-Some c = rw c.in-Some.is c.differ.ensures
