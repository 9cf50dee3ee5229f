use Rattle.tre_node.proofs.Begins.{begins_stretch, begins_are, no_begins}
use Rattle.tre_node.proofs.stretches.begins_before.Goals as goal

pub returns-in-Some : goal.returns-in-Some
returns-in-Some c =
    rw c.bounds-bounds.ensures.same (
      begins_stretch c.args.zone.now c.in-Some.early c.args.time c.bounds-bounds.ensures.canonical
          c.in-Some.ensures,
      begins_are c.args.zone.now c.in-Some.early c.args.time c.bounds-bounds.ensures.canonical
          c.in-Some.ensures,
    )

pub returns-in-None : goal.returns-in-None
returns-in-None c = no_begins c.args.zone.now c.args.time c.in-None.ensures
