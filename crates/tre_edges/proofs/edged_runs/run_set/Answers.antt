use Rattle.tre_state.specs.State.{tree_of}
use Rattle.tre_edges.proofs.edged_runs.run_set.Goals as goal

pub places_of-requires-clause-size : goal.places_of-requires-clause-size
places_of-requires-clause-size c = rw c.deref.ensures.value c.in_ok-words.ensures.size

pub returns : goal.returns
returns c =
    rw c.deref.ensures.value at
    (c.in_ok-places.ensures.held (tree_of c.args.state.now)
    (rw c.deref.ensures.value c.in_ok-words.ensures))
