use Rattle.tre_edges.proofs.EmptySets.{empty_set}
use Rattle.tre_edges.proofs.room.room_for_runs.Goals as goal

pub returns : goal.returns
returns c =
    empty_set c.in_ok-room.room.items c.in_ok-zones.zones c.in_ok-room.ensures.items
    c.zones-zones.ensures.tight c.in_ok-zones.ensures
