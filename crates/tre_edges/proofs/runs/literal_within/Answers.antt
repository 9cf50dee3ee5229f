use Rattle.std.proofs.Common.{rules}
use Rattle.tre_state.specs.State.{tree_of}
use Rattle.tre_edges.specs.RunParts.{anywhere}
use Rattle.tre_edges.proofs.PartsOfRuns.{literal_given}
use Rattle.tre_edges.proofs.runs.literal_within.Goals as goal

pub returns : goal.returns
returns g c =
    search (rules, literal_given, anywhere, tree_of, g.T.AnyTrace.timeline, c.in_ok-zones.zones)
