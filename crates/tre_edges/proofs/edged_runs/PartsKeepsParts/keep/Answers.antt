use Rattle.std.proofs.Common.{arith}
use Rattle.std.proofs.lemmas.Result.{on_ok_weaker}
use Rattle.tre_edges.specs.RunParts.{LastsIn}
use Rattle.tre_edges.proofs.PartsOfRuns.{part_ended}
use Rattle.tre_edges.proofs.edged_runs.PartsKeepsParts.keep.Goals as goal

pub returns-in-Some-clause-ended : goal.returns-in-Some-clause-ended
returns-in-Some-clause-ended c =
    let parts = c.args.self.now in
    on_ok_weaker c.push_disjoint.result
    (λ held. part_ended (LastsIn parts.interval) parts.edges c.args.from.time c.args.to.time
    parts.zones c.push_disjoint.new.self c.in-Some.zone (omega (arith, c.requires.rising))
    c.requires.ended (rw c.in-Some.is at c.part_within.ensures) held)
    c.push_disjoint.ensures.held
