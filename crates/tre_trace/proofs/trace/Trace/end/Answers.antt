use Rattle.std.proofs.Common.{ap, ◌∙◌}
use Rattle.std.specs.Prelude.{sum_by}
use Rattle.tre_trace.proofs.Segments.{end_of-sum}
use Rattle.tre_trace.proofs.trace.Trace.end.Goals as goal

pub returns-clause-lengths : goal.returns-clause-lengths
returns-clause-lengths c =
    c.self.invariant.1 ∙ end_of-sum c.self.inside.segments.items
    ∙ ap (λ trace. sum_by (λ segment. segment.len) trace.segments) c.self.view_is
