use Rattle.std.proofs.Common.{◌∷◌, [], refl}
use Rattle.tre_trace.proofs.Segments.{end_of-append}
use Rattle.tre_trace.proofs.trace.Trace.push.Goals as goal

pub returns-in-Ok-clause-ends : goal.returns-in-Ok-clause-ends
returns-in-Ok-clause-ends c =
    rw (c.in-Ok.ensures.ok, end_of-append 0 c.args.self.now.segments (c.args.segment ∷ [])) refl
