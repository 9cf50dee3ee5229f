use Rattle.std.proofs.Common.{◌∙◌, ap, arith}
use Rattle.std.proofs.lemmas.List.{get_or_read}
use Rattle.tre_trace.specs.Trace.{Timeline, end_of}
use Rattle.tre_answer.proofs.Wanted.{first_removed}
use Rattle.tre_answer.proofs.offline.printed_matches.Goals as goal

pub returns-clause-zones : goal.returns-clause-zones
returns-clause-zones c =
    rw (first_removed c.args.traces.items _ _ (omega (arith, c.requires.count, c.requires.some))
    c.remove-first.ensures.value (c.deref.ensures.value ∙ c.remove-first.ensures.items))
    at c.in_ok-zones.ensures

pub returns-clause-end : goal.returns-clause-end
returns-clause-end c =
    c.end-end.ensures.end ∙ ap (λ (trace : Timeline). end_of 0 trace.segments)
    (get_or_read c.args.traces.items 0 _
    (omega (arith, c.requires.count, c.requires.some)) c.remove-first.ensures.value _)
