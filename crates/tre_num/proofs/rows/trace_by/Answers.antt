use Rattle.std.proofs.Common.{◌≡◌, None, true, refl, sym, ap, subst, ◌∙◌}
use Rattle.std.proofs.lemmas.Result.{IfErr-weaker, IfOk-weaker, err_from_is_err_and}
use Rattle.tre_num.specs.Rows.{rows_recording}
use Rattle.tre_num.specs.Times.{rows-are_trace}
use Rattle.tre_num.proofs.Tables.{all-added, ends-quiet, whole-is}
use Rattle.tre_trace.specs.Reading.{reading_for}
use Rattle.tre_trace.specs.Trace.{IsTrace, Timeline, quiet}
use Rattle.tre_num.proofs.rows.trace_by.Goals as goal

pub returns-in_err-read-clause-trace : goal.returns-in_err-read-clause-trace
returns-in_err-read-clause-trace c =
    let p = err_from_is_err_and c.from_residual.result c.from_residual.ensures.1 in rw p.1 tt

pub returns-in_err-read-clause-fault : goal.returns-in_err-read-clause-fault
returns-in_err-read-clause-fault c =
    let p = err_from_is_err_and c.from_residual.result c.from_residual.ensures.1 in
    rw (p.1, p.2) (c.in_err-read.ensures.refused c.args.bytes.now refl).told

pub returns-in_err-read-clause-placed : goal.returns-in_err-read-clause-placed
returns-in_err-read-clause-placed c =
    let p = err_from_is_err_and c.from_residual.result c.from_residual.ensures.1 in
    rw (p.1, p.2) c.in_err-read.ensures.placed

pub trace_of-requires : goal.trace_of-requires
trace_of-requires c =
    let bytes = c.args.bytes.now in
    let terms = c.args.table.now.terms in
    let asked = c.args.table.now.names in
    let now = rows_recording terms true bytes in
    let all = all-added asked c.new-segments.result.items c.read.new.segments.items now
    c.new-segments.ensures.items (c.in_ok-read.ensures.adds bytes refl) in
    subst IsTrace (sym all) (rows-are_trace terms asked true bytes)

pub returns-clause-trace : goal.returns-clause-trace
returns-clause-trace c =
    let bytes = c.args.bytes.now in
    let terms = c.args.table.now.terms in
    let asked = c.args.table.now.names in
    let segments = c.read.new.segments.items in
    let now = rows_recording terms true bytes in
    let all = all-added asked c.new-segments.result.items segments now
    c.new-segments.ensures.items (c.in_ok-read.ensures.adds bytes refl) in
    let whole = whole-is segments (reading_for asked now) all
    (ends-quiet terms asked bytes) (c.in_ok-read.ensures.whole bytes refl) in
    IfOk-weaker c.trace_of.result (λ trace. trace ≡ quiet segments)
    (λ trace. reading_for asked now
    ≡ record { segments = trace.segments; last = trace.last; fault = None })
    (λ trace same. whole ∙ ap (λ (trace : Timeline). record {
      segments = trace.segments;
      last = trace.last;
      fault = None;
    }) (sym same)) c.trace_of.ensures.trace

pub returns-clause-fault : goal.returns-clause-fault
returns-clause-fault c =
    IfErr-weaker c.trace_of.result _ _ (λ fault memory other. absurd (other memory))
    c.trace_of.ensures.fault

pub returns-clause-placed : goal.returns-clause-placed
returns-clause-placed c = c.trace_of.ensures.placed
