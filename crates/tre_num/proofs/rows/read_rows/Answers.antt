use Rattle.std.proofs.Common.{◌≡◌, ◌≢◌, ◌∙◌, None, Some, true, ap, subst}
use Rattle.std.specs.Prelude.{IfErr, IfOk}
use Rattle.tre_num.specs.Rows.{ColumnTerms, rows_recording}
use Rattle.tre_num.specs.Told.{TableTerms}
use Rattle.tre_trace.specs.Reading.{Vocabulary, reading_for}
use Rattle.tre_trace.specs.declared.fault.TraceKind.TheVariants.{Memory}
use Rattle.tre_num.proofs.rows.read_rows.Goals as goal

abbrev read_by : ColumnTerms → Vocabulary → TableTerms
read_by terms names = record { terms = terms; names = names }

pub returns-clause-trace : goal.returns-clause-trace
returns-clause-trace c =
    let names : Vocabulary = record { names = c.args.names; events = c.args.events } in
    let is = c.new-table.ensures
    ∙ ap (λ terms. read_by terms names) (c.in-Ok.ensures c.args.scale) in
    subst (λ (by : TableTerms). IfOk c.trace_by.result (λ trace.
    reading_for by.names (rows_recording by.terms true c.args.bytes.now)
    ≡ record { segments = trace.segments; last = trace.last; fault = None }))
    is c.trace_by.ensures.trace

pub returns-clause-fault : goal.returns-clause-fault
returns-clause-fault c =
    let names : Vocabulary = record { names = c.args.names; events = c.args.events } in
    let is = c.new-table.ensures
    ∙ ap (λ terms. read_by terms names) (c.in-Ok.ensures c.args.scale) in
    subst (λ (by : TableTerms). IfErr c.trace_by.result (λ fault. fault.kind ≢ Memory
    → (rows_recording by.terms true c.args.bytes.now).fault ≡ Some fault))
    is c.trace_by.ensures.fault

pub returns-clause-placed : goal.returns-clause-placed
returns-clause-placed c = c.trace_by.ensures.placed
