use Rattle.std.proofs.Common.{◌≡◌, ◌∙◌, ◌<◌, length, map, sym, arith}
use Rattle.std.proofs.lemmas.List.{length-map}
use Rattle.std.proofs.lemmas.Result.{err_from_is_err_and}
use Rattle.std.specs.Prelude.{string_bytes}
use Rattle.tre_feed.specs.Standing.{recording_of}
use Rattle.tre_syntax.specs.Pattern.{names_of}
use Rattle.tre_tell.proofs.Loop.{asked_sought}
use Rattle.tre_tell.specs.Request.{Request}
use Rattle.tre_answer.specs.Printing.{finding_of}
use Rattle.tre_answer.specs.Request.{request_over}
use Rattle.tre_answer.proofs.Checked.{IsFoundFor-checks, StopsAs-limit, checks_fit, checks_whole}
use Rattle.tre_answer.proofs.Found.{IsReadAs-whole, StopsAs-input, StopsAs-wanting, a_trace_each}
use Rattle.tre_answer.proofs.checks.find_checks.Goals as goal

pub returns-in_err-traces-clause-stops : goal.returns-in_err-traces-clause-stops
returns-in_err-traces-clause-stops g c =
    let p = err_from_is_err_and c.from_residual.result c.from_residual.ensures.1 in
    rw (p.1, p.2) (StopsAs-input _ _ (checks_whole c.args.job.now.mode c.requires.checks) _ _
    c.in_err-traces.field-0.0 c.requires.input.limit c.text.ensures
    c.in_err-traces.ensures.stops)

pub checks_over-requires-clause-forms : goal.checks_over-requires-clause-forms
checks_over-requires-clause-forms g c = checks_fit c.args.job.now.mode _ _ c.requires.checks
    c.requires.fits.forms

pub checks_over-requires-clause-count : goal.checks_over-requires-clause-count
checks_over-requires-clause-count g c =
    a_trace_each (c.in_ok-traces.ensures.read _ c.requires.input.asks)
    ∙ length-map c.args.asked.now.patterns.items names_of

pub returns-in_err-found-clause-stops : goal.returns-in_err-found-clause-stops
returns-in_err-found-clause-stops g c =
    let p = err_from_is_err_and c.from_residual-in_err-found.result
    c.from_residual-in_err-found.ensures.1 in
    rw (p.1, p.2)
    (StopsAs-wanting _ _ (checks_whole c.args.job.now.mode c.requires.checks)
    (c.in_ok-traces.ensures.read _ c.requires.input.asks).reads)

pub returns-in_err-limit_zones-clause-stops : goal.returns-in_err-limit_zones-clause-stops
returns-in_err-limit_zones-clause-stops g c =
    let p = err_from_is_err_and c.from_residual-in_err-limit_zones.result
    c.from_residual-in_err-limit_zones.ensures.1 in
    let patterns = c.args.asked.now.patterns.items in
    let labels = map string_bytes c.args.asked.now.labels.items in
    let labelled = length-map c.args.asked.now.labels.items string_bytes ∙ c.requires.fits.labels in
    let read = rw (sym (asked_sought labels patterns labelled)) at
    (c.in_ok-traces.ensures.read _ c.requires.input.asks) in
    let some : 0 < length c.in_ok-traces.traces.items = omega (
      arith,
      a_trace_each (c.in_ok-traces.ensures.read _ c.requires.input.asks),
      length-map patterns names_of,
      c.requires.fits.some,
    ) in
    let found = c.in_ok-found.found in
    let reader = g.R.TraceReader in
    let request : Request = request_over c.args.job.now c.args.asked.now
    (recording_of reader.recording reader.terms c.args.input) in
    rw (p.1, p.2) (StopsAs-limit request _ c.in_ok-traces.traces.items found.end
    (IsReadAs-whole request _ _ c.in_ok-traces.traces.items _ _ c.requires.input.limit read some
    c.in_ok-found.ensures.end) (map finding_of found.all.items) c.in_ok-found.ensures.found
    c.requires.checks _ (rw c.deref.ensures.value at c.in_err-limit_zones.ensures.fault))

pub returns-clause-found : goal.returns-clause-found
returns-clause-found g c =
    let patterns = c.args.asked.now.patterns.items in
    let labels = map string_bytes c.args.asked.now.labels.items in
    let labelled = length-map c.args.asked.now.labels.items string_bytes ∙ c.requires.fits.labels in
    let read = rw (sym (asked_sought labels patterns labelled)) at
    (c.in_ok-traces.ensures.read _ c.requires.input.asks) in
    let some : 0 < length c.in_ok-traces.traces.items = omega (
      arith,
      a_trace_each (c.in_ok-traces.ensures.read _ c.requires.input.asks),
      length-map patterns names_of,
      c.requires.fits.some,
    ) in
    let found = c.in_ok-found.found in
    let reader = g.R.TraceReader in
    let request : Request = request_over c.args.job.now c.args.asked.now
    (recording_of reader.recording reader.terms c.args.input) in
    IsFoundFor-checks request _ c.in_ok-traces.traces.items found.end
    (IsReadAs-whole request _ _ c.in_ok-traces.traces.items _ _ c.requires.input.limit read some
    c.in_ok-found.ensures.end) (map finding_of found.all.items) c.in_ok-found.ensures.found
    c.requires.checks (rw c.deref.ensures.value at c.in_ok-limit_zones.ensures.few)
