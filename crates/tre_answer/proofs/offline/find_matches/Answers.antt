use Rattle.std.proofs.Common.{ap, ◌∙◌, ◌<◌, length, map, refl, sym, arith}
use Rattle.std.proofs.lemmas.List.{length-map}
use Rattle.std.proofs.lemmas.Result.{err_from_is_err_and}
use Rattle.std.specs.Prelude.{string_bytes}
use Rattle.tre_syntax.specs.Pattern.{names_of}
use Rattle.tre_tell.proofs.Loop.{asked_sought}
use Rattle.tre_words.specs.Job.{is_whole}
use Rattle.tre_answer.specs.Listed.{listed_zones}
use Rattle.tre_answer.proofs.Found.{IsFound-whole, IsFoundFor-text, StopsAs-input, StopsAs-over, StopsAs-wanting, a_trace_each, normal_limit}
use Rattle.tre_answer.proofs.offline.find_matches.Goals as goal

pub returns-in_err-traces-clause-stops : goal.returns-in_err-traces-clause-stops
returns-in_err-traces-clause-stops g c =
    let p = err_from_is_err_and c.from_residual.result c.from_residual.ensures.1 in
    rw (p.1, p.2) (StopsAs-input _ _ (ap is_whole c.requires.offline) _ _
    c.in_err-traces.field-0.0 c.requires.input.limit c.text.ensures
    c.in_err-traces.ensures.stops)

pub printed_matches-requires-clause-count : goal.printed_matches-requires-clause-count
printed_matches-requires-clause-count g c =
    rw c.deref.ensures.value (a_trace_each (c.in_ok-traces.ensures.read _ c.requires.input.asks)
    ∙ length-map c.args.asked.now.patterns.items names_of)

pub returns-in_err-found-clause-stops : goal.returns-in_err-found-clause-stops
returns-in_err-found-clause-stops g c =
    let p = err_from_is_err_and c.from_residual-in_err-found.result
    c.from_residual-in_err-found.ensures.1 in
    rw (p.1, p.2)
    (StopsAs-wanting _ _ (ap is_whole c.requires.offline) (c.in_ok-traces.ensures.read _ c.requires.input.asks).reads)

pub returns-in_err-check_count-clause-stops : goal.returns-in_err-check_count-clause-stops
returns-in_err-check_count-clause-stops g c =
    let p = err_from_is_err_and c.from_residual-in_err-check_count.result
    c.from_residual-in_err-check_count.ensures.1 in
    let patterns = c.args.asked.now.patterns.items in
    let labels = map string_bytes c.args.asked.now.labels.items in
    let labelled = length-map c.args.asked.now.labels.items string_bytes ∙ c.requires.fits.labels in
    let read = rw (sym (asked_sought labels patterns labelled)) at
    (c.in_ok-traces.ensures.read _ c.requires.input.asks) in
    let some : 0 < length c.in_ok-traces.traces.items = omega (
      arith,
      a_trace_each (c.in_ok-traces.ensures.read _ c.requires.input.asks),
      length-map patterns names_of,
      c.requires.fits.some,
    ) in
    let over = c.in_err-check_count.ensures.over in
    let found = c.in_ok-found.found in
    let listed = rw c.deref.ensures.value at c.in_ok-found.ensures.zones in
    rw (p.1, p.2, c.in_err-check_count.ensures.fault)
    (StopsAs-over _ _ listed.set (listed_zones found.zones) found.end
    (IsFound-whole _ _ _ c.in_ok-traces.traces.items _ _ _ c.requires.input.limit read some
    (listed.exact labels labelled) c.in_ok-found.ensures.end) listed.is_set listed.asked
    c.requires.offline (normal_limit c.args.job.now c.requires.job _ over) over)

pub returns-clause-found : goal.returns-clause-found
returns-clause-found g c =
    let patterns = c.args.asked.now.patterns.items in
    let labels = map string_bytes c.args.asked.now.labels.items in
    let labelled = length-map c.args.asked.now.labels.items string_bytes ∙ c.requires.fits.labels in
    let read = rw (sym (asked_sought labels patterns labelled)) at
    (c.in_ok-traces.ensures.read _ c.requires.input.asks) in
    let some : 0 < length c.in_ok-traces.traces.items = omega (
      arith,
      a_trace_each (c.in_ok-traces.ensures.read _ c.requires.input.asks),
      length-map patterns names_of,
      c.requires.fits.some,
    ) in
    let found = c.in_ok-found.found in
    let listed = rw c.deref.ensures.value at c.in_ok-found.ensures.zones in
    IsFoundFor-text _ _ listed.set (listed_zones found.zones) found.end
    (IsFound-whole _ _ _ c.in_ok-traces.traces.items _ _ _ c.requires.input.limit read some
    (listed.exact labels labelled) c.in_ok-found.ensures.end) listed.is_set listed.asked
    c.requires.offline _ c.in_ok-check_count.ensures.few refl
