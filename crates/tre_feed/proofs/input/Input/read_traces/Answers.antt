use Rattle.tre_trace.specs.Trace.{Timeline}
use Rattle.tre_feed.specs.Input.{input_told}
use Rattle.tre_feed.specs.Standing.{limit_of, recording_of}
use Rattle.tre_feed.specs.Traces.{IsWhole}
use Rattle.tre_feed.proofs.Seeing.{ArePacked-none}
use Rattle.std.proofs.Common.{◌≡◌, List, length, refl, subst, sym, arith, rules}
use Rattle.std.proofs.lemmas.Result.{err_from_is_err_and}
use Rattle.std.proofs.lemmas.List.{with_items_is}
use Rattle.tre_feed.proofs.input.Input.read_traces.Goals as goal

pub collect-requires-clause-empty : goal.collect-requires-clause-empty
collect-requires-clause-empty g c =
    rw c.deref_mut.ensures.value (ArePacked-none g.R.TraceReader.names c.args.self
    c.in_ok-traces.traces.items (rw c.deref.ensures.value at c.in_ok-traces.ensures))

pub collect-requires-clause-closed : goal.collect-requires-clause-closed
collect-requires-clause-closed g c = c.requires.closed

pub returns-in_err-traces-clause-stops : goal.returns-in_err-traces-clause-stops
returns-in_err-traces-clause-stops g c =
    let p = err_from_is_err_and c.from_residual.result c.from_residual.ensures.1 in
    rw (p.1, p.2) refl

pub returns-in_err-traces-clause-bounded : goal.returns-in_err-traces-clause-bounded
returns-in_err-traces-clause-bounded g c = λ opened. let closed = c.requires.closed in cc

pub returns-in_err-traces-clause-by_name : goal.returns-in_err-traces-clause-by_name
returns-in_err-traces-clause-by_name g c = λ opened. let closed = c.requires.closed in cc

pub returns-in_err-collect-clause-bounded : goal.returns-in_err-collect-clause-bounded
returns-in_err-collect-clause-bounded g c = c.collect.ensures.bounded

pub returns-in_err-collect-clause-by_name : goal.returns-in_err-collect-clause-by_name
returns-in_err-collect-clause-by_name g c = c.collect.ensures.by_name

pub returns-in_err-collect-clause-stops : goal.returns-in_err-collect-clause-stops
returns-in_err-collect-clause-stops g c =
    search (rules, err_from_is_err_and, c.from_residual-in_err-collect.ensures.1)

pub returns-clause-bounded : goal.returns-clause-bounded
returns-clause-bounded g c = c.collect.ensures.bounded

pub returns-clause-by_name : goal.returns-clause-by_name
returns-clause-by_name g c = c.collect.ensures.by_name

pub returns-clause-read : goal.returns-clause-read
returns-clause-read g c =
    let own = c.in_ok-traces.traces in
    let told = c.collect.new.traces in
    let same : length told ≡ own.len = omega (arith, c.collect.auto.traces, c.deref_mut.ensures.len)
    in λ asked asks. subst (λ (traces : List Timeline). IsWhole asked
    (recording_of g.R.TraceReader.recording g.R.TraceReader.terms c.args.self)
    (limit_of c.args.self)
    (input_told (g.S.Source.told c.args.source.now) (g.S.Source.told c.collect.new.source)) traces)
    (sym (with_items_is own told same)) (c.in_ok-collect.ensures.read asked asks)
