use Rattle.std.proofs.Common.{◌+◌, ◌<◌, ◌≤◌, ◌∙◌, length, refl, sym, arith, inl, inr, ⊎_elim, rules}
use Rattle.tre_packed.proofs.Adding.{count-limit}
use Rattle.tre_state.specs.StateTree.{HoldsOn}
use Rattle.tre_zone.proofs.ZoneListLemmas.{SetHolds-empty}
use Rattle.tre_edges.specs.RunParts.{IsFoundPart, LastsIn}
use Rattle.tre_edges.specs.RunPlaces.{trace_words}
use Rattle.tre_edges.proofs.EdgesOfRuns.{time_of-less}
use Rattle.tre_edges.proofs.EndsOfLists.{EndBefore-empty, EndBefore-later}
use Rattle.tre_edges.proofs.NextParts.{PartFrom, part_whole, part_found, either_lasting, calm_then}
use Rattle.tre_edges.proofs.Places.{time_of, time_of-mono, time_of-limit, later}
use Rattle.tre_edges.proofs.RunPlaces.{known_run}
use Rattle.tre_edges.proofs.RunsOfTraces.{no_more}
use Rattle.tre_edges.proofs.Turns.{exact_closed}
use Rattle.tre_edges.proofs.each_run.each_run.Goals as goal

pub loop-at-init : goal.loop-at-init
loop-at-init g c = record {
  exact = λ state truth a b n some rising.
      let start = part_whole c.edges-edges.result state (g.T.AnyTrace.timeline c.args.trace.now) a b n in (
        λ matches. inr (record {
          related = start.0 matches.related;
          admitted = matches.admitted;
        }),
        λ either. ⊎_elim (λ held. absurd (SetHolds-empty a b n (rw c.requires.none at held)))
            (λ rest. record { related = start.1 rest.related; admitted = rest.admitted })
            either,
      );
  passed = omega arith;
  seen = refl;
  ended = λ _. rw c.requires.none (EndBefore-empty 0);
  calm = λ state truth _ none. absurd (omega (arith, none));
  edges = sym c.edges-edges.ensures;
  interval = refl;
  runs_of = refl;
  stands = c.requires.stands;
}

pub next_place-begin-requires-clause-limit : goal.next_place-begin-requires-clause-limit
next_place-begin-requires-clause-limit g c = search (rules, count-limit, g.T.AnyTrace.timeline)

pub next_place-end-requires-clause-limit : goal.next_place-end-requires-clause-limit
next_place-end-requires-clause-limit g c = search (rules, count-limit, g.T.AnyTrace.timeline)

pub keep_found-requires-clause-ended : goal.keep_found-requires-clause-ended
keep_found-requires-clause-ended g c =
    let trace = (g.T.AnyTrace.timeline c.args.trace.now).segments in
    let count = c.count-count.ensures.count in
    rw c.start_from-from.ensures.time
    (EndBefore-later (time_of trace c.loop-at.at) (time_of trace c.next_place-begin.result)
    (time_of-mono trace c.loop-at.at c.next_place-begin.result c.next_place-begin.ensures.late)
    _ (c.loop-at.invariant.ended (omega (arith, c.loop-at-test.true, count))))

pub keep_found-requires-clause-none : goal.keep_found-requires-clause-none
keep_found-requires-clause-none g c = search (rules, time_of, g.T.AnyTrace.timeline)

pub keep_found-requires-clause-some : goal.keep_found-requires-clause-some
keep_found-requires-clause-some g c = λ apart.
    rw (c.start_from-from.ensures.time, c.start_from-seen.ensures.time)
    (time_of-less (g.T.AnyTrace.timeline c.args.trace.now).segments c.count-count.ensures.trace
    c.next_place-begin.result c.next_place-end.result
    (omega (
      arith,
      apart,
      c.start_from-from.ensures.place,
      c.start_from-seen.ensures.place,
      c.next_place-end.ensures.late,
    ))
    (omega (arith, c.next_place-end.ensures.within, c.count-count.ensures.count)))

pub keep_found-requires-clause-run : goal.keep_found-requires-clause-run
keep_found-requires-clause-run g c = λ apart.
    let timeline = g.T.AnyTrace.timeline c.args.trace.now in
    let next = rw c.count-count.ensures.count at c.next_place-end.ensures in
    rw c.loop-at.invariant.runs_of
    (known_run (g.K.KeepsParts.runs_of c.args.keeper.now)
    (trace_words timeline c.args.words.now) c.start_from-from.result c.start_from-seen.result
    c.requires.runs_of
    (record {
      within = omega (
        arith,
        apart,
        c.start_from-from.ensures.place,
        c.start_from-seen.ensures.place,
        next.late,
        next.within,
      );
      next = rw (c.start_from-from.ensures.place, c.start_from-seen.ensures.place) next;
      begin = rw c.start_from-from.ensures.place c.start_from-from.ensures.time;
      end = rw c.start_from-seen.ensures.place c.start_from-seen.ensures.time;
    }))

pub keep_found-requires-clause-limit : goal.keep_found-requires-clause-limit
keep_found-requires-clause-limit g c = search (rules, time_of-limit, g.T.AnyTrace.timeline)

pub overflow_add-at : goal.overflow_add-at
overflow_add-at g c = search (rules, count-limit, g.T.AnyTrace.timeline)

pub loop-at-preserved : goal.loop-at-preserved
loop-at-preserved g c =
    let whole = g.T.AnyTrace.timeline c.args.trace.now in
    let trace = whole.segments in
    let edges = c.edges-edges.result in
    let interval = g.K.KeepsParts.interval c.args.keeper.now in
    let at = c.loop-at.at in
    let begin = c.next_place-begin.result in
    let end = c.next_place-end.result in
    let words = c.args.words.now in
    let is_trace = c.count-count.ensures.trace in
    let found = c.has_edges-found.result in
    let count = c.count-count.ensures.count in
    let first = rw count at c.next_place-begin.ensures in
    let last = rw count at c.next_place-end.ensures in
    let before : at < length trace = omega (arith, c.loop-at-test.true, count) in
    let has = rw count at c.has_edges-found.ensures in
    let same = c.loop-at.invariant in
    let held =
    rw (c.start_from-from.ensures.time, c.start_from-seen.ensures.time, same.edges, same.interval)
    at c.in_ok-keep_found.ensures.held in
    record {
      exact = λ state truth a b n some rising.
          exact_closed (same.exact state truth a b n some rising)
          (either_lasting (LastsIn interval) (PartFrom edges state whole at)
          (IsFoundPart found edges (time_of trace begin) (time_of trace end))
          (PartFrom edges state whole (end + 1)) a b n
          (part_found edges state whole words is_trace truth at begin end first last
          (same.calm state truth before) found has a b n some))
          (held.exact a b n some rising);
      passed = omega (arith, c.start_from-seen.ensures.place);
      seen = rw c.start_from-seen.ensures.place c.start_from-seen.ensures.time;
      ended = λ inside.
          EndBefore-later (time_of trace end + 1) (time_of trace (end + 1))
          (later trace end (omega (arith, inside)) is_trace) _
          (rw c.start_from-seen.ensures.time at c.in_ok-keep_found.ensures.ended);
      calm = λ state truth inside.
          calm_then edges state whole words is_trace truth at begin end first last
          (same.calm state truth before) (omega (arith, inside));
      edges = c.keep_found.ensures.edges ∙ same.edges;
      interval = c.keep_found.ensures.interval ∙ same.interval;
      runs_of = c.keep_found.ensures.runs_of ∙ same.runs_of;
      stands = c.in_ok-keep_found.ensures.stands;
    }

pub returns-clause-held : goal.returns-clause-held
returns-clause-held g c = λ state truth.
    let whole = g.T.AnyTrace.timeline c.args.trace.now in
    let past : length whole.segments ≤ c.loop-at.at =
    omega (arith, c.loop-at-test.false, c.count-count.ensures.count) in
    rw (← c.edges-edges.ensures) (record {
      exact = λ a b n some rising.
          let same = c.loop-at.invariant.exact state truth a b n some rising in (
            λ held. same.1 (inl held),
            λ matches. ⊎_elim (λ held. held)
                (λ rest. absurd (no_more (HoldsOn state) whole.segments a b n c.loop-at.at past
                rest.related.held)) (same.0 matches),
          );
    })

pub returns-clause-edges : goal.returns-clause-edges
returns-clause-edges g c = c.loop-at.invariant.edges ∙ c.edges-edges.ensures
