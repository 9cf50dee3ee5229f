use Rattle.std.proofs.Common.{◌≡◌, ◌+◌, ◌<◌, ◌≤◌, refl, ap, arith, length, inl, inr, ⊎_elim, rules}
use Rattle.std.proofs.lemmas.List.{take_all}
use Rattle.tre_packed.proofs.Adding.{count-limit}
use Rattle.tre_trace.specs.Trace.{end_of}
use Rattle.tre_zone.proofs.ZoneListLemmas.{SetHolds-empty}
use Rattle.tre_edges.proofs.EndsOfLists.{EndBefore-empty, EndBefore-later}
use Rattle.tre_edges.proofs.EventsOfTraces.{event_there, events_from, event_last}
use Rattle.tre_edges.proofs.InstantLists.{AreInstants-empty}
use Rattle.tre_edges.proofs.Places.{time_of, time_of-mono, time_of-limit, later}
use Rattle.tre_edges.proofs.Turns.{exact_closed}
use Rattle.tre_edges.proofs.event.events.Goals as goal

pub loop-at-init : goal.loop-at-init
loop-at-init g c =
    let trace = g.T.AnyTrace.timeline c.args.trace.now in
    let words = c.in_ok-words.words.items in
    let first = rw (c.deref.ensures.value, c.count-count.ensures.count) at c.next_place-at.ensures in
    rw c.new-zones.ensures (record {
      exact = λ a b n some rising.
          let start = events_from c.args.number trace.last trace.segments words
          c.in_ok-words.ensures 0 c.next_place-at.result first a b n in (
            λ matches. inr (start.0 matches),
            λ either. ⊎_elim (λ held. absurd (SetHolds-empty a b n held)) (λ rest. start.1 rest)
                either,
          );
      instants = AreInstants-empty 0;
      within = first.within;
      there = first.there;
      passed = omega arith;
      seen = refl;
      ended = EndBefore-empty _;
    })

pub next_place-at-requires-clause-limit : goal.next_place-at-requires-clause-limit
next_place-at-requires-clause-limit g c = search (rules, count-limit, g.T.AnyTrace.timeline)

pub add_instant-requires-clause-ended : goal.add_instant-requires-clause-ended
add_instant-requires-clause-ended g c =
    rw c.start_from-seen.ensures.time c.loop-at.invariant.ended

pub add_instant-requires-clause-limit : goal.add_instant-requires-clause-limit
add_instant-requires-clause-limit g c = search (rules, time_of-limit, g.T.AnyTrace.timeline)

pub loop-at-preserved : goal.loop-at-preserved
loop-at-preserved g c =
    let trace = g.T.AnyTrace.timeline c.args.trace.now in
    let segments = trace.segments in
    let number = c.args.number in
    let words = c.in_ok-words.words.items in
    let plane = c.in_ok-words.ensures in
    let at = c.loop-at.at in
    let before = c.loop-at.invariant in
    let to = c.next_place-at-in-loop-at.result in
    let within : at < length segments =
    omega (arith, c.loop-at-test.true, c.count-count.ensures.count) in
    let next =
    rw (c.deref-in-loop-at.ensures.value, c.count-count.ensures.count) at
    c.next_place-at-in-loop-at.ensures in
    let held = rw c.start_from-seen.ensures.time at c.in_ok-add_instant.ensures.held in
    record {
      exact = λ a b n some rising.
          let here = event_there number trace.last segments words plane at within
          (before.there within) a b n in
          let skip = events_from number trace.last segments words plane (at + 1) to next a b n in
          exact_closed (before.exact a b n some rising) (
            (λ h. ⊎_elim (λ found. inl found) (λ rest. inr (skip.0 rest)) (here.0 h)),
            (λ h. here.1 (⊎_elim (λ found. inl found) (λ rest. inr (skip.1 rest)) h)),
          )
          (held.exact a b n some rising);
      instants = c.in_ok-add_instant.ensures.instants;
      within = next.within;
      there = next.there;
      passed = omega (arith, c.start_from-seen.ensures.place, next.late);
      seen = rw c.start_from-seen.ensures.place c.start_from-seen.ensures.time;
      ended =
          EndBefore-later (time_of segments at + 1) (time_of segments to)
          (omega (
            arith,
            later segments at within c.count-count.ensures.trace,
            time_of-mono segments (at + 1) to next.late,
          )) _
          (rw c.start_from-seen.ensures.time at c.in_ok-add_instant.ensures.ended);
    }

pub returns-clause-matches : goal.returns-clause-matches
returns-clause-matches g c =
    let trace = g.T.AnyTrace.timeline c.args.trace.now in
    let segments = trace.segments in
    let at = c.loop-at.at in
    let past : length segments ≤ at =
    omega (arith, c.loop-at-test.false, c.count-count.ensures.count) in
    let all : time_of segments at ≡ end_of 0 segments = ap (end_of 0) (take_all at segments past) in
    let held = rw (c.end.ensures.end, ← all) at c.in_ok-add_instant-2.ensures.held in
    let is = rw c.last_events.ensures at c.happens.ensures in
    record {
      exact = λ a b n some rising.
          let old = c.loop-at.invariant.exact a b n some rising in
          let new = held.exact a b n some rising in
          let last = event_last c.args.number trace.last segments at c.happens.result past is a b n in (
            λ h. old.1 (⊎_elim (λ x. inl x) (λ x. inr (last.1 x)) (new.0 h)),
            λ h. new.1 (⊎_elim (λ x. inl x) (λ x. inr (last.0 x)) (old.0 h)),
          );
    }

pub next_place-at-requires-in-loop-at-clause-limit : goal.next_place-at-requires-in-loop-at-clause-limit
next_place-at-requires-in-loop-at-clause-limit g c =
    search (rules, count-limit, g.T.AnyTrace.timeline)

pub add_instant-requires-2-clause-ended : goal.add_instant-requires-2-clause-ended
add_instant-requires-2-clause-ended g c =
    search (rules, time_of, end_of, take_all, g.T.AnyTrace.timeline, c.loop-at.at)

pub add_instant-requires-2-clause-limit : goal.add_instant-requires-2-clause-limit
add_instant-requires-2-clause-limit g c =
    search (rules, time_of, end_of, take_all, time_of-limit, g.T.AnyTrace.timeline, c.loop-at.at)
