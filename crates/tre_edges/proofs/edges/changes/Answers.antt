use Rattle.std.proofs.Common.{◌+◌, ◌≤◌, length, not, ap, arith, inl, ⊎_elim, rules}
use Rattle.tre_packed.proofs.Adding.{count-limit}
use Rattle.tre_state.specs.State.{tree_of}
use Rattle.tre_zone.proofs.ZoneListLemmas.{SetHolds-empty}
use Rattle.tre_edges.specs.Truth.{HasTruth}
use Rattle.tre_edges.proofs.EdgesOfTraces.{no_more}
use Rattle.tre_edges.proofs.EndsOfLists.{EndBefore-empty, EndBefore-later}
use Rattle.tre_edges.proofs.InstantLists.{AreInstants-empty}
use Rattle.tre_edges.proofs.NextTurns.{edge_found, calm_then, lt_test}
use Rattle.tre_edges.proofs.Places.{time_of, time_of-mono, time_of-limit, later}
use Rattle.tre_edges.proofs.Turns.{exact_closed}
use Rattle.tre_edges.proofs.edges.changes.Goals as goal

pub loop-at-init : goal.loop-at-init
loop-at-init g c =
    search (rules, SetHolds-empty, AreInstants-empty, EndBefore-empty, c.in_ok-zones.ensures)

pub next_place-other-requires-clause-limit : goal.next_place-other-requires-clause-limit
next_place-other-requires-clause-limit g c = search (rules, count-limit, g.T.AnyTrace.timeline)

pub next_place-turn-requires-clause-limit : goal.next_place-turn-requires-clause-limit
next_place-turn-requires-clause-limit g c = search (rules, count-limit, g.T.AnyTrace.timeline)

pub add_instant-requires-clause-ended : goal.add_instant-requires-clause-ended
add_instant-requires-clause-ended g c =
    let trace = (g.T.AnyTrace.timeline c.args.trace.now).segments in
    let count = c.count-count.ensures.count in
    rw c.start_from-seen.ensures.time
    (EndBefore-later (time_of trace c.loop-at.at) (time_of trace c.next_place-turn.result)
    (time_of-mono trace c.loop-at.at c.next_place-turn.result
    (omega (arith, c.next_place-other.ensures.late, c.next_place-turn.ensures.late)))
    c.loop-at.zones (c.loop-at.invariant.ended (omega (arith, c.loop-at-test.true, count))))

pub add_instant-requires-clause-limit : goal.add_instant-requires-clause-limit
add_instant-requires-clause-limit g c = search (rules, time_of-limit, g.T.AnyTrace.timeline)

pub overflow_add-at : goal.overflow_add-at
overflow_add-at g c = search (rules, count-limit, g.T.AnyTrace.timeline)

pub loop-at-preserved : goal.loop-at-preserved
loop-at-preserved g c =
    let trace = (g.T.AnyTrace.timeline c.args.trace.now).segments in
    let other = c.next_place-other.result in
    let turn = c.next_place-turn.result in
    let words = c.in_ok-words.words.items in
    let truth = c.in_ok-words.ensures in
    let state = tree_of c.args.state.now in
    let first =
    rw (c.deref-in-loop-at.ensures.value, c.count-count.ensures.count) at
    c.next_place-other.ensures in
    let last =
    rw (c.deref-in-loop-at-2.ensures.value, c.count-count.ensures.count) at
    c.next_place-turn.ensures in
    let held = rw (c.start_from-seen.ensures.time, c.count-count.ensures.count) at
    c.in_ok-add_instant.ensures.held in
    record {
      exact = λ a b n some rising.
          exact_closed (c.loop-at.invariant.exact a b n some rising)
          (edge_found state trace words truth c.args.becomes c.loop-at.at other turn first last
          _ (lt_test turn (length trace)) c.loop-at.invariant.calm a b n)
          (held.exact a b n some rising);
      instants = c.in_ok-add_instant.ensures.instants;
      passed = omega (arith, c.start_from-seen.ensures.place);
      seen = rw c.start_from-seen.ensures.place c.start_from-seen.ensures.time;
      ended = λ inside.
          EndBefore-later (time_of trace turn + 1) (time_of trace (turn + 1))
          (later trace turn (omega (arith, inside)) c.count-count.ensures.trace) _
          (rw c.start_from-seen.ensures.time at c.in_ok-add_instant.ensures.ended);
      calm = λ inside.
          calm_then state trace words truth c.args.becomes c.loop-at.at other turn first last
          (omega (arith, inside));
    }

pub next_place-other-requires-clause-bits : goal.next_place-other-requires-clause-bits
next_place-other-requires-clause-bits g c =
    omega (
      arith,
      c.in_ok-words.ensures.size,
      c.count-count.ensures.count,
      ap length c.deref-in-loop-at.ensures.value,
    )

pub next_place-turn-requires-clause-bits : goal.next_place-turn-requires-clause-bits
next_place-turn-requires-clause-bits g c =
    omega (
      arith,
      c.in_ok-words.ensures.size,
      c.count-count.ensures.count,
      ap length c.deref-in-loop-at-2.ensures.value,
    )

pub start_from-seen-requires-clause-order : goal.start_from-seen-requires-clause-order
start_from-seen-requires-clause-order g c =
    omega (
      arith,
      c.loop-at.invariant.passed,
      c.next_place-other.ensures.late,
      c.next_place-turn.ensures.late,
    )

pub start_from-seen-requires-clause-within : goal.start_from-seen-requires-clause-within
start_from-seen-requires-clause-within g c =
    omega (arith, c.next_place-turn.ensures.within, c.count-count.ensures.count)

pub loop-at-smaller : goal.loop-at-smaller
loop-at-smaller g c =
    omega (
      arith,
      c.next_place-other.ensures.late,
      c.next_place-turn.ensures.late,
      c.loop-at-test.true,
    )

pub returns-clause-matches : goal.returns-clause-matches
returns-clause-matches g c =
    let segments = (g.T.AnyTrace.timeline c.args.trace.now).segments in
    let state = tree_of c.args.state.now in
    let past : length segments ≤ c.loop-at.at =
    omega (arith, c.loop-at-test.false, c.count-count.ensures.count) in
    record {
      exact = λ a b n some rising.
          let same = c.loop-at.invariant.exact a b n some rising in (
            λ held. same.1 (inl held),
            λ matches. ⊎_elim (λ held. held)
                (λ rest. absurd (no_more (HasTruth (not c.args.becomes) state)
                (HasTruth c.args.becomes state) segments a b n c.loop-at.at past rest))
                (same.0 matches),
          );
    }
