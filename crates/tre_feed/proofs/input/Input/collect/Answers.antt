use Rattle.std.proofs.Common.{◌∙◌, ◌++◌, false, true, [], List, take, refl, subst, rules}
use Rattle.tre_trace.specs.Reading.{Stretch, segments_for}
use Rattle.tre_trace.specs.Trace.{IsTrace}
use Rattle.tre_feed.specs.Input.{input_told}
use Rattle.tre_feed.specs.Packing.{ArePacked}
use Rattle.tre_feed.specs.Standing.{Wait, WereFed, recording_of}
use Rattle.tre_feed.proofs.Collected.{IsCollected-as, IsCollected-more, IsWhole-ended, StopsReading-turn, StopsReading-unread, starts_by, told_more, told_start, traces_by}
use Rattle.tre_feed.proofs.Pieces.{EndsTurn-bounded, said_whole}
use Rattle.tre_feed.proofs.Seeing.{ArePacked-kept}
use Rattle.tre_feed.proofs.input.Input.collect.Goals as goal

pub returns-in_err-open-clause-stops : goal.returns-in_err-open-clause-stops
returns-in_err-open-clause-stops g c =
    search (rules, StopsReading-unread, c.from_residual.ensures.1, g.R.TraceReader, g.S.Source.told)

pub loop-more-init : goal.loop-more-init
loop-more-init g c =
    let reader = g.R.TraceReader in
    record {
      collected = record {
        bytes = [];
        fed = c.in_ok-open.ensures.fed c.requires.new;
        told = told_start (ArePacked reader.names c.args.self.now c.args.traces.now)
            (recording_of reader.recording reader.terms c.args.self.now) c.args.self.now.limit
            (starts_by reader.terms reader.recording g.met.R.TraceReader.starts
            c.args.self.now.each.items)
            c.requires.empty;
      };
      none = c.requires.new.none;
      same = record { asks = λ asked asks. asks; said = refl; limit = refl };
      opened = c.in_ok-open.ensures.opened;
      sound = c.in_ok-open.ensures.same_sound;
      no_fault = c.in_ok-open.ensures.cause;
    }

pub next-requires-clause-reads_on : goal.next-requires-clause-reads_on
next-requires-clause-reads_on g c =
    let so_far = c.loop-more.invariant.collected in
    record { bytes = so_far.bytes; size = so_far.fed.size; fed = so_far.fed.fed }

pub returns-in_err-more-clause-stops : goal.returns-in_err-more-clause-stops
returns-in_err-more-clause-stops g c =
    search (rules, StopsReading-turn, c.from_residual-in_err-more.ensures.1, g.R.TraceReader)

pub returns-in_err-more-clause-bounded : goal.returns-in_err-more-clause-bounded
returns-in_err-more-clause-bounded g c =
    search (rules, EndsTurn-bounded, c.loop-more.invariant, c.in_err-more.ensures.ends)

pub pack-requires : goal.pack-requires
pack-requires g c =
    let reader = g.R.TraceReader in
    let inv = c.loop-more.invariant in
    let so_far = inv.collected in
    let old = c.loop-more.self in
    let read = c.in_ok-more.ensures.ends (g.S.Source.told c.args.source.now) so_far.bytes so_far.fed
    in
    record {
      told = (recording_of reader.recording reader.terms old false
          (take old.limit so_far.bytes)).stretches;
      waiting = read.adds.added;
      packed = ArePacked-kept reader.names old c.next.new.self c.loop-more.traces _
          c.in_ok-more.ensures.views so_far.told;
      wait = read.adds.then [] inv.none;
      is_trace = λ asked. subst (λ (all : List Stretch). IsTrace (segments_for asked all))
          read.adds.beyond
          (traces_by reader.terms reader.recording g.met.R.TraceReader.is_trace old.each.items
          read.closed (take old.limit (so_far.bytes ++ read.piece)) asked);
    }

pub returns-in_err-pack-clause-bounded : goal.returns-in_err-pack-clause-bounded
returns-in_err-pack-clause-bounded g c =
    search (rules, EndsTurn-bounded, c.loop-more.invariant, c.in_ok-more.ensures.ends)

pub loop-more-preserved : goal.loop-more-preserved
loop-more-preserved g c =
    let reader = g.R.TraceReader in
    let source = g.S.Source in
    let inv = c.loop-more.invariant in
    let so_far = inv.collected in
    let old = c.loop-more.self in
    let mid = c.next.new.self in
    let new = c.clear.new.self in
    let said = recording_of reader.recording reader.terms old in
    let told = (said false (take old.limit so_far.bytes)).stretches in
    let traces = c.loop-more.traces in
    let packed = ArePacked-kept reader.names old mid traces told c.in_ok-more.ensures.views
    so_far.told in
    let pack : (added : List Stretch) → Wait reader.names mid added
    → ArePacked reader.names new c.pack.new.traces (told ++ added) =
    λ added wait. ArePacked-kept reader.names mid new c.pack.new.traces (told ++ added)
    c.clear.ensures.views (c.in_ok-pack.ensures told added packed wait) in
    let same = c.in_ok-more.ensures.same in
    let cleared = c.clear.ensures.same in
    let before = source.told c.args.source.now in
    let read = IsCollected-more said old.limit (input_told before (source.told c.next.new.source))
    mid.taken new.taken so_far.bytes (ArePacked reader.names new c.pack.new.traces)
    (rw c.if-not-more.false at (c.in_ok-more.ensures.ends before so_far.bytes so_far.fed)) inv.none
    pack c.clear.ensures.fed c.clear.ensures.taken in
    record {
      collected = IsCollected-as (WereFed reader.terms reader.represents new)
          (ArePacked reader.names new) said (recording_of reader.recording reader.terms new)
          old.limit new.limit c.pack.new.traces _ (cleared.said ∙ same.said)
          (cleared.limit ∙ same.limit) refl read;
      none = c.clear.ensures.none;
      same = record {
        asks = λ asked asks. cleared.asks asked (same.asks asked (inv.same.asks asked asks));
        said = cleared.said ∙ same.said ∙ inv.same.said;
        limit = cleared.limit ∙ same.limit ∙ inv.same.limit;
      };
      opened = c.next.ensures.source.same_opened ∙ inv.opened;
      sound = c.next.ensures.source.same_sound ∙ inv.sound;
      no_fault = c.in_ok-more.ensures.source.cause ∙ inv.no_fault;
    }

pub returns-clause-bounded : goal.returns-clause-bounded
returns-clause-bounded g c =
    let inv = c.loop-more.invariant in
    λ opened. rw inv.same.limit at
    (EndsTurn-bounded (c.in_ok-more.ensures.ends _ _ inv.collected.fed))

pub returns-clause-read : goal.returns-clause-read
returns-clause-read g c =
    let reader = g.R.TraceReader in
    let source = g.S.Source in
    let inv = c.loop-more.invariant in
    let so_far = inv.collected in
    let old = c.loop-more.self in
    let mid = c.next.new.self in
    let new = c.clear.new.self in
    let said = recording_of reader.recording reader.terms old in
    let told = (said false (take old.limit so_far.bytes)).stretches in
    let traces = c.loop-more.traces in
    let packed = ArePacked-kept reader.names old mid traces told c.in_ok-more.ensures.views
    so_far.told in
    let pack : (added : List Stretch) → Wait reader.names mid added
    → ArePacked reader.names new c.pack.new.traces (told ++ added) =
    λ added wait. ArePacked-kept reader.names mid new c.pack.new.traces (told ++ added)
    c.clear.ensures.views (c.in_ok-pack.ensures told added packed wait) in
    let before = source.told c.args.source.now in
    let ends = rw c.if-not-more.true at
    (c.in_ok-more.ensures.ends before so_far.bytes so_far.fed) in
    let whole = said true (so_far.bytes ++ ends.piece) in
    let all = rw (said_whole ends) at
    (told_more (ArePacked reader.names new c.pack.new.traces) ends.adds inv.none pack) in
    λ asked asks.
    rw (← inv.same.said, ← inv.same.limit) (IsWhole-ended asked said old.limit
    (input_told before (source.told c.next.new.source)) _
    (c.next.ensures.source.same_opened ∙ inv.opened)
    (c.in_ok-more.ensures.source.cause ∙ inv.no_fault) ends
    (c.end_traces.ensures asked whole (c.clear.ensures.same.asks asked
    (c.in_ok-more.ensures.same.asks asked (inv.same.asks asked asks))) all
    (c.clear.ensures.ended whole.last ends.finds.2))
    (traces_by reader.terms reader.recording g.met.R.TraceReader.is_trace old.each.items true
    (so_far.bytes ++ ends.piece)))

pub returns-in_err-more-clause-by_name : goal.returns-in_err-more-clause-by_name
returns-in_err-more-clause-by_name g c =
    λ opened. c.open.ensures.by_name c.in_ok-open.ensures.opened

pub returns-in_err-pack-clause-by_name : goal.returns-in_err-pack-clause-by_name
returns-in_err-pack-clause-by_name g c =
    λ opened. c.open.ensures.by_name c.in_ok-open.ensures.opened

pub returns-clause-by_name : goal.returns-clause-by_name
returns-clause-by_name g c = λ opened. c.open.ensures.by_name c.in_ok-open.ensures.opened
