use Rattle.std.proofs.Common.{◌≡◌, ◌∙◌, ◌++◌, Bool, false, true, Result, Ok, Err, Some, [], map, string_bytes, arith, refl, sym, ap, rules}
use Rattle.std.proofs.lemmas.List.{length-map}
use Rattle.std.proofs.lemmas.Result.{err_from_is_err_and}
use Rattle.tre_feed.specs.Input.{input_told}
use Rattle.tre_feed.specs.Standing.{Asks, HasEnded, Wait, WereFed, recording_of, taken_of}
use Rattle.tre_feed.specs.declared.fault.Fault.{Fault}
use Rattle.tre_feed.proofs.Pieces.{EndsTurn-bounded}
use Rattle.tre_tell.specs.Sought.{all_names}
use Rattle.tre_tell.specs.Request.{Request, request_by}
use Rattle.tre_tell.proofs.Loop.{HasReadCause-from, HasTold-nothing, EndsTelling-unread, StandsAtMemory-unread, IsAsked-next, asked_sought, count_lasts, faultless_new, labels_count, laws_of, some_sought, starts_of}
use Rattle.tre_tell.proofs.Tellings.{told_reads, IsTurn, CanTell-turn, EndsTelling-end, EndsTelling-stopped, EndsTelling-within, first_stand, known}
use Rattle.tre_tell.proofs.telling.tell_matches.Given
use Rattle.tre_tell.proofs.telling.tell_matches.Goals as goal
use Rattle.tre_tell.proofs.telling.tell_matches.Goals.{After-next-read}

-- what is asked, as all goals say it
abbrev request : (g : Given.Over) → After-next-read g → Request
request g c = request_by c.args.job.now [] (map string_bytes c.args.labels.now) c.args.patterns.now
    (recording_of g.R.TraceReader.recording g.R.TraceReader.terms c.args.input.now)

-- what the turn found, by what `next` answered
turn : (g : Given.Over) (c : After-next-read g) (result : Result Bool Fault)
    → c.next-read.result ≡ result
    → IsTurn (request g c)
    (input_told (g.S.Source.told c.args.source.now) (g.S.Source.told c.next-read.new.source))
    c.loop-room.invariant.telling.bytes (Wait g.R.TraceReader.names c.loop-room.input)
    (Wait g.R.TraceReader.names c.next-read.new.self)
    (WereFed g.R.TraceReader.terms g.R.TraceReader.represents c.next-read.new.self)
    (HasEnded g.R.TraceReader.names c.next-read.new.self) (taken_of c.next-read.new.self) result
turn g c result is =
    let met = g.met.R.TraceReader in
    let inv = c.loop-room.invariant in
    let source = c.next-read.ensures.source in
    record {
      comes = c.requires.comes;
      some = some_sought _ c.args.patterns.now
          (length-map c.args.labels.now string_bytes ∙ c.requires.labels) c.requires.some;
      laws = laws_of g.R.TraceReader.recording g.R.TraceReader.terms met.starts met.grows
          met.is_trace c.args.input.now.each.items;
      ends = rw (inv.same.said, inv.same.limit, c.requires.limit, is) at c.next-read.ensures.ends
          (g.S.Source.told c.args.source.now) inv.telling.bytes inv.telling.fed;
      none = inv.none;
      opened = source.same_opened ∙ inv.opened;
      cause = HasReadCause-from _ _ _ result inv.no_fault (rw is at source.cause);
      sound = λ good failed. source.no_failure (rw inv.sound good) (rw is failed);
    }

-- the input asks for the names of all patterns
asks : (g : Given.Over) (c : After-next-read g)
    → Asks g.R.TraceReader.names c.next-read.new.self (all_names (request g c).patterns)
asks g c =
    let all = all_names (request g c).patterns in
    c.next-read.ensures.same.asks all (c.loop-room.invariant.same.asks all
    (rw (asked_sought (map string_bytes c.args.labels.now) c.args.patterns.now
    (length-map c.args.labels.now string_bytes ∙ c.requires.labels)) c.requires.asks))

pub returns-in_err-watch-clause-ends : goal.returns-in_err-watch-clause-ends
returns-in_err-watch-clause-ends g c =
    let p = err_from_is_err_and c.from_residual.result c.from_residual.ensures.1 in
    let reader = g.R.TraceReader in
    rw (p.1, p.2) (
      refl,
      StandsAtMemory-unread (request_by c.args.job.now []
          (map string_bytes c.args.labels.now) c.args.patterns.now
          (recording_of reader.recording reader.terms c.args.input.now))
          (starts_of reader.recording reader.terms g.met.R.TraceReader.starts
          c.args.input.now.each.items) _ _ (λ is_open. cc)
          (record { unwritten = refl; writes = refl }) (λ is_open. cc),
    )

pub returns-in_err-open-clause-ends : goal.returns-in_err-open-clause-ends
returns-in_err-open-clause-ends g c =
    let p = err_from_is_err_and c.from_residual-in_err-open.result
    c.from_residual-in_err-open.ensures.1 in
    let reader = g.R.TraceReader in
    let met = g.met.R.TraceReader in
    let refused = c.in_err-open.ensures.refused in
    rw (p.1, p.2) (EndsTelling-unread (request_by c.args.job.now []
    (map string_bytes c.args.labels.now) c.args.patterns.now
    (recording_of reader.recording reader.terms c.args.input.now))
    (starts_of reader.recording reader.terms met.starts c.args.input.now.each.items) _ _
    (λ is_open. cc) (record { unwritten = refl; writes = refl }) c.in_err-open.field-0.0
    (told_reads c.args.job.now.mode c.requires.comes)
    (faultless_new reader.recording reader.terms reader.represents reader.names met.faultless
    c.args.input.now c.requires.new) (λ is_open. cc) c.in_err-open.ensures.cause
    (λ other wanting. other c.in_err-open.ensures.read)
    (λ good named is. c.in_err-open.ensures.sound good
    (named ∙ ap Some (sym c.text.ensures)) (ap Err is)))

pub returns-in_err-open-clause-bounded : goal.returns-in_err-open-clause-bounded
returns-in_err-open-clause-bounded g c = λ opened. let refused = c.in_err-open.ensures.refused in cc

pub loop-room-init : goal.loop-room-init
loop-room-init g c =
    let reader = g.R.TraceReader in
    record {
      telling = record {
        bytes = [];
        fed = rw c.requires.limit at (c.in_ok-open.ensures.fed c.requires.new);
        told = HasTold-nothing _ _ (recording_of reader.recording reader.terms c.args.input.now) _
            _ (starts_of reader.recording reader.terms g.met.R.TraceReader.starts
            c.args.input.now.each.items) _ _
            (length-map c.args.labels.now string_bytes ∙ c.requires.labels)
            c.in_ok-watch.ensures.stands c.in_ok-watch.ensures.ended c.in_ok-watch.ensures.trees;
      };
      none = c.requires.new.none;
      same = record { asks = λ asked asks. asks; said = refl; limit = refl };
      opened = c.in_ok-open.ensures.opened;
      sound = c.in_ok-open.ensures.same_sound;
      no_fault = c.in_ok-open.ensures.cause;
      good = refl;
    }

pub next-read-requires : goal.next-read-requires
next-read-requires g c =
    let inv = c.loop-room.invariant in
    record {
      opened = inv.opened;
      reads_on = record {
        bytes = inv.telling.bytes;
        size = inv.telling.fed.size;
        fed = rw (inv.same.limit, c.requires.limit) inv.telling.fed.fed;
      };
    }

pub tell_blocks-requires : goal.tell_blocks-requires
tell_blocks-requires g c =
    let has = (goal.at.tell_blocks-requires g c).After-next-read in
    let inv = c.loop-room.invariant in
    let waiting = known (turn g has _ refl) in
    record {
      comes = record {
        asked = all_names (request g has).patterns;
        waiting = waiting.added;
        asks = asks g has;
        wait = waiting.wait;
        can = CanTell-turn (turn g has _ refl) c.loop-room.watch inv.telling.told.stands;
      };
      labels = sym (length-map c.args.labels.now string_bytes) ∙ labels_count inv.telling.told;
      scale = c.requires.scale;
    }

pub returns-in_err-tell_blocks : goal.returns-in_err-tell_blocks
returns-in_err-tell_blocks g c =
    let has = (goal.at.returns-in_err-tell_blocks g c).After-next-read in
    let inv = c.loop-room.invariant in
    let p = err_from_is_err_and c.from_residual-in_err-tell_blocks.result
    c.from_residual-in_err-tell_blocks.ensures.1 in
    record {
      ends = rw (p.1, p.2) (EndsTelling-within c.next-read.result (turn g has _ refl) _
          c.in_err-tell_blocks.field-0.0 inv.good c.in_err-tell_blocks.ensures.cause
          (λ waiting wait. c.in_err-tell_blocks.ensures.stops _ _ waiting _ (asks g has) wait
          inv.telling.told));
      bounded = λ opened. EndsTurn-bounded (turn g has _ refl).ends;
      by_name = search rules;
    }

pub returns-in_err-read : goal.returns-in_err-read
returns-in_err-read g c =
    let has = (goal.at.returns-in_err-read g c).After-next-read in
    let inv = c.loop-room.invariant in
    let p = err_from_is_err_and c.from_residual-in_err-read.result
    c.from_residual-in_err-read.ensures.1 in
    record {
      ends = rw (p.1, p.2) (EndsTelling-stopped c.in_err-read.field-0.0
          (turn g has (Err c.in_err-read.field-0.0) c.in_err-read.was) _
          (c.in_ok-tell_blocks.ensures.cause ∙ inv.good)
          (λ waiting wait. (c.in_ok-tell_blocks.ensures.told _ _ waiting _ (asks g has) wait
          inv.telling.told).told));
      bounded = λ opened. EndsTurn-bounded (turn g has _ refl).ends;
      by_name = search rules;
    }

pub loop-room-preserved : goal.loop-room-preserved
loop-room-preserved g c =
    let has = (goal.at.loop-room-preserved g c).After-next-read in
    let inv = c.loop-room.invariant in
    let more = turn g has (Ok true) (rw c.if-not-branch.false at c.in_ok-read.was) in
    let ends = more.ends in
    record {
      telling = record {
        bytes = inv.telling.bytes ++ ends.piece;
        fed = record {
          front = ends.front;
          last = ends.last;
          size = ends.finds.1 ∙ sym c.clear.ensures.taken;
          few = omega (arith, ends.finds.1, ends.few, c.clear.ensures.taken);
          fed = c.clear.ensures.fed _ ends.finds.2;
        };
        told = rw (rw ends.finds.0 at ends.adds.beyond) (c.in_ok-tell_blocks.ensures.told _ _ _ _
            (asks g has) (ends.adds.then [] inv.none) inv.telling.told);
      };
      none = c.clear.ensures.none;
      same = IsAsked-next (IsAsked-next inv.same c.next-read.ensures.same) c.clear.ensures.same;
      opened = more.opened;
      sound = c.next-read.ensures.source.same_sound ∙ inv.sound;
      no_fault = more.cause;
      good = c.in_ok-tell_blocks.ensures.cause ∙ inv.good;
    }

pub returns-in_err-lasts : goal.returns-in_err-lasts
returns-in_err-lasts g c =
    let has = (goal.at.returns-in_err-lasts g c).After-next-read in
    let inv = c.loop-room.invariant in
    let p = err_from_is_err_and c.from_residual-in_err-lasts.result
    c.from_residual-in_err-lasts.ensures.1 in
    let ended = turn g has (Ok false) (rw c.if-not-branch.true at c.in_ok-read.was) in
    record {
      ends = rw (p.1, p.2) (
        ended.cause,
        first_stand ended _ (c.in_ok-tell_blocks.ensures.cause ∙ inv.good) (λ waiting wait.
            (c.in_ok-tell_blocks.ensures.told _ _ waiting _ (asks g has) wait inv.telling.told).told),
      );
      bounded = λ opened. EndsTurn-bounded (turn g has _ refl).ends;
      by_name = search rules;
    }

pub tell_end-requires : goal.tell_end-requires
tell_end-requires g c =
    let has = (goal.at.tell_end-requires g c).After-next-read in
    let inv = c.loop-room.invariant in
    let ended = turn g has (Ok false) (rw c.if-not-branch.true at c.in_ok-read.was) in
    let told = c.in_ok-tell_blocks.ensures.told _ _ _ _ (asks g has) (ended.ends.adds.then [] inv.none)
    inv.telling.told in
    let lasts = c.in_ok-lasts.ensures _ _ (c.clear.ensures.same.asks _ (asks g has))
    (c.clear.ensures.ended _ ended.ends.finds.2) in
    record {
      reads = record { rows = _; stands = told.stands };
      count = rw (c.deref.ensures.value, lasts, c.in_ok-tell_blocks.ensures.trees)
          (count_lasts c.loop-room.watch _ _ _ inv.telling.told.stands);
      labels = sym (length-map c.args.labels.now string_bytes) ∙ labels_count told;
      scale = c.requires.scale;
    }

pub returns : goal.returns
returns g c =
    let has = (goal.at.returns g c).After-next-read in
    let inv = c.loop-room.invariant in
    let ended = turn g has (Ok false) (rw c.if-not-branch.true at c.in_ok-read.was) in
    record {
      ends = EndsTelling-end ended _ c.tell_end.result _ (c.deref.ensures.value
          ∙ c.in_ok-lasts.ensures _ _ (c.clear.ensures.same.asks _ (asks g has))
          (c.clear.ensures.ended _ ended.ends.finds.2))
          (c.in_ok-tell_blocks.ensures.cause ∙ inv.good) c.tell_end.ensures.cause
          (λ waiting wait. c.tell_end.ensures.tells _ _ _
          (c.in_ok-tell_blocks.ensures.told _ _ waiting _ (asks g has) wait inv.telling.told));
      bounded = λ opened. EndsTurn-bounded (turn g has _ refl).ends;
      by_name = search rules;
    }
