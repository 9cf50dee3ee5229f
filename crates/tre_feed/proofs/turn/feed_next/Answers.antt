use Rattle.std.proofs.Common.{◌≡◌, ◌∙◌, ◌+◌, ◌-◌, ◌≤◌, ℕ, List, Ok, Err, length, take, arith, length-take, rules}
use Rattle.std.proofs.lemmas.Result.{err_from_is_err_and}
use Rattle.tre_trace.specs.declared.reader.TheConstants.{FED_MAX}
use Rattle.tre_feed.specs.Each.{AllWait, recording_by}
use Rattle.tre_feed.specs.declared.TheConstants.{PIECE}
use Rattle.tre_feed.proofs.Standing.{faultless_by, grows_by, recording_same, room_each}
use Rattle.tre_feed.proofs.Pieces.{EndsTurn-end, EndsTurn-fed, EndsTurn-passed, EndsTurn-stops, IsFed-all, KeepsSource-err, KeepsSource-ok, KeepsSource-readers}
use Rattle.tre_feed.proofs.Cuts.{put_back}
use Rattle.tre_feed.proofs.turn.feed_next.Given
use Rattle.tre_feed.proofs.turn.feed_next.Goals as goal
use Rattle.tre_feed.proofs.turn.feed_next.Goals.{After-min-room}

-- the room that a piece is read into
abbrev room : (g : Given.Over) → After-min-room g → List ℕ
room g c = take c.min-room.result c.args.buffer.now

some : (g : Given.Over) (c : After-min-room g)
    → length (room g c) ≤ c.args.limit - c.args.taken.now + 1
some g c = omega (arith, length-take {A = ℕ} c.min-room.result c.args.buffer.now, c.min-room.ensures)

fits : (g : Given.Over) (c : After-min-room g) → length (room g c) ≤ PIECE
fits g c = omega (
  arith,
  length-take {A = ℕ} c.min-room.result c.args.buffer.now,
  c.requires.buffer.short,
)

pub feed_piece-requires-clause-fits : goal.feed_piece-requires-clause-fits
feed_piece-requires-clause-fits g c = room_each g.R.TraceReader.fed_of c.args.each.now
    c.args.taken.now c.args.limit FED_MAX c.requires.readers.few c.if-taken-limit.false
    c.requires.fits

pub feed_piece-requires-clause-room : goal.feed_piece-requires-clause-room
feed_piece-requires-clause-room g c = search (rules, c.min-room.result)

pub returns-then-taken-limit : goal.returns-then-taken-limit
returns-then-taken-limit g c =
    let reader = g.R.TraceReader in
    record {
      ends = λ before bytes so_far. EndsTurn-passed so_far
          (recording_by reader.recording reader.terms c.args.each.now)
          (AllWait reader.names c.args.each.now) c.if-taken-limit.true
          (faultless_by reader.terms reader.recording reader.represents
          g.met.R.TraceReader.faultless c.args.each.now (take c.args.limit bytes) so_far.fed);
      taken = search rules;
      same = search rules;
      length = search rules;
      source = search rules;
    }

pub returns-in_err-count : goal.returns-in_err-count
returns-in_err-count g c =
    let reader = g.R.TraceReader in
    let inside = c.if-taken-limit.false in
    let has = (goal.at.returns-in_err-count g c).After-min-room in
    let p = err_from_is_err_and c.from_residual.result c.from_residual.ensures.1 in
    record {
      ends = λ before bytes so_far. rw (p.1, p.2) (EndsTurn-stops so_far
          (recording_by reader.recording reader.terms c.args.each.now)
          (g.S.Source.told c.feed_piece.new.source) c.feed_piece.ensures.finds inside
          (AllWait reader.names c.args.each.now) (AllWait reader.names c.feed_piece.new.each)
          (length (room g has)) (some g has) (fits g has)
          (grows_by reader.terms reader.recording g.met.R.TraceReader.grows c.args.each.now)
          (faultless_by reader.terms reader.recording reader.represents
          g.met.R.TraceReader.faultless c.args.each.now (take c.args.limit bytes) so_far.fed)
          c.in_err-count.field-0.0 (c.in_err-count.ensures.feeds bytes (IsFed-all so_far inside)));
      taken = search rules;
      same = c.feed_piece.ensures.same;
      length = put_back _ _ _ c.feed_piece.ensures.length;
      source = rw (p.1, p.2) (KeepsSource-err c.in_err-count.field-0.0
          c.in_err-count.ensures.source);
    }

pub returns-in_err-finish_all : goal.returns-in_err-finish_all
returns-in_err-finish_all g c =
    let reader = g.R.TraceReader in
    let inside = c.if-taken-limit.false in
    let p = err_from_is_err_and c.from_residual-in_err-finish_all.result
    c.from_residual-in_err-finish_all.ensures.1 in
    record {
      ends = λ before bytes so_far. rw (p.1, p.2) (EndsTurn-end so_far
          (recording_by reader.recording reader.terms c.args.each.now)
          (g.S.Source.told c.feed_piece.new.source) c.feed_piece.ensures.finds inside _
          (recording_same reader.names reader.terms reader.recording c.feed_piece.new.each
          c.args.each.now c.feed_piece.ensures.same) c.feed_piece.new.buffer c.in_ok-count.count
          c.if-count-eq0.true c.in_ok-count.ensures.read _ _ _
          (c.in_ok-count.ensures.feeds bytes (IsFed-all so_far inside))
          (Err c.in_err-finish_all.field-0.0) (c.in_err-finish_all.ensures.takes bytes)
          (λ fed. tt));
      taken = search rules;
      same = c.finish_all.ensures.same ∙ c.feed_piece.ensures.same;
      length = put_back _ _ _ c.feed_piece.ensures.length;
      source = search (rules, KeepsSource-readers, c.from_residual-in_err-finish_all.ensures.1);
    }

pub returns-then-count-eq0 : goal.returns-then-count-eq0
returns-then-count-eq0 g c =
    let reader = g.R.TraceReader in
    let inside = c.if-taken-limit.false in
    record {
      ends = λ before bytes so_far. EndsTurn-end so_far
          (recording_by reader.recording reader.terms c.args.each.now)
          (g.S.Source.told c.feed_piece.new.source) c.feed_piece.ensures.finds inside _
          (recording_same reader.names reader.terms reader.recording c.feed_piece.new.each
          c.args.each.now c.feed_piece.ensures.same) c.feed_piece.new.buffer c.in_ok-count.count
          c.if-count-eq0.true c.in_ok-count.ensures.read _ _ _
          (c.in_ok-count.ensures.feeds bytes (IsFed-all so_far inside)) (Ok tt)
          (c.in_ok-finish_all.ensures.takes bytes) (c.in_ok-finish_all.ensures.ended bytes);
      taken = search rules;
      same = c.finish_all.ensures.same ∙ c.feed_piece.ensures.same;
      length = put_back _ _ _ c.feed_piece.ensures.length;
      source = KeepsSource-ok c.in_ok-count.ensures.source;
    }

pub returns : goal.returns
returns g c =
    let reader = g.R.TraceReader in
    let inside = c.if-taken-limit.false in
    let has = (goal.at.returns g c).After-min-room in
    let count = c.in_ok-count.count in
    let within = c.in_ok-count.ensures.read.within in
    let size : length (take count c.feed_piece.new.buffer) ≡ count =
    omega (arith, length-take {A = ℕ} count c.feed_piece.new.buffer, within) in
    record {
      ends = λ before bytes so_far. EndsTurn-fed so_far
          (recording_by reader.recording reader.terms c.args.each.now)
          (g.S.Source.told c.feed_piece.new.source) c.feed_piece.ensures.finds inside _ _
          (length (room g has)) (some g has) (fits g has) (take count c.feed_piece.new.buffer)
          c.in_ok-count.ensures.read.taken
          (omega (arith, size, within, c.feed_piece.ensures.length)) (omega (arith, size))
          (c.in_ok-count.ensures.feeds bytes (IsFed-all so_far inside));
      taken = search (rules, c.min-room.result);
      same = c.feed_piece.ensures.same;
      length = put_back _ _ _ c.feed_piece.ensures.length;
      source = KeepsSource-ok c.in_ok-count.ensures.source;
    }
