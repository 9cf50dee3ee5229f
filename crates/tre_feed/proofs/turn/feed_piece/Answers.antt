use Rattle.std.proofs.Common.{◌≡◌, ◌∙◌, ℕ, ◌≤◌, ◌++◌, List, false, length, take, arith, length-take, ap, subst, rules}
use Rattle.std.proofs.lemmas.Result.{err_from_is_err_and}
use Rattle.tre_feed.specs.Each.{AllWait, AllWereFed, recording_by}
use Rattle.tre_feed.specs.Turn.{TakesOn}
use Rattle.tre_feed.proofs.Cuts.{take_both}
use Rattle.tre_feed.proofs.Pieces.{KeepsSource-ok, StopsPiece-refused}
use Rattle.tre_trace.specs.declared.reader.TheConstants.{FED_MAX}
use Rattle.tre_feed.proofs.Standing.{room_less}
use Rattle.tre_feed.proofs.turn.feed_piece.Goals as goal

pub returns-in_err-count-clause-feeds : goal.returns-in_err-count-clause-feeds
returns-in_err-count-clause-feeds g c =
    search (rules, c.from_residual.result, c.from_residual.ensures.1, c.in_err-count.ensures.failed)

pub returns-in_err-count-clause-source : goal.returns-in_err-count-clause-source
returns-in_err-count-clause-source g c =
    let p = err_from_is_err_and c.from_residual.result c.from_residual.ensures.1 in
    rw (p.1, p.2) c.in_err-count.ensures.source

pub returns-in_err-feed_all-clause-feeds : goal.returns-in_err-feed_all-clause-feeds
returns-in_err-feed_all-clause-feeds g c =
    let p = err_from_is_err_and c.from_residual-in_err-feed_all.result
    c.from_residual-in_err-feed_all.ensures.1 in
    let count = c.in_ok-count.count in
    let buffer = c.read_piece.new.buffer in
    let short : length (take count buffer) ≤ length c.args.buffer.now = omega
    (arith, length-take {A = ℕ} count buffer, c.read_piece.ensures.length) in
    let fed : take c.min.result buffer ≡ take c.args.allowed (take count buffer) =
    ap (λ n. take n buffer) c.min.ensures ∙ take_both count c.args.allowed buffer in
    λ bytes so_far. rw (p.1, p.2) (StopsPiece-refused
    (recording_by g.R.TraceReader.recording g.R.TraceReader.terms c.args.each.now) _ _
    bytes (take count buffer) (take c.min.result buffer) _ _ _ _ _
    c.in_ok-count.ensures.read.taken short
    fed (c.in_err-feed_all.ensures.takes bytes so_far))

pub returns-in_err-feed_all-clause-source : goal.returns-in_err-feed_all-clause-source
returns-in_err-feed_all-clause-source g c =
    search (rules, c.from_residual-in_err-feed_all.ensures.1, c.in_err-feed_all.ensures.of_readers)

pub returns-clause-feeds : goal.returns-clause-feeds
returns-clause-feeds g c =
    let reader = g.R.TraceReader in
    let recording = recording_by reader.recording reader.terms c.args.each.now in
    let count = c.in_ok-count.count in
    let buffer = c.read_piece.new.buffer in
    let fed : take c.min.result buffer ≡ take c.args.allowed (take count buffer) =
    ap (λ n. take n buffer) c.min.ensures ∙ take_both count c.args.allowed buffer in
    λ bytes so_far. record {
      fed = subst (λ (more : List ℕ). AllWereFed reader.terms reader.represents
          c.feed_all.new.each (bytes ++ more)) fed (c.in_ok-feed_all.ensures.goes_on bytes so_far);
      all = subst (λ (more : List ℕ). TakesOn (AllWait reader.names c.args.each.now)
          (AllWait reader.names c.feed_all.new.each) (recording false bytes)
          (recording false (bytes ++ more))) fed (c.in_ok-feed_all.ensures.takes bytes so_far).0;
    }

pub returns-clause-source : goal.returns-clause-source
returns-clause-source g c = KeepsSource-ok c.in_ok-count.ensures.source

pub feed_all-requires-clause-room : goal.feed_all-requires-clause-room
feed_all-requires-clause-room g c = room_less g.R.TraceReader.fed_of c.args.each.now
    c.args.allowed (length (take c.min.result c.read_piece.new.buffer)) FED_MAX c.requires.fits
    (omega (arith, length-take {A = ℕ} c.min.result c.read_piece.new.buffer, c.min.ensures))

pub returns-in_err-feed_all-clause-same : goal.returns-in_err-feed_all-clause-same
returns-in_err-feed_all-clause-same g c = c.feed_all.ensures.same

pub returns-in_err-feed_all-clause-length : goal.returns-in_err-feed_all-clause-length
returns-in_err-feed_all-clause-length g c = c.read_piece.ensures.length

pub returns-clause-read : goal.returns-clause-read
returns-clause-read g c = c.in_ok-count.ensures.read

pub returns-clause-same : goal.returns-clause-same
returns-clause-same g c = c.feed_all.ensures.same

pub returns-clause-length : goal.returns-clause-length
returns-clause-length g c = c.read_piece.ensures.length

pub returns-clause-finds : goal.returns-clause-finds
returns-clause-finds g c = c.read_piece.ensures.finds
