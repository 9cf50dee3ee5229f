use Rattle.std.proofs.Common.{ℕ, [], take, arith, length-append, length-take, rules}
use Rattle.std.proofs.KnownBytes.{Consumes-kept, Consumes-nil}
use Rattle.std.proofs.lemmas.List.{take-append-le}
use Rattle.std.proofs.lemmas.Result.{err_from_is_err_and}
use Rattle.tre_feed.proofs.Cuts.{put_back}
use Rattle.tre_feed.proofs.Pieces.{IsReadOn-nothing, KeepsSource-err, KeepsSource-ok}
use Rattle.tre_feed.proofs.front.read_more.Goals as goal

pub returns-in_err-count-clause-source : goal.returns-in_err-count-clause-source
returns-in_err-count-clause-source g c =
    let p = err_from_is_err_and c.from_residual.result c.from_residual.ensures.1 in
    rw (p.1, p.2) (KeepsSource-err c.in_err-count.field-0.0 c.in_err-count.ensures.source)

pub returns-clause-source : goal.returns-clause-source
returns-clause-source g c = KeepsSource-ok c.in_ok-count.ensures.source

pub returns-then-room-eq0-clause-read : goal.returns-then-room-eq0-clause-read
returns-then-room-eq0-clause-read g c = IsReadOn-nothing _ _ _ _ _ c.requires.few (Consumes-nil _)

pub returns-then-room-eq0-clause-end : goal.returns-then-room-eq0-clause-end
returns-then-room-eq0-clause-end g c = λ is below. absurd (omega (
  arith,
  c.min-room.ensures,
  c.if-room-eq0.true,
  c.requires.room,
  below,
  c.len.ensures,
  c.args.bytes.now.ok.0,
))

pub returns-in_err-count-clause-read : goal.returns-in_err-count-clause-read
returns-in_err-count-clause-read g c = IsReadOn-nothing c.args.most c.args.bytes.now.items _ _ _
    c.requires.few (Consumes-kept _ _ _ [] (Consumes-nil _) c.in_err-count.ensures.kept)

pub returns-in_err-extend_from_slice-clause-read :
    goal.returns-in_err-extend_from_slice-clause-read
returns-in_err-extend_from_slice-clause-read g c =
    let p = err_from_is_err_and c.from_residual-in_err-extend_from_slice.result
    c.from_residual-in_err-extend_from_slice.ensures.1 in
    let old = c.args.bytes.now.items in
    let count = c.in_ok-count.count in
    let buffer = c.read_piece.new.buffer in
    let piece = take count buffer in
    record {
      piece = piece;
      front = c.in_ok-count.ensures.read.taken;
      few = omega (
        arith,
        length-append old piece,
        length-take {A = ℕ} count buffer,
        c.in_ok-count.ensures.read.within,
        c.read_piece.ensures.length,
        length-take {A = ℕ} c.min-room.result c.args.buffer.now,
        c.min-room.ensures,
        c.len.ensures,
        c.args.bytes.now.ok.0,
        c.requires.few,
      );
      added = rw p.1 tt;
    }

pub returns-clause-read : goal.returns-clause-read
returns-clause-read g c =
    search (rules, take-append-le, c.args.bytes.now.items, c.in_ok-count.count)

pub returns-clause-length : goal.returns-clause-length
returns-clause-length g c = put_back _ _ _ c.read_piece.ensures.length
