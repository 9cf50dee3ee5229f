use Rattle.tre_tool.proofs.Pieces.{AppendsPart-piece, OnErr-always}
use Rattle.tre_tool.proofs.report.put_pieces.Goals as goal

pub returns-in_err-put_all-clause-part : goal.returns-in_err-put_all-clause-part
returns-in_err-put_all-clause-part g c =
    let piece = rw c.as_bytes.ensures.value at c.in_err-put_all.ensures.part in
    OnErr-always _ _ (AppendsPart-piece (λ piece. piece.now) c.args.pieces.now
    c.loop-piece.piece-index _ _ _ _ c.loop-piece-test.true c.loop-piece.invariant.appended
    piece)
