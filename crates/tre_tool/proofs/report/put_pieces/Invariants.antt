use Rattle.std.proofs.Common.{◌≡◌, flat_map, take}
use Rattle.std.specs.Io.KnownBytes.{Appends}
use Rattle.tre_tool.proofs.report.put_pieces.Given as goal

-- the pieces so far were appended, and no fault was counted
abbrev pub invariant-loop-piece : goal.invariant-loop-piece
invariant-loop-piece g l =
    let told = g.E.Sink.told in
    record {
      appended : Appends (told l.fn.err).written (told l.err).written (flat_map (λ piece. piece.now)
          (take l.piece-index l.pieces));
      no_fault : (told l.err).faults ≡ (told l.fn.err).faults;
    }
