-- The rest of a trace that a piece is, and the one that goes on behind it.
use Rattle.std.specs.Prelude.{ℕ, ◌+◌, [], ◌∷◌}
use Rattle.tre_edges.specs.declared.piece.Piece.{Piece}
use Rattle.tre_syntax.specs.Cut.{CutRest}
use Rattle.tre_syntax.specs.Rest.{Rest, rest_of}
use Rattle.tre_trace.specs.Trace.{Timeline, quiet}

-- It begins with the piece, what was before the piece was before it, and its segment is all of it:
-- no event is known at its end.
abbrev pub rest_of_piece : Piece → Rest
rest_of_piece piece = rest_of piece.begin piece.before (quiet (piece.segment ∷ []))

-- When the piece ends.
abbrev pub end_of_piece : Piece → ℕ
end_of_piece piece = piece.begin + piece.segment.len

-- The rest of a trace that begins with the piece and goes on with what comes next, cut where the
-- piece ends.
abbrev pub cut_behind : Piece → Timeline → CutRest
cut_behind piece next = record {
  start = piece.begin;
  before = piece.before;
  front = piece.segment ∷ [];
  back = next;
}
