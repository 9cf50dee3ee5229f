use Rattle.std.proofs.Common.{◌≡◌, map}
use Rattle.tre_num.specs.Kept.{IsInFirst, left_of}
use Rattle.tre_num.proofs.kept_bytes.free_front.Given as goal

-- the bytes that are left stay
abbrev pub invariant-loop-pieces : goal.invariant-loop-pieces
invariant-loop-pieces l = record {
  within : IsInFirst l.place (map (λ piece. piece.items) l.pieces.items);
  left : left_of l.place (map (λ piece. piece.items) l.pieces.items)
      ≡ left_of l.fn.place (map (λ piece. piece.items) l.fn.pieces.items);
}

abbrev pub decreases-loop-pieces : goal.decreases-loop-pieces
decreases-loop-pieces l = l.pieces.len
