-- What a literal keeps that has begun.
use Rattle.std.specs.Prelude.{ℕ, ◌-◌, ◌*◌, ◌<◌, ◌≤◌, ◌↔◌, ◌⊎◌, List, Option}
use Rattle.tre_pairs.specs.Pairs.{Pairs}
use Rattle.tre_zone.specs.Held.{Held}
use Rattle.tre_zone.specs.Longest.{LastsUpTo}
use Rattle.tre_zone.specs.declared.zone_bounds.ZoneBounds.{ZoneBounds}
use Rattle.tre_edges.specs.Piece.{end_of_piece}
use Rattle.tre_edges.specs.declared.piece.Piece.{Piece}
use Rattle.tre_pairs.specs.Before.{Before}

-- A pair of E begins there, and ends before the cut.
pub record BeginsBefore (cut : ℕ) (E : Pairs) (a n : ℕ) : Type 0 where
  pub factor : ℕ
  pub positive : 0 < factor
  pub midpoint : ℕ
  pub pair : Before cut E (factor * a) midpoint (factor * n)

-- The new list has the begins of the old one, which ended where the piece begins, and those of E
-- before the end of the piece, as pairs that end there: as far as they count.
pub record Begins (longest : Option ℕ) (piece : Piece) (old : List ZoneBounds) (E : Pairs)
    (new : List ZoneBounds) : Type 0 where
  pub at : (a n : ℕ) → 0 < n → LastsUpTo longest (end_of_piece piece * n - a) n
      → Held new a (end_of_piece piece * n) n
      ↔ (Held old a (piece.begin * n) n ⊎ BeginsBefore (end_of_piece piece) E a n)

-- As far as they count, the pairs end at the time or later.
pub record EndsFrom (longest : Option ℕ) (time : ℕ) (E : Pairs) : Type 0 where
  pub from : (a b n : ℕ) → 0 < n → LastsUpTo longest (b - a) n → E a b n → time * n ≤ b
