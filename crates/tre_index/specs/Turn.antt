-- Items in the order of time, by the first two lanes of their rows: the keys of their begins.
use Rattle.std.specs.Prelude.{ℕ, ◌<◌, ◌≤◌, ℤ, pos, ◌<ℤ◌, ◌≤ℤ◌, List, [], length, slice_index_or}
use Rattle.tre_lanes.specs.Rows.{HasNone}
use Rattle.tre_index.specs.declared.turn.Stretch.{Stretch}

-- The row begins no earlier than another, at the least and at the most. In the first lane the
-- earlier begin has the greater key.
pub record IsNoEarlier (row before : List ℤ) : Type 0 where
  pub least : slice_index_or row 0 (pos 0) ≤ℤ slice_index_or before 0 (pos 0)
  pub most : slice_index_or before 1 (pos 0) ≤ℤ slice_index_or row 1 (pos 0)

-- Of the first rows, none begins earlier than one that stands before it.
pub record AreInTurnTo (count : ℕ) (rows : List (List ℤ)) : Type 0 where
  pub each : (early late : ℕ) → early ≤ late → late < count
      → IsNoEarlier (slice_index_or rows late []) (slice_index_or rows early [])

-- The same of all of them.
abbrev pub AreInTurn : List (List ℤ) → Type 0
AreInTurn rows = AreInTurnTo (length rows) rows

-- The row begins too early to reach the key.
pub record IsEarly (row key : List ℤ) : Type 0 where
  pub below : slice_index_or row 1 (pos 0) <ℤ slice_index_or key 1 (pos 0)

-- The row begins too late to reach the key.
pub record IsLate (row key : List ℤ) : Type 0 where
  pub below : slice_index_or row 0 (pos 0) <ℤ slice_index_or key 0 (pos 0)

-- Each row before the place begins too early to reach the key, and none from there on does.
pub record IsFirst (rows : List (List ℤ)) (key : List ℤ) (place : ℕ) : Type 0 where
  pub within : place ≤ length rows
  pub before : HasNone rows key 0 place
  pub here : place < length rows → IsEarly (slice_index_or rows place []) key → ⊥

-- The first row that doesn't begin too early stands at one of these places.
pub record IsAround (rows : List (List ℤ)) (key : List ℤ) (from to : ℕ) : Type 0 where
  pub rising : from ≤ to
  pub within : to ≤ length rows
  pub before : HasNone rows key 0 from
  pub here : to < length rows → IsEarly (slice_index_or rows to []) key → ⊥

-- None of the rows from one place up to another begins too late to reach the key.
pub record AreNotLate (rows : List (List ℤ)) (key : List ℤ) (from to : ℕ) : Type 0 where
  pub each : (k : ℕ) → from ≤ k → k < to → IsLate (slice_index_or rows k []) key → ⊥

-- No row before the stretch reaches the key, and none behind it; and none in it begins too early to
-- reach the key, or too late.
pub record IsStretch (rows : List (List ℤ)) (key : List ℤ) (stretch : Stretch) : Type 0 where
  pub rising : stretch.from ≤ stretch.to
  pub ends : stretch.to ≤ length rows
  pub before : HasNone rows key 0 stretch.from
  pub behind : HasNone rows key stretch.to (length rows)
  pub not_early : (k : ℕ) → stretch.from ≤ k → k < stretch.to
      → IsEarly (slice_index_or rows k []) key → ⊥
  pub not_late : (k : ℕ) → stretch.from ≤ k → k < stretch.to
      → IsLate (slice_index_or rows k []) key → ⊥
