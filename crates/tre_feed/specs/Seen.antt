-- What each who asks sees of what the readers have read.
use Rattle.std.specs.Prelude.{ℕ, List, [], map, slice_index_or}
use Rattle.tre_feed.specs.Shares.{group_of}
use Rattle.tre_feed.specs.Shown.{shown_events, shown_segment}
use Rattle.tre_feed.specs.declared.view.View.{View}
use Rattle.tre_trace.specs.declared.segment.Segment.{Segment}
use Rattle.tre_feed.specs.declared.each.Fed.{Fed}

-- the row of one
abbrev pub fed_row : {R : Type 0} → Fed R → List Segment
fed_row fed = fed.row.items

-- the events at the end that one has told
abbrev pub last_events_of : {R : Type 0} → Fed R → ℕ
last_events_of fed = fed.last

-- the rows of all
abbrev pub rows_in : {R : Type 0} → List (Fed R) → List (List Segment)
rows_in each = map fed_row each

-- the events at the end that each has told
abbrev pub lasts_in : {R : Type 0} → List (Fed R) → List ℕ
lasts_in each = map last_events_of each

-- the segment behind the last
abbrev pub no_segment : Segment
no_segment = record { len = 0; val = 0; ev = 0 }

-- the row that a view is of
abbrev pub row_seen : List (List Segment) → View → List Segment
row_seen rows view = slice_index_or rows (group_of view) []

-- what a view shows of the segment at one place
abbrev pub segment_seen : List (List Segment) → ℕ → View → Segment
segment_seen rows place view = shown_segment view (slice_index_or (row_seen rows view) place
    no_segment)

-- what it shows of the events at the end
abbrev pub last_seen : List ℕ → View → ℕ
last_seen lasts view = shown_events view (slice_index_or lasts (group_of view) 0)
