-- How traces are made of what is read, piece by piece: one for each view.
use Rattle.std.specs.Prelude.{◌≡◌, ℕ, List, ◌∷◌, ◌++◌, map, slice_index_or}
use Rattle.std.specs.List.{AllZip}
use Rattle.tre_trace.specs.Reading.{Stretch, Vocabulary, no_names, segments_for}
use Rattle.tre_trace.specs.Trace.{Timeline, IsTrace, quiet, timeline_of}
use Rattle.tre_trace.specs.declared.segment.Segment.{Segment}
use Rattle.tre_feed.specs.Each.{groups_in}
use Rattle.tre_feed.specs.Seen.{last_seen, row_seen}
use Rattle.tre_feed.specs.Shares.{group_of}
use Rattle.tre_feed.specs.Shown.{shown_segment}
use Rattle.tre_feed.specs.Standing.{Wait}
use Rattle.tre_feed.specs.declared.input.Input.{Input}
use Rattle.tre_feed.specs.declared.view.View.{View}

-- what a view shows of its row
abbrev pub row_shown : List (List Segment) → View → List Segment
row_shown rows view = map (shown_segment view) (row_seen rows view)

-- What each view shows of its row may stand behind the segments of its trace.
abbrev pub CanPack : List (List Segment) → List View → List Timeline → Type 0
CanPack rows views traces =
    AllZip (λ view trace. IsTrace (trace.segments ++ row_shown rows view)) views traces

-- the traces, each with what its view shows of its row behind it
abbrev pub packed_behind : List (List Segment) → List View → List Timeline → List Timeline
packed_behind rows (view ∷ views) (trace ∷ traces) =
    quiet (trace.segments ++ row_shown rows view) ∷ packed_behind rows views traces
packed_behind rows views traces = traces

-- the traces, each with what its view shows of the events at the end
abbrev pub ended_by : List ℕ → List View → List Timeline → List Timeline
ended_by lasts (view ∷ views) (trace ∷ traces) =
    timeline_of trace.segments (last_seen lasts view) ∷ ended_by lasts views traces
ended_by lasts views traces = traces

-- the trace of these stretches for a view of one of the groups, as far as they were read
abbrev pub trace_shown : List Vocabulary → List Stretch → View → Timeline
trace_shown groups stretches view = quiet (map (shown_segment view)
    (segments_for (slice_index_or groups (group_of view) no_names) stretches))

-- The traces are these stretches, for each who asks.
pub record ArePacked {R : Type 0} (names : R → Vocabulary) (input : Input R)
    (traces : List Timeline) (stretches : List Stretch) : Type 0 where
  pub are : traces ≡ map (trace_shown (groups_in names input.each.items) stretches)
      input.views.items

-- What waits may stand behind what is packed.
pub record CanPackMore {R : Type 0} (names : R → Vocabulary) (input : Input R)
    (traces : List Timeline) : Type 0 where
  pub told : List Stretch
  pub waiting : List Stretch
  pub packed : ArePacked names input traces told
  pub wait : Wait names input waiting
  pub is_trace : (asked : Vocabulary) → IsTrace (segments_for asked (told ++ waiting))

-- Its readers read for the same names, and its views are the same.
pub record KeepsViews {R : Type 0} (names : R → Vocabulary) (old new : Input R) : Type 0 where
  pub groups : groups_in names new.each.items ≡ groups_in names old.each.items
  pub views : new.views.items ≡ old.views.items
