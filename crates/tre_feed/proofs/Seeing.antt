-- What views show of the rows, for the names of each who asks.
use Rattle.std.proofs.Common.{◌≡◌, ◌∙◌, ℕ, zero, suc, ◌+◌, ◌<◌, ◌≤◌, Bool, List, [], ◌∷◌, ◌++◌, All, length, map, take, get_or, refl, sym, ap, ap₂, subst, arith, rules}
use Rattle.std.proofs.lemmas.List.{length-map, map-append, take_all, take_more}
use Rattle.std.proofs.lemmas.List.Elements.{All-head, All-tail}
use Rattle.std.proofs.lemmas.Option.{get_or_from_slice_get, slice_get_within}
use Rattle.tre_feed.specs.Places.{places_of}
use Rattle.tre_feed.specs.Shares.{IsViewOf, Shows, group_of}
use Rattle.tre_feed.specs.Shown.{shown_events, shown_segment}
use Rattle.tre_feed.specs.declared.view.View.{View}
use Rattle.tre_feed.proofs.Among.{seen-places}
use Rattle.tre_trace.specs.Reading.{Recording, Stretch, Vocabulary, events_for, no_names, segment_for, segments_for}
use Rattle.tre_trace.specs.Segments.{segment_with}
use Rattle.tre_trace.specs.Trace.{AreLong, IsTrace, Timeline, end_of, quiet, timeline_of}
use Rattle.tre_trace.specs.declared.segment.Segment.{Segment}
use Rattle.tre_feed.specs.Each.{LastsAre, RowsAre, groups_in}
use Rattle.tre_feed.specs.Packing.{ArePacked, CanPack, KeepsViews, ended_by, packed_behind, row_shown, trace_shown}
use Rattle.tre_feed.specs.Seen.{last_seen, lasts_in, no_segment, row_seen, rows_in, segment_seen}
use Rattle.tre_feed.specs.Standing.{AreFor, stretch_behind}
use Rattle.tre_feed.specs.Traces.{trace_for}
use Rattle.tre_feed.specs.declared.each.Fed.{Fed}
use Rattle.tre_feed.specs.declared.input.Input.{Input}
use Rattle.tre_feed.proofs.Standing.{segments_more}

pub at_mapped : {A B : Type 0} (f : A → B) (xs : List A) (k : ℕ) (d : A) (e : B) → k < length xs
    → get_or (map f xs) k e ≡ f (get_or xs k d)
at_mapped f [] k d e below = absurd (omega (arith, below))
at_mapped f (x ∷ xs) zero d e below = refl
at_mapped f (x ∷ xs) (suc k) d e below = at_mapped f xs k d e (omega (arith, below))

-- one more item was put behind those of a map
pub mapped-next : {A B : Type 0} (f : A → B) (xs : List A) (k : ℕ) (x : A) (old new : List B)
    (y : B) → old ≡ map f (take k xs) → k < length xs → x ≡ get_or xs k x → y ≡ f x
    → new ≡ old ++ y ∷ [] → new ≡ map f (take (k + 1) xs)
mapped-next {B = B} f xs k x old new y so_far below here is pushed =
    pushed ∙ (ap₂ (λ (front : List B) (last : B). front ++ last ∷ []) so_far (is ∙ ap f here)
    ∙ (sym (map-append f (take k xs) (get_or xs k x ∷ []))
    ∙ ap (map f) (sym (take_more xs k x below))))

-- the items of a map that goes as far as the list
pub mapped-all : {A B : Type 0} (f : A → B) (xs : List A) (k : ℕ) (all : List B) → length xs ≤ k
    → all ≡ map f (take k xs) → all ≡ map f xs
mapped-all f xs k all past so_far = so_far ∙ ap (map f) (take_all k xs past)

module _ {R : Type 0} (names : R → Vocabulary) where
  -- the row of a group is what waits, for its names
  pub row_at : (each : List (Fed R)) (group : ℕ) (stretches : List Stretch)
      → RowsAre names each stretches → group < length each
      → get_or (rows_in each) group []
      ≡ segments_for (get_or (groups_in names each) group no_names) stretches
  row_at [] group stretches rows below = absurd (omega (arith, below))
  row_at (fed ∷ each) zero stretches rows below = rows.0
  row_at (fed ∷ each) (suc group) stretches rows below =
      row_at each group stretches rows.1 (omega (arith, below))

  pub last_in : (each : List (Fed R)) (group : ℕ) (last : List ℕ → Bool)
      → LastsAre names each last → group < length each
      → get_or (lasts_in each) group 0
      ≡ events_for (get_or (groups_in names each) group no_names) last
  last_in [] group last lasts below = absurd (omega (arith, below))
  last_in (fed ∷ each) zero last lasts below = lasts.0
  last_in (fed ∷ each) (suc group) last lasts below =
      last_in each group last lasts.1 (omega (arith, below))

  -- each row is as long as what waits
  pub rows_below : (each : List (Fed R)) (views : List View) (stretches : List Stretch)
      (place : ℕ) → All (λ view. group_of view < length each) views
      → RowsAre names each stretches → place < length stretches
      → All (λ view. place < length (row_seen (rows_in each) view)) views
  rows_below each views stretches place within rows below =
      search (rules, row_seen, rows_in, row_at, group_of, length-map, segment_for)

-- what a view shows of a trace is one
IsTrace-shown : (view : View) (row : List Segment) → IsTrace row
    → IsTrace (map (shown_segment view) row)
IsTrace-shown view row is = record {
  long = long_shown row is.long;
  in_time = omega (arith, is.in_time, end_shown row 0);
}
  where
    long_shown : (row : List Segment) → AreLong row → AreLong (map (shown_segment view) row)
    long_shown [] long = tt
    long_shown (segment ∷ row) long = (long.0, long_shown row long.1)

    end_shown : (row : List Segment) (start : ℕ)
        → end_of start (map (shown_segment view) row) ≡ end_of start row
    end_shown [] start = refl
    end_shown (segment ∷ row) start = end_shown row (start + segment.len)

-- one who asks, of a group
module _ (asked all : Vocabulary) (view : View) (shows : Shows asked all view) where
  segment_shown : (stretch : Stretch)
      → shown_segment view (segment_for all stretch) ≡ segment_for asked stretch
  segment_shown stretch = ap₂ (λ val ev. segment_with stretch.len val ev)
      (seen-places asked.names all.names (places_of view.names) stretch.is_true shows.names)
      (seen-places asked.events all.events (places_of view.events) stretch.happens shows.events)

  segments_shown : (stretches : List Stretch)
      → map (shown_segment view) (segments_for all stretches) ≡ segments_for asked stretches
  segments_shown [] = refl
  segments_shown (stretch ∷ stretches) = ap₂ (λ (first : Segment) rest. first ∷ rest)
      (segment_shown stretch) (segments_shown stretches)

  last_shown : (last : List ℕ → Bool)
      → shown_events view (events_for all last) ≡ events_for asked last
  last_shown last = seen-places asked.events all.events (places_of view.events) _ shows.events

module _ {R : Type 0} (names : R → Vocabulary) (each : List (Fed R)) where
  group_within : (asked : Vocabulary) (view : View) → IsViewOf (groups_in names each) asked view
      → group_of view < length each
  group_within asked view own =
      search (rules, group_of, groups_in, slice_get_within, length-map, own.all, own.group)

  names_at : (asked : Vocabulary) (view : View)
      → (own : IsViewOf (groups_in names each) asked view)
      → get_or (groups_in names each) (group_of view) no_names ≡ own.all
  names_at asked view own =
      get_or_from_slice_get (groups_in names each) (group_of view) own.all no_names own.group

  segment_is : (asked : Vocabulary) (view : View) (stretches : List Stretch) (place : ℕ)
      → IsViewOf (groups_in names each) asked view → RowsAre names each stretches
      → place < length stretches
      → segment_seen (rows_in each) place view
      ≡ segment_for asked (get_or stretches place stretch_behind)
  segment_is asked view stretches place own rows below =
      ap (λ (row : List Segment). shown_segment view (get_or row place no_segment))
      (row_at names each (group_of view) stretches rows (group_within asked view own)
      ∙ ap (λ (group : Vocabulary). segments_for group stretches) (names_at asked view own))
      ∙ (ap (shown_segment view)
      (at_mapped (segment_for own.all) stretches place stretch_behind no_segment below)
      ∙ segment_shown asked own.all view own.shows (get_or stretches place stretch_behind))

  last_is : (asked : Vocabulary) (view : View) (last : List ℕ → Bool)
      → IsViewOf (groups_in names each) asked view → LastsAre names each last
      → last_seen (lasts_in each) view ≡ events_for asked last
  last_is asked view last own lasts =
      ap (shown_events view)
      (last_in names each (group_of view) last lasts (group_within asked view own)
      ∙ ap (λ (group : Vocabulary). events_for group last) (names_at asked view own))
      ∙ last_shown asked own.all view own.shows last

  shown_is : (asked : Vocabulary) (view : View) (stretches : List Stretch)
      → IsViewOf (groups_in names each) asked view
      → trace_shown (groups_in names each) stretches view ≡ quiet (segments_for asked stretches)
  shown_is asked view stretches own = ap quiet
      (ap (λ (group : Vocabulary). map (shown_segment view) (segments_for group stretches))
      (names_at asked view own) ∙ segments_shown asked own.all view own.shows stretches)

  -- what all views show is what all who ask are to be told
  pub column_is : (asked : List Vocabulary) (views : List View) (stretches : List Stretch)
      (place : ℕ) → AreFor asked (groups_in names each) views → RowsAre names each stretches
      → place < length stretches
      → map (segment_seen (rows_in each) place) views
      ≡ map (λ one. segment_for one (get_or stretches place stretch_behind)) asked
  column_is [] [] stretches place are rows below = refl
  column_is [] (view ∷ views) stretches place are rows below = absurd are
  column_is (one ∷ asked) [] stretches place are rows below = absurd are
  column_is (one ∷ asked) (view ∷ views) stretches place are rows below =
      ap₂ (λ (first : Segment) rest. first ∷ rest)
      (segment_is one view stretches place are.0 rows below)
      (column_is asked views stretches place are.1 rows below)

  pub lasts_are : (asked : List Vocabulary) (views : List View) (last : List ℕ → Bool)
      → AreFor asked (groups_in names each) views → LastsAre names each last
      → map (last_seen (lasts_in each)) views ≡ map (λ one. events_for one last) asked
  lasts_are [] [] last are lasts = refl
  lasts_are [] (view ∷ views) last are lasts = absurd are
  lasts_are (one ∷ asked) [] last are lasts = absurd are
  lasts_are (one ∷ asked) (view ∷ views) last are lasts =
      ap₂ (λ (first : ℕ) rest. first ∷ rest) (last_is one view last are.0 lasts)
      (lasts_are asked views last are.1 lasts)

  pub traces_are : (asked : List Vocabulary) (views : List View) (said : Recording)
      → AreFor asked (groups_in names each) views → LastsAre names each said.last
      → ended_by (lasts_in each) views
      (map (trace_shown (groups_in names each) said.stretches) views)
      ≡ map (trace_for said) asked
  traces_are [] [] said are lasts = refl
  traces_are [] (view ∷ views) said are lasts = absurd are
  traces_are (one ∷ asked) [] said are lasts = absurd are
  traces_are (one ∷ asked) (view ∷ views) said are lasts =
      ap₂ (λ (first : Timeline) rest. first ∷ rest)
      (ap₂ timeline_of
      (ap (λ (trace : Timeline). trace.segments) (shown_is one view said.stretches are.0))
      (last_is one view said.last are.0 lasts))
      (traces_are asked views said are.1 lasts)

  -- ---- what waits, behind what was packed

  shown_more : (view : View) (told waiting : List Stretch) → group_of view < length each
      → RowsAre names each waiting
      → quiet ((trace_shown (groups_in names each) told view).segments
      ++ row_shown (rows_in each) view)
      ≡ trace_shown (groups_in names each) (told ++ waiting) view
  shown_more view told waiting below rows =
      let group = get_or (groups_in names each) (group_of view) no_names in
      let front = segments_for group told in
      let behind = segments_for group waiting in
      ap quiet (ap (λ (row : List Segment). map (shown_segment view) front
      ++ map (shown_segment view) row) (row_at names each (group_of view) waiting rows below)
      ∙ (sym (map-append (shown_segment view) front behind)
      ∙ ap (map (shown_segment view)) (segments_more group told waiting)))

  pub can_pack : (views : List View) (told waiting : List Stretch)
      → All (λ view. group_of view < length each) views → RowsAre names each waiting
      → ((asked : Vocabulary) → IsTrace (segments_for asked (told ++ waiting)))
      → CanPack (rows_in each) views (map (trace_shown (groups_in names each) told) views)
  can_pack [] told waiting within rows is_trace = tt
  can_pack (view ∷ views) told waiting within rows is_trace =
      let group = get_or (groups_in names each) (group_of view) no_names in (
        subst (λ (trace : Timeline). IsTrace trace.segments)
            (sym (shown_more view told waiting (All-head (λ (one : View). group_of one < length each) view views within) rows))
            (IsTrace-shown view (segments_for group (told ++ waiting)) (is_trace group)),
        can_pack views told waiting (All-tail (λ (one : View). group_of one < length each) view views within) rows is_trace,
      )

  pub packed_more : (views : List View) (told waiting : List Stretch)
      → All (λ view. group_of view < length each) views → RowsAre names each waiting
      → packed_behind (rows_in each) views (map (trace_shown (groups_in names each) told) views)
      ≡ map (trace_shown (groups_in names each) (told ++ waiting)) views
  packed_more [] told waiting within rows = refl
  packed_more (view ∷ views) told waiting within rows =
      ap₂ (λ (first : Timeline) rest. first ∷ rest)
      (shown_more view told waiting (All-head (λ (one : View). group_of one < length each) view views within) rows)
      (packed_more views told waiting (All-tail (λ (one : View). group_of one < length each) view views within) rows)

-- what is packed stays so while groups and views do
pub ArePacked-kept : {R : Type 0} (names : R → Vocabulary) (old new : Input R)
    (traces : List Timeline) (stretches : List Stretch) → KeepsViews names old new
    → ArePacked names old traces stretches → ArePacked names new traces stretches
ArePacked-kept names old new traces stretches keeps packed = search rules

-- no stretch is packed in traces of no segments
pub ArePacked-none : {R : Type 0} (names : R → Vocabulary) (input : Input R)
    (traces : List Timeline) → traces ≡ map (λ view. quiet []) input.views.items
    → ArePacked names input traces []
ArePacked-none names input traces none = record { are = none }
