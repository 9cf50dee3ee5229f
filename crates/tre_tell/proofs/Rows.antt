-- A watch that is told stretches, one column behind the other.
use Rattle.std.proofs.Common.{◌≡◌, ◌∙◌, ℕ, zero, suc, ◌+◌, ◌<◌, ◌≤◌, List, [], ◌∷◌, ◌++◌, get_or, length, take, drop, Option, refl, sym, ap, subst, arith, append_assoc}
use Rattle.std.specs.List.{AllByRecursion}
use Rattle.std.proofs.lemmas.List.{length-map, map-append}
use Rattle.tre_online.specs.Watch.{sessions_of, trees_of, pushed_each, StandForEach, Watches}
use Rattle.tre_online.specs.declared.session.Session.{Session}
use Rattle.tre_online.specs.declared.watch.Watch.{Watch}
use Rattle.tre_trace.specs.Reading.{Stretch, Vocabulary, segment_for, segments_for}
use Rattle.tre_trace.specs.Trace.{end_of, AreLong, IsTrace, Fits}
use Rattle.tre_trace.specs.declared.segment.Segment.{Segment}
use Rattle.tre_trace.proofs.Segments.{end_of-append, end_of-le}
use Rattle.tre_feed.specs.Standing.{stretch_behind}
use Rattle.tre_feed.specs.declared.fault.Fault.{Fault}
use Rattle.tre_tell.specs.Sought.{Sought, all_names}
use Rattle.tre_tell.specs.Telling.{rows_for, column_for, FirstFits, CanTell, CanTellAll, StopsAtColumn, StopsWithin}
use Rattle.tre_tell.proofs.Lists.{split_around}
use Rattle.tre_tell.proofs.Stretches.{pushed_for}

-- a watch has as many rows as patterns
pub count_rows : (watch : Watch) (rows : List (List Segment)) → Watches watch rows
    → length rows ≡ length (trees_of watch)
count_rows watch rows stands =
    each_one (sessions_of watch) rows stands.each ∙ sym (length-map (sessions_of watch) _)
  where
    each_one : (sessions : List Session) (rows : List (List Segment))
        → StandForEach sessions rows → length rows ≡ length sessions
    each_one [] [] each = refl
    each_one [] (row ∷ rows) each = absurd each
    each_one (session ∷ sessions) [] each = absurd each
    each_one (session ∷ sessions) (row ∷ rows) each = ap suc (each_one sessions rows each.1)

-- as many as names are asked for
pub count_asked : (watch : Watch) (asked : List Vocabulary) (told : List Stretch)
    → Watches watch (rows_for asked told) → length asked ≡ length (trees_of watch)
count_asked watch asked told stands =
    sym (length-map asked (λ names. segments_for names told))
    ∙ count_rows watch (rows_for asked told) stands

long_within : (front : List Segment) (segment : Segment) (rest : List Segment)
    → AreLong (front ++ segment ∷ rest) → 1 ≤ segment.len
long_within [] segment rest long = long.0
long_within (first ∷ front) segment rest long = long_within front segment rest long.1

-- each segment of a trace fits behind those before it
fits_within : (front : List Segment) (segment : Segment) (rest : List Segment)
    → IsTrace (front ++ segment ∷ rest) → Fits front segment
fits_within front segment rest trace = record {
  long = long_within front segment rest trace.long;
  in_time =
      let in_time = trace.in_time in
      let whole = end_of-append 0 front (segment ∷ rest) in
      let after = end_of-le (end_of 0 front + segment.len) rest in
      omega (arith, in_time, whole, after);
}

first_fits : (asked : List Vocabulary) (front : List Stretch) (next : Stretch)
    (rest : List Stretch)
    → ((names : Vocabulary) → IsTrace (segments_for names (front ++ next ∷ rest)))
    → FirstFits (rows_for asked front) (column_for asked next)
first_fits [] front next rest is_trace = tt
first_fits (names ∷ asked) front next rest is_trace =
    fits_within (segments_for names front) (segment_for names next) (segments_for names rest)
    (subst IsTrace (map-append (segment_for names) front (next ∷ rest)) (is_trace names))

-- the next column of those that wait can be told
pub CanTell-at : (watch then : Watch) (asked : List Vocabulary) (waiting : List Stretch)
    → (can : CanTellAll watch asked waiting) → (front : List Stretch) (next : Stretch)
    (rest : List Stretch) → waiting ≡ front ++ next ∷ rest
    → Watches then (rows_for asked (can.told ++ front)) → CanTell then (column_for asked next)
CanTell-at watch then asked waiting can front next rest split stands = record {
  rows = rows_for asked (can.told ++ front);
  stands = stands;
  some = rw (length-map asked (λ names. segment_for names next)) can.some;
  count = length-map asked (λ names. segment_for names next)
      ∙ count_asked then asked (can.told ++ front) stands;
  alike = record { len = next.len; each = alike asked };
  fits = first_fits asked (can.told ++ front) next rest (λ names.
      subst (λ all. IsTrace (segments_for names all))
      (ap (λ all. can.told ++ all) split ∙ sym (append_assoc can.told front (next ∷ rest)))
      (can.is_trace names));
}
  where
    alike : (all : List Vocabulary)
        → AllByRecursion (λ segment. segment.len ≡ next.len) (column_for all next)
    alike [] = tt
    alike (names ∷ all) = (refl, alike all)

-- one stretch more of those that wait
pub pushed_at : (asked : List Vocabulary) (told waiting : List Stretch) (place : ℕ)
    → place < length waiting
    → pushed_each (rows_for asked (told ++ take place waiting))
    (column_for asked (get_or waiting place stretch_behind))
    ≡ rows_for asked (told ++ take (suc place) waiting)
pushed_at asked told waiting place below =
    pushed_for asked (told ++ take place waiting) (get_or waiting place stretch_behind)
    ∙ ap (rows_for asked) (append_assoc told (take place waiting) _
    ∙ ap (λ front. told ++ front) (sym (take_suc waiting place below)))
  where
    take_suc : (xs : List Stretch) (i : ℕ) → i < length xs
        → take (suc i) xs ≡ take i xs ++ get_or xs i stretch_behind ∷ []
    take_suc [] i below = absurd (omega (arith, below))
    take_suc (x ∷ xs) zero below = refl
    take_suc (x ∷ xs) (suc i) below =
        ap (λ rest. x ∷ rest) (take_suc xs i (omega (arith, below)))

-- Of the stretches that wait, the telling stopped at the one at the place.
pub stopped_at : (scale : ℕ) (patterns : List Sought) (told waiting : List Stretch)
    (before now : Option (List ℕ)) (fault : Fault) (place : ℕ) → place < length waiting
    → StopsAtColumn scale patterns (rows_for (all_names patterns) (told ++ take place waiting))
    (column_for (all_names patterns) (get_or waiting place stretch_behind)) before now fault
    → StopsWithin scale patterns told waiting before now fault
stopped_at scale patterns told waiting before now fault place below stops = record {
  front = take place waiting;
  next = get_or waiting place stretch_behind;
  rest = drop (suc place) waiting;
  split = split_around waiting place stretch_behind below;
  stops = stops;
}
