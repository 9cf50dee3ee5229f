-- Runs of the ones of words, each by the place of its first segment.
use Rattle.std.specs.Prelude.{◌≡◌, ℕ, zero, suc, ◌+◌, ◌-◌, ◌<◌, ◌==◌, if◌then◌else◌, false, All, List, length, map, take}
use Rattle.tre_trace.specs.Planes.{bit_in, words_for}
use Rattle.tre_trace.specs.Trace.{Timeline, end_of}
use Rattle.tre_trace.specs.declared.trace.Start.{Start}
use Rattle.tre_edges.specs.NextPlace.{IsNextPlace}
use Rattle.tre_edges.specs.RunsInTime.{AreInTime}
use Rattle.tre_edges.specs.declared.run_sets.Run.{Run}

-- A trace, and words with a bit for each of its segments.
pub record TraceWords : Type 0 where
  pub timeline : Timeline
  pub words : List ℕ

abbrev pub trace_words : Timeline → List ℕ → TraceWords
trace_words timeline words = record { timeline = timeline; words = words }

-- when the segment at the place begins
abbrev pub time_at : TraceWords → ℕ → ℕ
time_at all place = end_of 0 (take place all.timeline.segments)

-- The first place with the bit 0, from `place` on; the one so many places behind it, where there is
-- none before that.
unfoldable pub first_clear : List ℕ → ℕ → ℕ → ℕ
first_clear words zero place = place
first_clear words (suc more) place =
    if bit_in words place == 0 then place else first_clear words more (place + 1)

-- where the run ends whose first segment is at the place
abbrev pub end_place : TraceWords → ℕ → ℕ
end_place all place = first_clear all.words (length all.timeline.segments - place) place

-- that run
abbrev pub run_at : TraceWords → ℕ → Run
run_at all place = record { begin = time_at all place; end = time_at all (end_place all place) }

-- the runs at these places
abbrev pub runs_at : TraceWords → List ℕ → List Run
runs_at all places = map (run_at all) places

-- It is the run between the two.
pub record IsRunOf (all : TraceWords) (from to : Start) : Type 0 where
  pub within : from.place < length all.timeline.segments
  pub next : IsNextPlace all.words false from.place (length all.timeline.segments) to.place
  pub begin : from.time ≡ time_at all from.place
  pub end : to.time ≡ time_at all to.place

-- The runs at the places are such as a trace has, in the order of time.
pub record AreRunPlaces (all : TraceWords) (places : List ℕ) : Type 0 where
  pub size : length all.words ≡ words_for (length all.timeline.segments)
  pub within : All (λ place. place < length all.timeline.segments) places
  pub timed : AreInTime (runs_at all places)
