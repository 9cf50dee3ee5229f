-- Runs by the place of their first segment.
use Rattle.std.proofs.Common.{◌≡◌, ◌≢◌, ℕ, zero, suc, ◌+◌, ◌<◌, ◌≤◌, ◌==◌, ◌∙◌, List, [], ◌∷◌, ◌++◌, Option, None, Some, IfSome, false, length, get_or, refl, sym, if◌then◌else◌, Result, Ok, Err, is_ok, ap, arith, inl, inr, rules}
use Rattle.std.proofs.lemmas.Bool.{cases_lt}
use Rattle.std.proofs.lemmas.Bool.Decides.{nat_tests}
use Rattle.std.proofs.lemmas.List.{get_or-map, map-append}
use Rattle.std.proofs.lemmas.List.Elements.{All-push}
use Rattle.tre_pairs.specs.Pairs.{Either, Lasting}
use Rattle.tre_pairs.specs.declared.TheConstants.{TIME_MAX}
use Rattle.tre_trace.specs.Planes.{bit_in}
use Rattle.tre_trace.specs.declared.trace.Start.{Start}
use Rattle.tre_zone.specs.ZoneList.{HoldExactly, SetHolds}
use Rattle.tre_edges.specs.Ends.{EndBefore}
use Rattle.tre_edges.specs.NextPlace.{IsNextPlace}
use Rattle.tre_edges.specs.RunParts.{IsPart, LastsIn}
use Rattle.tre_edges.specs.RunPlaces.{AreRunPlaces, IsRunOf, TraceWords, end_place, first_clear, run_at, runs_at, time_at}
use Rattle.tre_edges.specs.RunsInTime.{zones_in}
use Rattle.tre_edges.specs.declared.run_edges.RunEdges.{RunEdges}
use Rattle.tre_edges.specs.declared.run_sets.Run.{Run}
use Rattle.tre_edges.proofs.RunSets.{AreInTime-push, ended-push, held-push}

not_zero : (n : ℕ) → n ≢ 0 → (n == 0) ≡ false
not_zero n some = grind (arith, nat_tests)

-- the search for a place with the bit 0 finds that one
first_clear-is : (words : List ℕ) (more from place : ℕ)
    → IsNextPlace words false from (from + more) place → first_clear words more from ≡ place
unfolding first_clear
first_clear-is words zero from place next = omega (arith, next.late, next.within)
first_clear-is words (suc more) from place next =
    elim (cases_lt from place) [
      | inl before ↦
          let set : (bit_in words from == 0) ≡ false =
          not_zero (bit_in words from) (next.between from (omega arith) before) in
          rw set (first_clear-is words more (from + 1) place (record {
            late = omega (arith, before);
            within = omega (arith, next.within);
            between = λ other late early. next.between other (omega (arith, late)) early;
            there = λ early. next.there (omega (arith, early));
          }))
      | inr here ↦
          let same : from ≡ place = omega (arith, here, next.late) in
          let clear : bit_in words from ≡ 0 = rw same (next.there (omega (arith, same))) in
          rw clear same
    ]

module _ (all : TraceWords) (from to : Start) (run : IsRunOf all from to) where
  abbrev pub between : Run
  between = record { begin = from.time; end = to.time }

  end_place-is : end_place all from.place ≡ to.place
  end_place-is = search (rules, first_clear-is)

  pub run_at-is : run_at all from.place ≡ between
  run_at-is = rw (end_place-is, sym run.begin, sym run.end) refl

-- One more run, behind all others.
module _ (edges : RunEdges) (all : TraceWords) (places : List ℕ) (from to : Start)
    (placed : AreRunPlaces all places)
    (ended : EndBefore from.time (zones_in edges (runs_at all places)))
    (rising : from.time < to.time) (limit : to.time ≤ TIME_MAX)
    (run : IsRunOf all from to) where
  more : runs_at all (places ++ from.place ∷ [])
      ≡ runs_at all places ++ between all from to run ∷ []
  more = search (rules, map-append, run_at, runs_at, run_at-is)

  AreRunPlaces-push : AreRunPlaces all (places ++ from.place ∷ [])
  AreRunPlaces-push = record {
    size = placed.size;
    within = All-push (λ place. place < length all.timeline.segments) places from.place placed.within run.within;
    timed = rw more (AreInTime-push edges (runs_at all places) from.time to.time placed.timed ended
        rising limit);
  }

  -- the push of it may fail
  pub AreRunPlaces-pushed : {E : Type 0} (result : Result (Unit {0}) E) (items : List ℕ)
      → items ≡ (if is_ok result then places ++ from.place ∷ [] else places)
      → AreRunPlaces all items
  AreRunPlaces-pushed (Ok done) items is = rw is AreRunPlaces-push
  AreRunPlaces-pushed (Err fault) items is = rw is placed

  pub place_held : HoldExactly (zones_in edges (runs_at all (places ++ from.place ∷ [])))
      (Either (SetHolds (zones_in edges (runs_at all places)))
      (Lasting (LastsIn None) (IsPart edges from.time to.time)))
  place_held =
      rw more (held-push edges (runs_at all places) from.time to.time placed.timed ended rising
      limit)

  pub place_ended : EndBefore (to.time + 1)
      (zones_in edges (runs_at all (places ++ from.place ∷ [])))
  place_ended = search (rules, more, ended-push, runs_at)

-- the run at one of the places, from the first to the end
pub run_there : (all : TraceWords) (places : List ℕ) (place first end : ℕ) (other : Run)
    → place < length places → AreRunPlaces all places → first ≡ get_or places place first
    → IsNextPlace all.words false first (length all.timeline.segments) end
    → get_or (runs_at all places) place other
    ≡ record { begin = time_at all first; end = time_at all end }
run_there all places place first end other inside placed is next =
    get_or-map (run_at all) places place first other inside
    ∙ ap (run_at all) (sym is)
    ∙ run_at-is all (start first) (start end) (record {
      within = rw (sym is) at (placed.within place first inside);
      next = next;
      begin = refl;
      end = refl;
    }) where
      start : ℕ → Start
      start place = record { place = place; time = time_at all place }

-- Where the runs have to be those of words over a trace, it is one of them.
pub known_run : (known : Option TraceWords) (own : TraceWords) (from to : Start)
    → IfSome known (λ all. all ≡ own) → IsRunOf own from to
    → IfSome known (λ all. IsRunOf all from to)
known_run None own from to is run = tt
known_run (Some all) own from to is run = rw is run
