-- Sets of the parts of runs.
use Rattle.std.proofs.Common.{◌≡◌, ℕ, suc, ◌+◌, ◌*◌, ◌<◌, ◌≤◌, ◌∙◌, List, [], ◌∷◌, ◌++◌, None, length, get_or, if◌then◌else◌, Result, Ok, Err, is_ok, sym, ap, arith, ⊎_elim, inl, inr}
use Rattle.std.proofs.Math.Nat.{mul-le-mul_right}
use Rattle.std.proofs.lemmas.Int.{ints}
use Rattle.std.proofs.lemmas.List.{get_or-map, length-map, map-append}
use Rattle.std.proofs.lemmas.List.Elements.{All-push, All-tail}
use Rattle.std.proofs.lemmas.List.Quantifiers.{all_pairs_push}
use Rattle.tre_pairs.specs.Pairs.{Either, Lasting}
use Rattle.tre_pairs.specs.declared.TheConstants.{TIME_MAX}
use Rattle.tre_zone.specs.Zone.{ZoneHolds}
use Rattle.tre_zone.specs.ZoneList.{AreCanonical, HoldExactly, IsApart, SetHolds}
use Rattle.tre_zone.specs.declared.zone_bounds.ZoneBounds.{ZoneBounds}
use Rattle.tre_zone.proofs.Tightness.{canonical-some}
use Rattle.tre_zone.proofs.ZoneListLemmas.{SetHolds-push}
use Rattle.tre_zoneset.specs.ZoneSet.{IsZoneSet}
use Rattle.tre_zoneset.proofs.Kept.{IsApartFrom-disjoint}
use Rattle.tre_zoneset.proofs.Members.{SetHolds-any}
use Rattle.tre_edges.specs.Ends.{EndBefore}
use Rattle.tre_edges.specs.RunParts.{IsPart, LastsIn}
use Rattle.tre_edges.specs.RunsInTime.{AreInTime, BeginLater, zone_of, zones_in}
use Rattle.tre_edges.specs.declared.run_edges.RunEdges.{RunEdges}
use Rattle.tre_edges.specs.declared.run_sets.Run.{Run}
use Rattle.tre_edges.proofs.PartsOfRuns.{part-canonical, part-exact, part-holds, any_length}

abbrev pub Lasts : Run → Type 0
Lasts run = (run.begin < run.end) × (run.end ≤ TIME_MAX)

abbrev EndsFirst : Run → Run → Type 0
EndsFirst run later = run.end < later.begin

AreInTime-tail : (run : Run) (runs : List Run) → AreInTime (run ∷ runs) → AreInTime runs
AreInTime-tail run runs timed = record {
  bounded = All-tail Lasts run runs timed.bounded;
  order = λ i j d before within.
      timed.order (suc i) (suc j) d (omega (arith, before)) (omega (arith, within));
}

module _ (edges : RunEdges) where
  -- the zone at a place is that of the run there
  pub zone_at : (runs : List Run) (place : ℕ) (none : Run) (other : ZoneBounds)
      → place < length runs
      → get_or (zones_in edges runs) place other ≡ zone_of edges (get_or runs place none)
  zone_at runs place none other within = get_or-map (zone_of edges) runs place none other within

  -- the run at a place, by any other in its stead
  module _ (runs : List Run) (place : ℕ) (run : Run)
      (inside : place < length (zones_in edges runs))
      (there : (other : Run) → run ≡ get_or runs place other) where
    place_of : place < length runs
    place_of = omega (arith, inside, length-map runs (zone_of edges))

    pub lasts_there : AreInTime runs → Lasts run
    lasts_there timed = rw (sym (there run)) at (timed.bounded place run place_of)

    pub zone_there : (other : ZoneBounds)
        → zone_of edges run ≡ get_or (zones_in edges runs) place other
    zone_there other =
        ap (zone_of edges) (there run) ∙ sym (zone_at runs place run other place_of)

  -- what the parts of a run are
  is_part : (run : Run) → Lasts run → (a b n : ℕ) → 0 < n → ZoneHolds (zone_of edges run) a b n
      → IsPart edges run.begin run.end a b n
  is_part run lasts a b n some =
      (part-holds run.begin run.end lasts.0 a b n some edges.rise edges.fall).0

  -- a run holds the pair of its own begin and end
  own : (run : Run) → Lasts run → ZoneHolds (zone_of edges run) run.begin run.end 1
  own run lasts =
      let one = part-holds run.begin run.end lasts.0 run.begin run.end 1 (omega arith) in
      (one edges.rise edges.fall).1
      (record {
        span = record { starts = omega arith; lasts = lasts.0; ends = omega arith };
        begins = λ _. omega arith;
        ends = λ _. omega arith;
      })

  pub later : (runs : List Run) → AreInTime runs → BeginLater (zones_in edges runs)
  later runs timed i j d before within =
      let last : j < length runs = omega (arith, within, length-map runs (zone_of edges)) in
      let none : Run = record { begin = 0; end = 0 } in
      let first = timed.bounded i none (omega (arith, before, last)) in
      let order = timed.order i j none before last in
      rw (zone_at runs i none d (omega (arith, before, last)), zone_at runs j none d last)
      (omega (arith, ints, first.0, order))

  -- the parts of the runs behind one begin later than it ends
  behind : (run : Run) (runs : List Run) → AreInTime (run ∷ runs) → (a b n : ℕ) → 0 < n
      → SetHolds (zones_in edges runs) a b n → run.end * n < a
  behind run runs timed a b n some held =
      let any = (SetHolds-any (zones_in edges runs) a b n).0 held in
      let place = any.0 in
      let inside : place < length runs = omega (arith, any.2, length-map runs (zone_of edges)) in
      let one = get_or runs place run in
      let lasts = timed.bounded (suc place) run (omega (arith, inside)) in
      let order = timed.order 0 (suc place) run (omega arith) (omega (arith, inside)) in
      let same : any.1 ≡ zone_of edges one =
      sym any.3 ∙ zone_at runs place run any.1 inside in
      let part = is_part one lasts a b n some (rw same at any.4) in
      omega (arith, part.span.starts, mul-le-mul_right n order, some)

  canonical : (runs : List Run) → AreInTime runs → AreCanonical (zones_in edges runs)
  unfolding AreCanonical
  canonical [] timed = tt
  canonical (run ∷ runs) timed =
      let lasts = timed.bounded 0 run (omega arith) in (
        part-canonical run.begin run.end lasts.0 lasts.1 edges.rise edges.fall,
        canonical runs (AreInTime-tail run runs timed),
      )

  apart : (runs : List Run) → AreInTime runs → IsApart (zones_in edges runs)
  unfolding IsApart
  apart [] timed = tt
  apart (run ∷ runs) timed =
      let lasts = timed.bounded 0 run (omega arith) in
      let rest = AreInTime-tail run runs timed in (
        IsApartFrom-disjoint (zone_of edges run) (zones_in edges runs)
            (λ a b n some le held here.
            let part = is_part run lasts a b n some here in
            omega (arith, behind run runs timed a b n some held, part.span.lasts, part.span.ends))
            (canonical-some (zone_of edges run)
            (part-canonical run.begin run.end lasts.0 lasts.1 edges.rise edges.fall))
            (canonical runs rest),
        apart runs rest,
      )

  pub are_set : (runs : List Run) → AreInTime runs → IsZoneSet (zones_in edges runs)
  are_set runs timed = record { apart = apart runs timed; canonical = canonical runs timed }

  -- One more run, behind all others.
  module _ (runs : List Run) (begin end : ℕ) (timed : AreInTime runs)
      (ended : EndBefore begin (zones_in edges runs)) (rising : begin < end)
      (limit : end ≤ TIME_MAX) where
    abbrev last : Run
    last = record { begin = begin; end = end }

    more : zones_in edges (runs ++ last ∷ []) ≡ zones_in edges runs ++ zone_of edges last ∷ []
    more = map-append (zone_of edges) runs (last ∷ [])

    pub AreInTime-push : AreInTime (runs ++ last ∷ [])
    AreInTime-push = record {
      bounded = All-push Lasts runs last timed.bounded (rising, limit);
      order = all_pairs_push EndsFirst runs last timed.order (λ place none within.
          let run = get_or runs place none in
          let lasts = timed.bounded place none within in
          let at : place < length (zones_in edges runs) =
          omega (arith, within, length-map runs (zone_of edges)) in
          let held = (SetHolds-any (zones_in edges runs) run.begin run.end 1).1 (
            place,
            zone_of edges run,
            at,
            zone_at runs place none (zone_of edges run) within,
            own run lasts,
          ) in
          omega (
            arith,
            ended.every run.begin run.end 1 (omega arith)
                (omega (arith, lasts.0)) held,
          ));
    }

    -- the push of it may fail
    pub AreInTime-pushed : {E : Type 0} (result : Result (Unit {0}) E) (items : List Run)
        → items ≡ (if is_ok result then runs ++ last ∷ [] else runs) → AreInTime items
    AreInTime-pushed (Ok done) items is = rw is AreInTime-push
    AreInTime-pushed (Err fault) items is = rw is timed

    pub held-push : HoldExactly (zones_in edges (runs ++ last ∷ []))
        (Either (SetHolds (zones_in edges runs)) (Lasting (LastsIn None) (IsPart edges begin end)))
    held-push = rw more (record {
      exact = λ a b n some le.
          let push = SetHolds-push (zones_in edges runs) (zone_of edges last) a b n in
          let part = (any_length (zone_of edges last) (IsPart edges begin end)
          (part-exact edges.rise edges.fall begin end rising)).exact a b n some le in (
            (λ h. ⊎_elim (λ x. inl x) (λ x. inr (part.0 x)) (push.0 h)),
            (λ h. push.1 (⊎_elim (λ x. inl x) (λ x. inr (part.1 x)) h)),
          );
    })

    pub ended-push : EndBefore (end + 1) (zones_in edges (runs ++ last ∷ []))
    ended-push = rw more (record {
      every = λ a b n some le h.
          ⊎_elim
          (λ old. omega (arith, ended.every a b n some le old, scaled n))
          (λ new.
          omega (arith, (is_part last (rising, limit) a b n some new).span.ends, some))
          ((SetHolds-push (zones_in edges runs) (zone_of edges last) a b n).0 h);
    }) where
      scaled : (n : ℕ) → begin * n ≤ end * n
      scaled n = mul-le-mul_right n (omega (arith, rising))
