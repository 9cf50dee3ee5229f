-- One more run behind runs that have ended.
use Rattle.std.proofs.Common.{ℕ, ◌+◌, ◌*◌, ◌<◌, ◌≤◌, List, [], ◌∷◌, ◌++◌, inl, inr, arith, rules}
use Rattle.tre_zone.specs.Zone.{ZoneHolds, span_of}
use Rattle.tre_zone.specs.ZoneList.{SetHolds}
use Rattle.tre_zone.specs.declared.zone_bounds.ZoneBounds.{ZoneBounds}
use Rattle.tre_zone.proofs.Spans.{span-holds}
use Rattle.tre_edges.specs.Ends.{EndBefore}
use Rattle.tre_edges.specs.Runs.{IsRun, AreRuns}

pub AreRuns-empty : (earliest : ℕ) → AreRuns earliest []
unfolding AreRuns
AreRuns-empty earliest = tt

-- A run holds the pair of its own begin and end.
run_holds : (earliest : ℕ) (zone : ZoneBounds) (begin end : ℕ) → IsRun earliest zone begin end
    → ZoneHolds zone begin end 1
run_holds earliest zone begin end run =
    rw run.span ((span-holds begin end run.lasts begin end 1 (omega arith)).1
    (record { starts = omega arith; lasts = run.lasts; ends = omega arith }))

pub AreRuns-push : (earliest begin end : ℕ) → earliest ≤ begin → begin < end
    → (zones : List ZoneBounds) → AreRuns earliest zones → EndBefore begin zones
    → AreRuns earliest (zones ++ span_of begin end ∷ [])
unfolding AreRuns SetHolds
AreRuns-push earliest begin end late lasts [] runs ended = search rules
AreRuns-push earliest begin end late lasts (zone ∷ zones) (from, to, run, rest) ended =
    let before : to < begin * 1 = ended.every from to 1 (omega arith) (omega (arith, run.lasts))
    (inl (run_holds earliest zone from to run)) in (
      from,
      to,
      run,
      AreRuns-push (to + 1) begin end (omega (arith, before)) lasts zones rest
          (record { every = λ a b n some rising held. ended.every a b n some rising (inr held) }),
    )
