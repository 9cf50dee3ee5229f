-- What two searches for a bit say of the next run and its edges.
use Rattle.std.proofs.Common.{◌≡◌, ℕ, ◌+◌, ◌-◌, ◌*◌, ◌<◌, ◌≤◌, ◌↔◌, ◌⊎◌, inl, inr, ⊎_elim, Bool, true, false, IsTrue, List, length, rules}
use Rattle.tre_pairs.specs.Pairs.{Pairs, Lasting}
use Rattle.tre_state.specs.StateTree.{StateTree, HoldsOn}
use Rattle.tre_syntax.specs.PatternTree.{rise, fall}
use Rattle.tre_syntax.specs.Rest.{whole, AtomMatches}
use Rattle.tre_trace.specs.declared.segment.Segment.{Segment}
use Rattle.tre_trace.specs.Planes.{valuation_at}
use Rattle.tre_trace.specs.Trace.{Timeline, IsTrace}
use Rattle.tre_zone.specs.Zone.{IsInSpan}
use Rattle.tre_edges.specs.NextPlace.{IsNextPlace}
use Rattle.tre_edges.specs.RunParts.{HasEdges, IsFoundPart, IsRunPart}
use Rattle.tre_edges.specs.StateWords.{AreTruthOf}
use Rattle.tre_edges.specs.declared.run_edges.RunEdges.{RunEdges}
use Rattle.tre_edges.proofs.EdgesOfRuns.{rise_of_run, fall_of_run}
use Rattle.tre_edges.proofs.NextTurns.{run_found}
use Rattle.tre_edges.proofs.Places.{time_of}
use Rattle.tre_edges.proofs.RunsOfTraces.{FromPlace}
use Rattle.tre_edges.proofs.StateWords.{has_truth}

-- What has these edges of the stretches at the place and later.
pub record PartFrom (edges : RunEdges) (state : StateTree) (trace : Timeline)
    (at a b n : ℕ) : Type 0 where
  pub held : FromPlace (HoldsOn state) trace.segments (time_of trace.segments at) at a b n
  pub begins : IsTrue edges.rise → AtomMatches (whole trace) (rise state) a a n
  pub ends : IsTrue edges.fall → AtomMatches (whole trace) (fall state) b b n

-- All of them are at the first place or later.
pub part_whole : (edges : RunEdges) (state : StateTree) (trace : Timeline) (a b n : ℕ)
    → IsRunPart edges state (whole trace) a b n ↔ PartFrom edges state trace 0 a b n
part_whole edges state trace a b n = search rules

-- What lasts so long of either.
pub either_lasting : (D : ℕ → ℕ → Type 0) (R S T : Pairs) (a b n : ℕ)
    → R a b n ↔ (S a b n ⊎ T a b n)
    → Lasting D R a b n ↔ (Lasting D S a b n ⊎ Lasting D T a b n)
either_lasting D R S T a b n both = search rules

-- The state does not hold just before the place.
abbrev pub IsCalmAt : StateTree → List Segment → ℕ → Type 0
IsCalmAt state segments at = 0 < at → ¬ HoldsOn state (valuation_at segments (at - 1))

module _ (edges : RunEdges) (state : StateTree) (trace : Timeline) (words : List ℕ)
    (is_trace : IsTrace trace.segments) (truth : AreTruthOf state trace.segments words)
    (at begin end : ℕ) (first : IsNextPlace words true at (length trace.segments) begin)
    (last : IsNextPlace words false begin (length trace.segments) end)
    (calm : IsCalmAt state trace.segments at) where
  abbrev P : ℕ → Type 0
  P = HoldsOn state

  calm_before : 0 < begin → ¬ P (valuation_at trace.segments (begin - 1))
  calm_before positive = search rules

  holds_inside : (k : ℕ) → begin ≤ k → k < end → P (valuation_at trace.segments k)
  holds_inside k late early = search rules

  fails_behind : end < length trace.segments → ¬ P (valuation_at trace.segments end)
  fails_behind early = has_truth state trace.segments words truth end early false (last.there early)

  module _ (a b n : ℕ) (some : 0 < n)
      (span : IsInSpan (time_of trace.segments begin) (time_of trace.segments end) a b n) where
    pub rise_here : AtomMatches (whole trace) (rise state) a a n
        ↔ ((0 < begin) × (a ≡ time_of trace.segments begin * n))
    rise_here = rise_of_run P trace.segments is_trace begin end last.late last.within holds_inside
        a b n some span calm_before

    pub fall_here : AtomMatches (whole trace) (fall state) b b n
        ↔ ((end < length trace.segments) × (b ≡ time_of trace.segments end * n))
    fall_here = fall_of_run P trace.segments is_trace begin end last.late last.within holds_inside
        a b n some span fails_behind

  pub part_found : (found : Bool) → IsTrue found ↔ HasEdges edges begin end (length trace.segments)
      → (a b n : ℕ) → 0 < n
      → PartFrom edges state trace at a b n
      ↔ (IsFoundPart found edges (time_of trace.segments begin) (time_of trace.segments end) a b n
      ⊎ PartFrom edges state trace (end + 1) a b n)
  part_found found is a b n some =
      let run = run_found state trace.segments words truth at begin end first last a b n in (
        λ h. ⊎_elim
            (λ span. inl (record {
              is = is.1 (record {
                rises = λ r. ((rise_here a b n some span).0 (h.begins r)).0;
                falls = λ f. ((fall_here a b n some span).0 (h.ends f)).0;
              });
              part = record {
                span = span;
                begins = λ r. ((rise_here a b n some span).0 (h.begins r)).1;
                ends = λ f. ((fall_here a b n some span).0 (h.ends f)).1;
              };
            }))
            (λ more. inr (record { held = more; begins = h.begins; ends = h.ends }))
            (run.0 h.held),
        λ either. ⊎_elim
            (λ x.
            let has = is.0 x.is in
            record {
              held = run.1 (inl x.part.span);
              begins = λ r. (rise_here a b n some x.part.span).1 (has.rises r, x.part.begins r);
              ends = λ f. (fall_here a b n some x.part.span).1 (has.falls f, x.part.ends f);
            })
            (λ more. record {
              held = run.1 (inr more.held);
              begins = more.begins;
              ends = more.ends;
            })
            either,
      )

  -- Just behind the run the state does not hold.
  pub calm_then : end < length trace.segments → IsCalmAt state trace.segments (end + 1)
  calm_then early positive = search rules
