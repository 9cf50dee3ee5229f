-- What a sequence of a literal and its edges matches: the stretches of the literal that begin and
-- end at them.
use Rattle.std.proofs.Common.{◌≡◌, ◌∙◌, ℕ, ◌*◌, ◌↔◌, Bool, true, false, Option, Some, None, IfSome, List, refl, sym, subst}
use Rattle.tre_pairs.specs.Pairs.{Pairs, Composed, Lasting}
use Rattle.tre_pairs.proofs.Chains.{Composed-at}
use Rattle.tre_pairs.proofs.Laws.{Scales}
use Rattle.tre_pairs.proofs.Scaling.{Scales-Composed}
use Rattle.tre_state.specs.StateTree as states
use Rattle.tre_state.specs.StateTree.{StateTree}
use Rattle.tre_syntax.specs.Meaning.{MatchesRest}
use Rattle.tre_syntax.specs.PatternTree.{PatternTree, NumbersBelow, literal, rise, fall}
use Rattle.tre_syntax.specs.Rest.{Rest, InstantMatches, AtomMatches}
use Rattle.tre_syntax.proofs.Atoms.{Scales-Atom}
use Rattle.tre_zone.specs.Interval.{IntervalEnds}
use Rattle.tre_zone.specs.ZoneList.{HoldExactly}
use Rattle.tre_zone.specs.declared.zone_bounds.ZoneBounds.{ZoneBounds}
use Rattle.tre_edges.specs.RunParts.{IsRunPart, LastsIn}
use Rattle.tre_edges.specs.declared.run_edges.RunEdges.{RunEdges}
use Rattle.tre_offline.specs.Edged.{edged_tree, timed_tree}

-- An instant before a relation, or behind one, is one of its two times.
module _ (M : ℕ → Type 0) (R : Pairs) (scales : Scales (InstantMatches M)) (r : Scales R) where
  instant : (a b n : ℕ) → InstantMatches M a b n → a ≡ b
  instant a b n h = h.begin ∙ sym h.end

  instant_first : (a b n : ℕ)
      → Composed (InstantMatches M) R a b n ↔ (InstantMatches M a a n × R a b n)
  instant_first a b n = (
    λ h.
        let here : h.midpoint ≡ h.factor * a =
        sym (instant (h.factor * a) h.midpoint (h.factor * n) h.left) in (
          scales.down h.factor a a n h.positive
              (subst (λ t. InstantMatches M (h.factor * a) t (h.factor * n)) here h.left),
          r.down h.factor a b n h.positive
              (subst (λ t. R t (h.factor * b) (h.factor * n)) here h.right),
        ),
    λ both. Composed-at (InstantMatches M) R a a b n both.0 both.1,
  )

  instant_last : (a b n : ℕ)
      → Composed R (InstantMatches M) a b n ↔ (R a b n × InstantMatches M b b n)
  instant_last a b n = (
    λ h.
        let here : h.midpoint ≡ h.factor * b =
        instant h.midpoint (h.factor * b) (h.factor * n) h.right in (
          r.down h.factor a b n h.positive
              (subst (λ t. R (h.factor * a) t (h.factor * n)) here h.left),
          scales.down h.factor b b n h.positive
              (subst (λ t. InstantMatches M t (h.factor * b) (h.factor * n)) here h.right),
        ),
    λ both. Composed-at R (InstantMatches M) a b b n both.0 both.1,
  )

no : {A : Type 0} → false ≡ true → A
no wrong = absurd cc

abbrev edges_of : Bool → Bool → RunEdges
edges_of rises falls = record { rise = rises; fall = falls }

module _ (state : StateTree) (rest : Rest) where
  part_matches : (rises falls : Bool) (a b n : ℕ)
      → IsRunPart (edges_of rises falls) state rest a b n
      ↔ MatchesRest (edged_tree (edges_of rises falls) state) rest a b n
  part_matches false false a b n = (
    λ h. h.held,
    λ h. record { held = h; begins = λ wrong. no wrong; ends = λ wrong. no wrong },
  )
  part_matches true false a b n =
      let both = instant_first _ (AtomMatches rest (literal state))
      (Scales-Atom rest (rise state)) (Scales-Atom rest (literal state)) a b n in (
        λ h. both.1 (h.begins refl, h.held),
        λ h.
            let parts = both.0 h in
            record { held = parts.1; begins = λ _. parts.0; ends = λ wrong. no wrong },
      )
  part_matches false true a b n =
      let both = instant_last _ (AtomMatches rest (literal state))
      (Scales-Atom rest (fall state)) (Scales-Atom rest (literal state)) a b n in (
        λ h. both.1 (h.held, h.ends refl),
        λ h.
            let parts = both.0 h in
            record { held = parts.0; begins = λ wrong. no wrong; ends = λ _. parts.1 },
      )
  part_matches true true a b n =
      let front = instant_first _ (AtomMatches rest (literal state))
      (Scales-Atom rest (rise state)) (Scales-Atom rest (literal state)) a b n in
      let whole = instant_last _
      (Composed (AtomMatches rest (rise state)) (AtomMatches rest (literal state)))
      (Scales-Atom rest (fall state))
      (Scales-Composed (AtomMatches rest (rise state)) (AtomMatches rest (literal state))
      (Scales-Atom rest (rise state)) (Scales-Atom rest (literal state))) a b n in (
        λ h. whole.1 (front.1 (h.begins refl, h.held), h.ends refl),
        λ h.
            let parts = whole.0 h in
            let first = front.0 parts.0 in
            record { held = first.1; begins = λ _. first.0; ends = λ _. parts.1 },
      )

  -- Zones of these stretches are those of the sequence.
  edged_exact : (edges : RunEdges) (D : ℕ → ℕ → Type 0) (zones : List ZoneBounds)
      → HoldExactly zones (Lasting D (IsRunPart edges state rest))
      → HoldExactly zones (Lasting D (MatchesRest (edged_tree edges state) rest))
  edged_exact edges D zones held = record {
    exact = λ a b n some le.
        let old = held.exact a b n some le in
        let same = part_matches edges.rise edges.fall a b n in (
          (λ h.
              let x = old.0 h in
              record { related = same.0 x.related; admitted = x.admitted }),
          (λ h. old.1 (record { related = same.1 h.related; admitted = h.admitted })),
        );
  }

-- The same of all of them, however long they last.
pub part_exact : (state : StateTree) (rest : Rest) (edges : RunEdges) (tree : PatternTree)
    (zones : List ZoneBounds) → tree ≡ edged_tree edges state
    → HoldExactly zones (IsRunPart edges state rest) → HoldExactly zones (MatchesRest tree rest)
part_exact state rest edges tree zones is held =
    subst (λ (t : PatternTree). HoldExactly zones (MatchesRest t rest)) (sym is) (record {
      exact = λ a b n some le.
          let old = held.exact a b n some le in
          let same = part_matches state rest edges.rise edges.fall a b n in
          ((λ h. same.0 (old.0 h)), (λ h. old.1 (same.1 h)));
    })

-- So are those whose duration is in an interval, if there is one.
timed_exact : (state : StateTree) (rest : Rest) (edges : RunEdges) (interval : Option IntervalEnds)
    (zones : List ZoneBounds)
    → HoldExactly zones (Lasting (LastsIn interval) (IsRunPart edges state rest))
    → HoldExactly zones (MatchesRest (timed_tree interval (edged_tree edges state)) rest)
timed_exact state rest edges None zones held = record {
  exact = λ a b n some le.
      let one = (edged_exact state rest edges (LastsIn None) zones held).exact a b n some le in (
        (λ h. (one.0 h).related),
        (λ h. one.1 (record { related = h; admitted = tt })),
      );
}
timed_exact state rest edges (Some ends) zones held =
    edged_exact state rest edges (LastsIn (Some ends)) zones held

-- Where they were found, they are.
pub found_exact : (state : StateTree) (rest : Rest) (edges : RunEdges)
    (interval : Option IntervalEnds) (tree : PatternTree) (found : Option (List ZoneBounds))
    → tree ≡ timed_tree interval (edged_tree edges state)
    → IfSome found (λ zones.
    HoldExactly zones (Lasting (LastsIn interval) (IsRunPart edges state rest)))
    → IfSome found (λ zones. HoldExactly zones (MatchesRest tree rest))
found_exact state rest edges interval tree None is held = tt
found_exact state rest edges interval tree (Some zones) is held =
    subst (λ (t : PatternTree). HoldExactly zones (MatchesRest t rest)) (sym is)
    (timed_exact state rest edges interval zones held)

-- The state names what the expression does.
edged_names : (bound : ℕ) (state : StateTree) (rises falls : Bool)
    → NumbersBelow bound (edged_tree (edges_of rises falls) state)
    → states.NumbersBelow bound state
edged_names bound state false false below = below
edged_names bound state true false below = below.1
edged_names bound state false true below = below.0
edged_names bound state true true below = below.1

pub timed_names : (bound : ℕ) (state : StateTree) (edges : RunEdges)
    (interval : Option IntervalEnds) (tree : PatternTree)
    → tree ≡ timed_tree interval (edged_tree edges state) → NumbersBelow bound tree
    → states.NumbersBelow bound state
timed_names bound state edges None tree is below =
    edged_names bound state edges.rise edges.fall (rw is at below)
timed_names bound state edges (Some ends) tree is below =
    edged_names bound state edges.rise edges.fall (rw is at below)
