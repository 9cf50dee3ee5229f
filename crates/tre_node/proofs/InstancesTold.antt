-- An instance was looked at where its body was.
use Rattle.std.proofs.Common.{◌≡◌, ℕ, ◌*◌, ◌<◌, ◌≤◌, ◌⊎◌, min, List, [], ◌∷◌, Option, None, Some, MatchOption, MatchBool, Bool, true, false, ⊎_elim, ap, refl, sym, subst, arith}
use Rattle.std.proofs.Math.Nat.{mul-le-mul_right}
use Rattle.std.proofs.lemmas.Bool.{cases_lt}
use Rattle.tre_pairs.specs.Pairs.{Pairs, Both, Lasting}
use Rattle.tre_pairs.proofs.Laws.{IsOrdered}
use Rattle.tre_pairs.specs.declared.TheConstants.{TIME_MAX}
use Rattle.tre_zone.specs.Held.{Held}
use Rattle.tre_zone.specs.Interval.{IntervalEnds, LastsWithin}
use Rattle.tre_zone.specs.Zone.{instants_of}
use Rattle.tre_zone.specs.declared.zone_bounds.ZoneBounds.{ZoneBounds}
use Rattle.tre_zone.proofs.Instants.{instants-holds}
use Rattle.tre_trace.specs.Trace.{Timeline}
use Rattle.tre_syntax.specs.PatternTree.{intersection, restriction}
use Rattle.tre_edges.specs.Piece.{end_of_piece}
use Rattle.tre_edges.specs.declared.piece.Piece.{Piece}
use Rattle.tre_mark.specs.MarkTree.{intersection_one, restriction_one}
use Rattle.tre_mark.specs.Marked.{AnyDuration}
use Rattle.tre_forms.proofs.Forms.{begin_end}
use Rattle.tre_forms.proofs.Whole.{AreAllMoments}
use Rattle.tre_node.specs.declared.node.Around.{Around}
use Rattle.tre_node.specs.declared.node.Node.{Node}
use Rattle.tre_node.specs.IsNode.{AreOuter, IsMade, least_of}
use Rattle.tre_node.specs.Looked.{AreLed, HasLooked, IsReach, StillLead, Told}
use Rattle.tre_node.specs.NodeTree.{around_of, led_by, mark_of_node, tree_of_node}
use Rattle.tre_node.specs.Outer.{KeepsInReach}
use Rattle.tre_node.specs.Telling.{LooksAtBody, LooksAtBoth, PutsBehind}
use Rattle.tre_node.proofs.FormsTold.{intersection_told, restriction_told, whole_intersection_told, whole_restriction_told}
use Rattle.tre_node.proofs.FoundSets.{holds_alone}
use Rattle.tre_node.proofs.Looks.{part_idle, part_told, tells_with}

-- All moments of every trace.
pub moments_until : (time : ℕ) → time ≤ TIME_MAX
    → AreAllMoments time (instants_of 0 TIME_MAX ∷ [])
moments_until time limit =
    let all = instants_of 0 TIME_MAX in
    record {
      same = λ a b n some h.
          ((instants-holds 0 TIME_MAX a b n some).0 ((holds_alone (all ∷ []) all refl a b n).1 h.held)).same;
      there = λ a n some le.
          let up = mul-le-mul_right n limit in
          record {
            rising = omega arith;
            held = (holds_alone (all ∷ []) all refl a a n).0
                ((instants-holds 0 TIME_MAX a a n some).1
                (record { starts = omega arith; same = refl; ends = omega (arith, le, up) }));
          };
    }

pub begin_in_time : (piece : Piece) → piece.begin ≤ TIME_MAX
begin_in_time piece = let end = piece.in_time in omega (arith, end)

-- ---- how far an instance reaches

below_high : (high : Option ℕ) (weak : Bool) (d n : ℕ)
    → MatchOption high (Unit {0}) (λ h. MatchBool weak (d ≤ h * n) (d < h * n))
    → MatchOption high (Unit {0}) (λ h. d ≤ h * n)
below_high None weak d n h = tt
below_high (Some high) true d n h = h
below_high (Some high) false d n h = omega (arith, h)

within_least : (one other : Option ℕ) (d n : ℕ) → MatchOption one (Unit {0}) (λ h. d ≤ h * n)
    → MatchOption other (Unit {0}) (λ h. d ≤ h * n)
    → MatchOption (least_of one other) (Unit {0}) (λ h. d ≤ h * n)
within_least None other d n x y = y
within_least (Some high) None d n x y = x
within_least (Some high) (Some more) d n x y = ⊎_elim
    (λ lt. let least : high ≡ min high more = omega (arith, lt) in subst (λ h. d ≤ h * n) least x)
    (λ ge. let least : more ≡ min high more = omega (arith, ge) in subst (λ h. d ≤ h * n) least y)
    (cases_lt high more)

pub reach_counts : (longest : Option ℕ) (ends : IntervalEnds)
    → IsReach longest (LastsWithin ends) (least_of longest ends.high)
reach_counts longest ends = record {
  counts = λ d n l w. record {
    within = within_least longest ends.high d n l.within (below_high ends.high ends.high_weak d n w.1);
  };
}

module _ (piece : Piece) (reach : Option ℕ) (outer outer' : List ZoneBounds)
    (old : AreOuter piece.begin reach outer)
    (kept : KeepsInReach reach (end_of_piece piece) outer outer') where
  before : (a m n : ℕ) → 0 < n → Held outer' a m n → m < piece.begin * n
  before a m n some h = old.before a m n some (kept.are.sound a m n some h)

  pub outer_kept : AreOuter (end_of_piece piece) reach outer'
  outer_kept = record {
    before = λ a m n some h.
        let early = before a m n some h in
        let later = begin_end piece n in
        omega (arith, early, later);
    recent = kept.reached;
  }

  pub led_on : (whole : Bool) (M : Timeline → Pairs) → ((next : Timeline) → IsOrdered (M next))
      → AreLed whole reach piece M (led_by whole outer) outer'
  led_on whole M ordered = record {
    all = λ is. ap (λ (w : Bool). led_by w outer) is;
    kept = λ not. subst (λ (w : Bool). StillLead reach piece M (led_by w outer) outer') (sym not)
        (record {
          before = before;
          less = kept.are.sound;
          more = λ next a m b n long some o goes late short.
              kept.are.kept a m b n some o ((ordered next).le m b n goes) late short;
        });
  }

-- ---- what an instance tells

pub puts_made : (outer : List ZoneBounds) (inside ended : Pairs) (dull idle : Type 0)
    (around around' : Around) (whole : Bool)
    → PutsBehind whole outer inside ended dull idle around around'
    → IsMade around.longest around.whole around' × (around'.busy ≡ false → idle)
puts_made outer inside ended dull idle around around' true puts = (puts.made, puts.busy)
puts_made outer inside ended dull idle around around' false puts = (puts.made, puts.busy)

module _ (piece : Piece) (reach : Option ℕ) (interval : IntervalEnds) (around around' : Around)
    (outer : List ZoneBounds) (body body' : Node) (f : HasLooked piece body body')
    (made : IsMade reach true (around_of body))
    (counted : reach ≡ least_of around.longest interval.high) where
  abbrev A : ℕ → ℕ → Type 0
  A = LastsWithin interval

  abbrev inner : Around
  inner = around_of body'

  counts : IsReach around.longest A reach
  counts = subst (λ (r : Option ℕ). IsReach around.longest A r) (sym counted)
      (reach_counts around.longest interval)

  told_by : (whole : Bool)
      → PutsBehind whole outer (Lasting A (Held inner.inside.items))
      (Lasting A (Held inner.ended.items)) (inner.lives ≡ false) (inner.busy ≡ false) around around'
      → Told around.longest piece (restriction_one 0 (led_by whole outer)
      (mark_of_node piece.begin body)) (restriction (tree_of_node body) interval)
      around'.inside.items around'.ended.items around'.lives
  told_by true puts = whole_restriction_told around.longest reach piece 0 (led_by true outer)
      (mark_of_node piece.begin body) (tree_of_node body) interval counts inner.inside.items
      inner.ended.items inner.lives (part_told f made.counts) around'.inside.items
      around'.ended.items around'.lives (moments_until piece.begin (begin_in_time piece)) puts.found puts.told puts.lives
  told_by false puts = restriction_told around.longest reach piece 0 (led_by false outer)
      (mark_of_node piece.begin body) (tree_of_node body) interval counts inner.inside.items
      inner.ended.items inner.lives (part_told f made.counts) around'.inside.items
      around'.ended.items around'.lives puts.found puts.told puts.lives

  pub restriction_looks :
      PutsBehind around.whole outer (Lasting A (Held inner.inside.items))
      (Lasting A (Held inner.ended.items)) (inner.lives ≡ false) (inner.busy ≡ false) around around'
      → LooksAtBody piece
      (restriction_one 0 (led_by around.whole outer) (mark_of_node piece.begin body))
      (restriction (tree_of_node body) interval) around around' body body'
  restriction_looks puts =
      let m = puts_made outer (Lasting A (Held inner.inside.items))
      (Lasting A (Held inner.ended.items)) (inner.lives ≡ false) (inner.busy ≡ false) around around'
      around.whole puts in
      record {
        made = m.0;
        tells = tells_with m.0 (told_by around.whole puts);
        idle = λ off. part_idle f (m.1 off);
        inner = f;
      }

module _ (piece : Piece) (reach : Option ℕ) (around around' : Around) (outer : List ZoneBounds)
    (left left' right right' : Node) (f : HasLooked piece left left')
    (g : HasLooked piece right right') (made1 : IsMade reach true (around_of left))
    (made2 : IsMade reach true (around_of right)) (counted : reach ≡ around.longest) where
  abbrev one : Around
  one = around_of left'

  abbrev other : Around
  other = around_of right'

  pub both_count : IsReach around.longest AnyDuration reach
  both_count = subst (λ (r : Option ℕ). IsReach around.longest AnyDuration r) (sym counted)
      (record { counts = λ d n l w. l })

  both_told : (whole : Bool)
      → PutsBehind whole outer (Both (Held one.inside.items) (Held other.inside.items))
      (Both (Held one.ended.items) (Held other.ended.items))
      ((one.lives ≡ false) ⊎ (other.lives ≡ false))
      ((one.busy ≡ false) × (other.busy ≡ false)) around around'
      → Told around.longest piece (intersection_one 0 (led_by whole outer)
      (mark_of_node piece.begin left) (mark_of_node piece.begin right))
      (intersection (tree_of_node left) (tree_of_node right)) around'.inside.items
      around'.ended.items around'.lives
  both_told true puts = whole_intersection_told around.longest reach piece 0 (led_by true outer)
      (mark_of_node piece.begin left) (mark_of_node piece.begin right) (tree_of_node left)
      (tree_of_node right) both_count one.inside.items one.ended.items other.inside.items
      other.ended.items one.lives other.lives (part_told f made1.counts) (part_told g made2.counts)
      around'.inside.items around'.ended.items around'.lives (moments_until piece.begin (begin_in_time piece)) puts.found
      puts.told puts.lives
  both_told false puts = intersection_told around.longest reach piece 0 (led_by false outer)
      (mark_of_node piece.begin left) (mark_of_node piece.begin right) (tree_of_node left)
      (tree_of_node right) both_count one.inside.items one.ended.items other.inside.items
      other.ended.items one.lives other.lives (part_told f made1.counts) (part_told g made2.counts)
      around'.inside.items around'.ended.items around'.lives puts.found puts.told puts.lives

  pub intersection_looks :
      PutsBehind around.whole outer (Both (Held one.inside.items) (Held other.inside.items))
      (Both (Held one.ended.items) (Held other.ended.items))
      ((one.lives ≡ false) ⊎ (other.lives ≡ false))
      ((one.busy ≡ false) × (other.busy ≡ false)) around around'
      → LooksAtBoth piece
      (intersection_one 0 (led_by around.whole outer) (mark_of_node piece.begin left)
      (mark_of_node piece.begin right)) (intersection (tree_of_node left) (tree_of_node right))
      around around' left left' right right'
  intersection_looks puts =
      let m = puts_made outer (Both (Held one.inside.items) (Held other.inside.items))
      (Both (Held one.ended.items) (Held other.ended.items))
      ((one.lives ≡ false) ⊎ (other.lives ≡ false)) ((one.busy ≡ false) × (other.busy ≡ false))
      around around' around.whole puts in
      record {
        made = m.0;
        tells = tells_with m.0 (both_told around.whole puts);
        idle = λ off. (part_idle f (m.1 off).0, part_idle g (m.1 off).1);
        one = f;
        other = g;
      }
