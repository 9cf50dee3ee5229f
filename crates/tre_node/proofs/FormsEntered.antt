-- Atoms, alternations and repetitions that are entered.
use Rattle.std.proofs.Common.{◌≡◌, ◌∙◌, ℕ, ◌+◌, ◌*◌, ◌<◌, ◌≤◌, ◌↔◌, inl, inr, ⊎_elim, ap, refl, sym, subst, arith, Bool, true, false, Option, List, [], ◌∷◌, pos, ◌-ℤ◌}
use Rattle.std.proofs.Math.Nat.{mul-le-mul_right}
use Rattle.std.proofs.lemmas.Bool.{false≢true}
use Rattle.tre_pairs.specs.Pairs.{Pairs, Composed, Either}
use Rattle.tre_pairs.specs.Before.{Before}
use Rattle.tre_pairs.specs.Same.{Same}
use Rattle.tre_pairs.proofs.Laws.{Scales, IsOrdered, IsInstant}
use Rattle.tre_pairs.proofs.SameLaws.{same_refl, same_agree, same_back, same_trans, same_crossing, same_before, same_either, same_composed}
use Rattle.tre_pairs.proofs.Ticks.{le_up, le_down, ge_down}
use Rattle.tre_zone.specs.Held.{Held, IsSetOf}
use Rattle.tre_zone.specs.Longest.{LastsUpTo}
use Rattle.tre_zone.specs.Zone.{ZoneHolds}
use Rattle.tre_zone.specs.ZoneList.{SetHolds}
use Rattle.tre_zone.specs.declared.zone_bounds.ZoneBounds.{ZoneBounds}
use Rattle.tre_zone.proofs.Bounds.{Meets-at_most, Meets-at_least}
use Rattle.tre_zone.proofs.HeldSets.{Scales-Held, IsOrdered-Held}
use Rattle.tre_zone.proofs.Lasting.{LastsUpTo-downward, LastsUpTo-scales}
use Rattle.tre_zone.proofs.Paths.{Meets-sum}
use Rattle.tre_state.specs.StateTree.{StateTree}
use Rattle.tre_state.specs.State.{tree_of}
use Rattle.tre_state.specs.declared.names.TheConstants.{NAMES_MAX}
use Rattle.tre_syntax.specs.PatternTree.{NumbersBelow}
use Rattle.tre_state.specs.declared.state.State.{State}
use Rattle.tre_trace.specs.Trace.{Timeline, quiet}
use Rattle.tre_syntax.specs.Meaning.{MatchesRest}
use Rattle.tre_syntax.specs.PatternTree.{Atom, PatternTree, empty, literal, rise, fall, event, atom, alternation, repetition}
use Rattle.tre_syntax.specs.Rest.{AtomMatches}
use Rattle.tre_trace.specs.Trace.{end_of}
use Rattle.tre_syntax.proofs.Atoms.{end_of-le, IsInstant-Empty}
use Rattle.tre_syntax.proofs.CutMeaning.{IsOrdered-rest}
use Rattle.tre_edges.specs.Piece.{end_of_piece}
use Rattle.tre_edges.specs.declared.piece.Piece.{Piece}
use Rattle.tre_mark.specs.MarkTree.{MarkTree, atom_mark, alternation_mark, repetition_mark}
use Rattle.tre_mark.specs.Marked.{Marked}
use Rattle.tre_mark.proofs.Growth.{mark_ends}
use Rattle.tre_mark.proofs.Meanings.{around_present}
use Rattle.tre_forms.specs.Begun.{BeginsBefore, Begins, EndsFrom}
use Rattle.tre_forms.specs.Dull.{IsDullOver, None}
use Rattle.tre_forms.specs.Enters.{over, alone, behind, GoesAlone, Enters}
use Rattle.tre_forms.proofs.Forms.{alternation_enters, alone_ordered, goes_from, same_from, IsOrdered-Before}
use Rattle.tre_forms.proofs.Idle.{left_out_enters, dull_instant, atom_alone}
use Rattle.tre_forms.proofs.Literals.{literal_enters}
use Rattle.tre_forms.proofs.Repeated.{repetition_enters}
use Rattle.tre_node.specs.declared.node.Around.{Around}
use Rattle.tre_node.specs.declared.node.Stretch.{Stretch}
use Rattle.tre_node.specs.declared.node.Node.{Node, Eps, Lit, Rise, Fall, Event, Alt', Star'}
use Rattle.tre_node.specs.IsNode.{IsMade}
use Rattle.tre_node.specs.NodeTree.{around_of, tree_of_node, mark_of_node, begun_at, stretch_zone}
use Rattle.tre_node.specs.HasEntered.{MayEnter, HasEntered, HaveBothEntered, EntersAgain, EntersBegun}
use Rattle.tre_node.specs.Looked.{Looked, HoldsOn}
use Rattle.tre_node.specs.Stretches.{IsIn, IsBegin, AddsMoments}
use Rattle.tre_node.proofs.Parts.{enters_none, looked_tells, none_from, sound_now, made_part, made_whole}

made_itself : (around : Around) → IsMade around.longest around.whole around
made_itself around = record { counts = refl; enters = refl }

-- What enters a node enters its parts, which were made as it was.
pub part_may : (time : ℕ) (around part : Around) (whole : Bool) (E : Pairs)
    → IsMade around.longest whole part → (whole ≡ true → around.whole ≡ true)
    → MayEnter time around E → MayEnter time part E
part_may time around part whole E made up may = record {
  from = subst (λ z. EndsFrom z time E) (sym made.counts) may.from;
  moments = λ is. may.moments (up (sym made.enters ∙ is));
}

-- ---- atoms that last no time

module _ (piece : Piece) (entering : List ZoneBounds) where
  instant_enters : (longest : Option ℕ) (x : Atom) (here begun : List ZoneBounds) → here ≡ []
      → begun ≡ [] → ((next : Timeline) → IsInstant (MatchesRest (atom x) (over piece next)))
      → Enters longest piece (atom_mark here begun) (atom x) (Held entering) (atom_mark [] [])
  instant_enters longest x here begun none none' instant =
      subst (λ z. Enters longest piece (atom_mark z begun) (atom x) (Held entering) (atom_mark [] []))
      (sym none)
      (subst (λ z. Enters longest piece (atom_mark [] z) (atom x) (Held entering) (atom_mark [] []))
      (sym none')
      (left_out_enters longest piece (atom_mark [] []) (atom_mark [] []) (atom x) (Held entering)
      (atom_alone longest piece x) (dull_instant piece x instant)))

  empty_goes : (around : Around) (old : MarkTree) → Looked piece old (Eps around)
      → MayEnter piece.begin around (Held entering)
      → Enters around.longest piece old (atom empty) (Held entering) (atom_mark [] [])
  empty_goes around (atom_mark here begun) x may =
      instant_enters around.longest empty here begun x.1 x.2 (λ next. IsInstant-Empty (over piece next))
  empty_goes around old x may = absurd x

  rise_goes : (around : Around) (state : State) (old : MarkTree) → Looked piece old (Rise around state)
      → MayEnter piece.begin around (Held entering)
      → Enters around.longest piece old (atom (rise (tree_of state))) (Held entering) (atom_mark [] [])
  rise_goes around state (atom_mark here begun) x may =
      instant_enters around.longest (rise (tree_of state)) here begun x.1 x.2 (λ next. record { same = λ a b n h. h.begin ∙ sym h.end })
  rise_goes around state old x may = absurd x

  fall_goes : (around : Around) (state : State) (old : MarkTree) → Looked piece old (Fall around state)
      → MayEnter piece.begin around (Held entering)
      → Enters around.longest piece old (atom (fall (tree_of state))) (Held entering) (atom_mark [] [])
  fall_goes around state (atom_mark here begun) x may =
      instant_enters around.longest (fall (tree_of state)) here begun x.1 x.2 (λ next. record { same = λ a b n h. h.begin ∙ sym h.end })
  fall_goes around state old x may = absurd x

  event_goes : (around : Around) (number : ℕ) (old : MarkTree) → Looked piece old (Event around number)
      → MayEnter piece.begin around (Held entering)
      → Enters around.longest piece old (atom (event number)) (Held entering) (atom_mark [] [])
  event_goes around number (atom_mark here begun) x may =
      instant_enters around.longest (event number) here begun x.1 x.2 (λ next. record { same = λ a b n h. h.begin ∙ sym h.end })
  event_goes around number old x may = absurd x

  pub empty_entered : (around : Around) → HasEntered piece entering (Eps around) (Eps around)
  empty_entered around = record {
    tree = refl;
    made = made_itself around;
    node = λ n. n;
    goes = empty_goes around;
  }

  pub rise_entered : (around : Around) (state : State) → HasEntered piece entering (Rise around state) (Rise around state)
  rise_entered around state = record {
    tree = refl;
    made = made_itself around;
    node = λ n. n;
    goes = rise_goes around state;
  }

  pub fall_entered : (around : Around) (state : State) → HasEntered piece entering (Fall around state) (Fall around state)
  fall_entered around state = record {
    tree = refl;
    made = made_itself around;
    node = λ n. n;
    goes = fall_goes around state;
  }

  pub event_entered : (around : Around) (number : ℕ) → HasEntered piece entering (Event around number) (Event around number)
  event_entered around number = record {
    tree = refl;
    made = made_itself around;
    node = λ n. n;
    goes = event_goes around number;
  }

-- The same of a node that is known as such.
pub same_entered : {piece : Piece} {entering : List ZoneBounds} {node before : Node} → node ≡ before
    → HasEntered piece entering before before → HasEntered piece entering node node
same_entered {piece} {entering} {node} {before} is h =
    subst (λ n. HasEntered piece entering n n) (sym is) h

pub entered_by : {piece : Piece} {entering : List ZoneBounds} {node before after : Node} → node ≡ before
    → HasEntered piece entering before after → HasEntered piece entering node after
entered_by {piece} {entering} {node} {before} {after} is h =
    subst (λ n. HasEntered piece entering n after) (sym is) h

-- ---- literals

in_zone : (time : ℕ) (stretch : Stretch) (a n : ℕ)
    → ZoneHolds (stretch_zone time stretch) a (time * n) n ↔ IsIn stretch a n
unfolding stretch_zone
in_zone time stretch a n =
    let low = Meets-at_least (pos 1 -ℤ pos (2 * time)) time refl 0 (time * n) n in
    let high = Meets-at_most (pos (2 * time + 1)) time refl (time * n) 0 n in (
      (λ h. record { low = h.begin_low; high = h.begin_high }),
      (λ h.
          let first = low.1 (omega arith) in
          let last = high.1 (omega arith) in
          record {
            begin_low = h.low;
            begin_high = h.high;
            end_low = first;
            end_high = last;
            dur_low = Meets-sum stretch.high (pos 1 -ℤ pos (2 * time)) a 0 (time * n) n h.high first;
            dur_high = Meets-sum (pos (2 * time + 1)) stretch.low (time * n) 0 a n last h.low;
          }),
    )

begun_held : (time : ℕ) (begun : List Stretch) (a n : ℕ)
    → SetHolds (begun_at time begun) a (time * n) n ↔ IsBegin begun a n
unfolding SetHolds IsBegin
begun_held time [] a n = ((λ h. h), (λ h. h))
begun_held time (stretch ∷ begun) a n =
    let one = in_zone time stretch a n in
    let rest = begun_held time begun a n in (
      (λ h. ⊎_elim (λ x. inl (one.0 x)) (λ x. inr (rest.0 x)) h),
      (λ h. ⊎_elim (λ x. inl (one.1 x)) (λ x. inr (rest.1 x)) h),
    )

-- More begins beside those that went on.
begins_joined : (longest : Option ℕ) (piece : Piece) (old : List ZoneBounds) (begun begun' : List Stretch)
    (E : Pairs) → IsOrdered E → Begins longest piece old None (begun_at (end_of_piece piece) begun)
    → AddsMoments begun (BeginsBefore (end_of_piece piece) E) begun'
    → Begins longest piece old E (begun_at (end_of_piece piece) begun')
begins_joined longest piece old begun begun' E ordered b adds = record {
  at = λ a n some short.
      let T' = end_of_piece piece in
      let first = b.at a n some short in
      let here = begun_held T' begun a n in
      let there = begun_held T' begun' a n in
      let more = adds.begins a n some in (
        (λ h. ⊎_elim
            (λ x. ⊎_elim (λ y. inl y) (λ y. absurd y.pair.related)
            (first.0 (record { rising = h.rising; held = here.1 x })))
            (λ x. inr x) (more.0 (there.0 h.held))),
        (λ h. ⊎_elim
            (λ x.
            let went = first.1 (inl x) in
            record { rising = went.rising; held = there.1 (more.1 (inl (here.0 went.held))) })
            (λ x.
            let rising = ordered.le (x.factor * a) x.midpoint (x.factor * n) x.pair.related in
            let early = x.pair.early in
            record {
              rising = ge_down x.factor T' a n x.positive (omega (arith, rising, early));
              held = there.1 (more.1 (inr x));
            }) h),
      );
}

literal_goes : (longest : Option ℕ) (piece : Piece) (entering old : List ZoneBounds)
    (state : StateTree) (lives : Bool) (begun begun' : List Stretch)
    → (lives ≡ false → IsDullOver piece (atom (literal state)))
    → HoldsOn longest piece old state lives begun
    → EntersBegun lives (end_of_piece piece) entering begun begun'
    → EndsFrom longest piece.begin (Held entering)
    → Enters longest piece (atom_mark [] old) (atom (literal state)) (Held entering)
    (atom_mark [] (begun_at (end_of_piece piece) begun'))
literal_goes longest piece entering old state true begun begun' dull on went from =
    literal_enters longest piece state old (begun_at (end_of_piece piece) begun') (Held entering)
    (on.holds refl).holds from (IsOrdered-Held entering)
    (begins_joined longest piece old begun begun' (Held entering) (IsOrdered-Held entering)
    (on.goes refl) (went.adds refl))
literal_goes longest piece entering old state false begun begun' dull on went from =
    left_out_enters longest piece (atom_mark [] old)
    (atom_mark [] (begun_at (end_of_piece piece) begun')) (atom (literal state)) (Held entering)
    (subst (λ list. Enters longest piece (atom_mark [] old) (atom (literal state)) None
    (atom_mark [] (begun_at (end_of_piece piece) list))) (sym (went.same refl)) (on.ends refl))
    (dull refl)

-- What has to be shown of two nodes that are literals.
abbrev pub LiteralGo : Piece → List ZoneBounds → Node → Node → Type 0
LiteralGo piece entering (Lit around state begun) (Lit around' state' begun') =
    IsMade around.longest around.whole around' × (state' ≡ state)
    × EntersBegun around.lives (end_of_piece piece) entering begun.items begun'.items
    × (around'.busy ≡ true)
LiteralGo piece entering before after = ⊥

literal_on : (piece : Piece) (entering : List ZoneBounds) (before after : Node)
    → LiteralGo piece entering before after → (old : MarkTree) → Looked piece old before
    → MayEnter piece.begin (around_of before) (Held entering)
    → Enters (around_of before).longest piece old (tree_of_node before) (Held entering)
    (mark_of_node (end_of_piece piece) after)
literal_on piece entering (Lit around state begun) (Lit around' state' begun') h
    (atom_mark here old) x may =
    subst (λ z. Enters around.longest piece (atom_mark z old) (atom (literal (tree_of state)))
    (Held entering) (atom_mark [] (begun_at (end_of_piece piece) begun'.items))) (sym x.1)
    (literal_goes around.longest piece entering old (tree_of state) around.lives begun.items
    begun'.items x.0.dull x.2 h.2 may.from)
literal_on piece entering (Lit around state begun) (Lit around' state' begun') h old x may = absurd x
literal_on piece entering before after h old x may = absurd h

pub literal_entered : (piece : Piece) (entering : List ZoneBounds) (before after : Node)
    → LiteralGo piece entering before after → HasEntered piece entering before after
literal_entered piece entering (Lit around state begun) (Lit around' state' begun') h = record {
  tree = ap (λ s. atom (literal (tree_of s))) h.1;
  made = h.0;
  node = λ n. (
    sound_now around around' (Lit around' state' begun') refl h.0 n.0.limit h.3,
    subst (λ s. NumbersBelow NAMES_MAX (atom (literal (tree_of s)))) (sym h.1) n.1,
    h.2.are n.2,
  );
  goes = literal_on piece entering (Lit around state begun) (Lit around' state' begun') h;
}
literal_entered piece entering before after h = absurd h

-- ---- alternations

abbrev pub AlternationGo : Piece → List ZoneBounds → Node → Node → Type 0
AlternationGo piece entering (Alt' around box left box' right) (Alt' around' box1 left' box1' right') =
    IsMade around.longest around.whole around'
    × HaveBothEntered piece entering left left' right right' × (around'.busy ≡ true)
AlternationGo piece entering before after = ⊥

alternation_on : (piece : Piece) (entering : List ZoneBounds) (before after : Node)
    → AlternationGo piece entering before after → (old : MarkTree) → Looked piece old before
    → MayEnter piece.begin (around_of before) (Held entering)
    → Enters (around_of before).longest piece old (tree_of_node before) (Held entering)
    (mark_of_node (end_of_piece piece) after)
alternation_on piece entering (Alt' around box left box' right)
    (Alt' around' box1 left' box1' right') h (alternation_mark one other) x may =
    alternation_enters around.longest piece one other
    (mark_of_node (end_of_piece piece) left') (mark_of_node (end_of_piece piece) right')
    (tree_of_node left) (tree_of_node right) (Held entering)
    (subst (λ z. Enters z piece one (tree_of_node left) (Held entering)
    (mark_of_node (end_of_piece piece) left')) x.1.0.counts
    (h.1.left.goes one x.2 (part_may piece.begin around (around_of left) around.whole (Held entering)
    x.1.0 (λ is. is) may)))
    (subst (λ z. Enters z piece other (tree_of_node right) (Held entering)
    (mark_of_node (end_of_piece piece) right')) x.1.1.counts
    (h.1.right.goes other x.3 (part_may piece.begin around (around_of right) around.whole
    (Held entering) x.1.1 (λ is. is) may)))
alternation_on piece entering (Alt' around box left box' right)
    (Alt' around' box1 left' box1' right') h old x may = absurd x
alternation_on piece entering before after h old x may = absurd h

pub alternation_entered : (piece : Piece) (entering : List ZoneBounds) (before after : Node)
    → AlternationGo piece entering before after → HasEntered piece entering before after
alternation_entered piece entering (Alt' around box left box' right)
    (Alt' around' box1 left' box1' right') h = record {
      tree = ap (λ t. alternation t (tree_of_node right')) h.1.left.tree
          ∙ ap (λ t. alternation (tree_of_node left) t) h.1.right.tree;
      made = h.0;
      node = λ n. (
        sound_now around around' (Alt' around' box1 left' box1' right') refl h.0 n.0.limit h.2,
        (
          made_whole around around' (around_of left) (around_of left') h.0 n.1.0 h.1.left.made,
          made_whole around around' (around_of right) (around_of right') h.0 n.1.1 h.1.right.made,
        ),
        h.1.left.node n.2,
        h.1.right.node n.3,
      );
      goes = alternation_on piece entering (Alt' around box left box' right)
          (Alt' around' box1 left' box1' right') h;
    }
alternation_entered piece entering before after h = absurd h

-- The same of parts under other names.
pub both_named : {piece : Piece} {entering : List ZoneBounds} {left named left' right named' right' : Node}
    → left ≡ named → right ≡ named' → HaveBothEntered piece entering left left' right right'
    → HaveBothEntered piece entering named left' named' right'
both_named {piece} {entering} {left} {named} {left'} {right} {named'} {right'} l r h =
    subst (λ n. HaveBothEntered piece entering n left' named' right') l
    (subst (λ n. HaveBothEntered piece entering left left' n right') r h)

-- ---- what counts of what enters

-- The pairs of E that end at the time or later.
pub record From (time : ℕ) (E : Pairs) (a b n : ℕ) : Type 0 where
  pub related : E a b n
  pub late : time * n ≤ b

pub Scales-From : (time : ℕ) (E : Pairs) → Scales E → Scales (From time E)
Scales-From time E s = record {
  up = λ k a b n pos h. record {
    related = s.up k a b n pos h.related;
    late = le_up k time b n h.late;
  };
  down = λ k a b n pos h. record {
    related = s.down k a b n pos h.related;
    late = le_down k time b n pos h.late;
  };
}

pub IsOrdered-From : (time : ℕ) (E : Pairs) → IsOrdered E → IsOrdered (From time E)
IsOrdered-From time E o = record { le = λ a b n h. o.le a b n h.related }

pub from_same : (longest : Option ℕ) (time : ℕ) (E : Pairs) → EndsFrom longest time E
    → Same (LastsUpTo longest) (From time E) E
from_same longest time E from = record {
  at = λ a b n some short. (
    (λ h. h.related),
    (λ h. record { related = h; late = from.from a b n some short h }),
  );
}

-- Only what counts of what enters matters.
pub enters_same : (longest : Option ℕ) (piece : Piece) (old new : MarkTree) (tree : PatternTree)
    (E F : Pairs) → IsOrdered E → IsOrdered F → Same (LastsUpTo longest) E F
    → Enters longest piece old tree E new → Enters longest piece old tree F new
enters_same longest piece old new tree E F oe of same x = record {
  leaves = λ next long.
      let D = LastsUpTo longest in
      let T' = end_of_piece piece in
      let X = MatchesRest tree (over piece next) in
      let M = Marked (over piece next) old tree in
      same_trans D (Marked (behind piece next) new tree) _ _ (x.leaves next long)
      (same_crossing D (Either M (Composed (Before T' E) X)) (Either M (Composed (Before T' F) X))
      (same_either D M M (Composed (Before T' E) X) (Composed (Before T' F) X) (same_refl D M)
      (same_composed D (LastsUpTo-downward longest) (LastsUpTo-scales longest) (Before T' E)
      (Before T' F) X X (IsOrdered-Before T' E oe) (IsOrdered-Before T' F of)
      (IsOrdered-rest tree (over piece next)) (IsOrdered-rest tree (over piece next))
      (same_before D E F same T') (same_refl D X))) T');
}

-- ---- repetitions

module _ (longest : Option ℕ) (piece : Piece) (mark mark' : MarkTree) (tree : PatternTree)
    (ended inside entering : List ZoneBounds)
    (insides : IsSetOf inside (MatchesRest (repetition tree) (alone piece)))
    (endeds : Same (LastsUpTo longest) (Held ended)
    (Marked (alone piece) (repetition_mark [] mark) (repetition tree)))
    (from : EndsFrom longest piece.begin (Held entering)) where
  abbrev D : ℕ → ℕ → Type 0
  D = LastsUpTo longest

  abbrev E : Pairs
  E = Held entering

  abbrev E' : Pairs
  E' = From piece.begin (Held entering)

  abbrev Told : Pairs → Pairs
  Told F = GoesAlone piece (repetition_mark [] mark) (repetition tree) F

  ordered' : IsOrdered E'
  ordered' = IsOrdered-From piece.begin E (IsOrdered-Held entering)

  -- What the repetition tells.
  told_by : (fed : List ZoneBounds)
      → IsSetOf fed (Either (Held ended) (Composed E (Held inside))) → Same D (Held fed) (Told E')
  told_by fed set =
      let P = alone piece in
      let X = MatchesRest (repetition tree) P in
      same_trans D (Held fed) (Either (Held ended) (Composed E (Held inside))) (Told E')
      (same_agree D (Held fed) (Either (Held ended) (Composed E (Held inside)))
      (record { at = set.pairs }))
      (same_either D (Held ended) (Marked P (repetition_mark [] mark) (repetition tree))
      (Composed E (Held inside)) (Composed E' X) endeds
      (same_composed D (LastsUpTo-downward longest) (LastsUpTo-scales longest) E E' (Held inside) X
      (IsOrdered-Held entering) ordered' (IsOrdered-Held inside) (IsOrdered-rest (repetition tree) P)
      (same_back D E' E (from_same longest piece.begin E from))
      (same_agree D (Held inside) X (record { at = insides.pairs }))))

  pub told_from : (fed : List ZoneBounds)
      → IsSetOf fed (Either (Held ended) (Composed E (Held inside)))
      → EndsFrom longest piece.begin (Held fed)
  told_from fed set = same_from longest piece.begin (Told E') (Held fed) (told_by fed set)
      (goes_from longest piece (repetition_mark [] mark) (repetition tree) E')

  end_later : (next : Timeline) → end_of_piece piece ≤ end_of (over piece next).start (over piece next).segments
  end_later next = end_of-le (piece.begin + piece.segment.len) next.segments

  begin_later : (next : Timeline) → piece.begin ≤ end_of (over piece next).start (over piece next).segments
  begin_later next = let later = end_later next in omega (arith, later)

  starts : (next : Timeline) (a b n : ℕ) → 0 < n
      → Either (Before (end_of_piece piece) E') (Marked (over piece next) mark tree) a b n
      → AtomMatches (over piece next) empty b b n
  starts next a b n some h = ⊎_elim
      (λ x.
      let early = x.early in
      let later = mul-le-mul_right n (end_later next) in
      record { begin = x.related.late; same = refl; end = omega (arith, early, later) })
      (λ x. record {
        begin = (around_present (over piece next) mark tree a b n x).1;
        same = refl;
        end = mark_ends (over piece next) (begin_later next) mark tree a b n x;
      }) h

  -- F is what it tells, up to the longest duration that counts.
  again : (F : Pairs) → IsOrdered F → Same D F (Told E') → Enters longest piece mark tree F mark'
      → Enters longest piece (repetition_mark [] mark) (repetition tree) E (repetition_mark [] mark')
  again F of fed x = enters_same longest piece (repetition_mark [] mark) (repetition_mark [] mark')
      (repetition tree) E' E ordered' (IsOrdered-Held entering)
      (from_same longest piece.begin E from)
      (repetition_enters longest piece mark mark' tree E' F
      (Scales-From piece.begin E (Scales-Held entering)) ordered' of starts fed x)

  pub again_fed : (fed : List ZoneBounds)
      → IsSetOf fed (Either (Held ended) (Composed E (Held inside)))
      → Enters longest piece mark tree (Held fed) mark'
      → Enters longest piece (repetition_mark [] mark) (repetition tree) E (repetition_mark [] mark')
  again_fed fed set x = again (Held fed) (IsOrdered-Held fed) (told_by fed set) x

  pub again_dull : IsDullOver piece tree → Enters longest piece mark tree None mark'
      → Enters longest piece (repetition_mark [] mark) (repetition tree) E (repetition_mark [] mark')
  again_dull dull x = again (Told E')
      (alone_ordered piece (repetition_mark [] mark) (repetition tree) E' ordered' (quiet []))
      (same_refl D (Told E')) (left_out_enters longest piece mark mark' tree (Told E') x dull)

-- A part that moments need not enter.
body_enters : (longest : Option ℕ) (piece : Piece) (fed : List ZoneBounds) (mark : MarkTree)
    (body body' : Node) → IsMade longest false (around_of body) → Looked piece mark body
    → HasEntered piece fed body body' → EndsFrom longest piece.begin (Held fed)
    → Enters longest piece mark (tree_of_node body) (Held fed)
    (mark_of_node (end_of_piece piece) body')
body_enters longest piece fed mark body body' made x h from =
    subst (λ z. Enters z piece mark (tree_of_node body) (Held fed)
    (mark_of_node (end_of_piece piece) body')) made.counts
    (h.goes mark x (record {
      from = subst (λ z. EndsFrom z piece.begin (Held fed)) (sym made.counts) from;
      moments = λ whole. absurd (false≢true (sym made.enters ∙ whole));
    }))

abbrev pub RepetitionGo : Piece → List ZoneBounds → Node → Node → Type 0
RepetitionGo piece entering (Star' around box body) (Star' around' box' body') =
    IsMade around.longest around.whole around'
    × EntersAgain piece around.ended.items around.inside.items entering body body'
    × (around'.busy ≡ true)
RepetitionGo piece entering before after = ⊥

repetition_on : (piece : Piece) (entering : List ZoneBounds) (before after : Node)
    → RepetitionGo piece entering before after → (old : MarkTree) → Looked piece old before
    → MayEnter piece.begin (around_of before) (Held entering)
    → Enters (around_of before).longest piece old (tree_of_node before) (Held entering)
    (mark_of_node (end_of_piece piece) after)
repetition_on piece entering (Star' around box body) (Star' around' box' body') h
    (repetition_mark here mark) x may =
    let same = x.2.counts in
    let mark' = mark_of_node (end_of_piece piece) body' in
    let tree = tree_of_node body in
    let told = subst (λ z. Same (LastsUpTo around.longest) (Held around.ended.items)
    (Marked (alone piece) (repetition_mark z mark) (repetition tree))) x.1 x.0.ended in
    subst (λ z. Enters around.longest piece (repetition_mark z mark) (repetition tree) (Held entering)
    (repetition_mark [] mark')) (sym x.1)
    (⊎_elim
    (λ set. again_fed around.longest piece mark mark' tree around.ended.items around.inside.items
    entering x.0.inside told may.from h.1.fed set
    (body_enters around.longest piece h.1.fed mark body body' x.2 x.3 h.1.entered
    (told_from around.longest piece mark mark' tree around.ended.items around.inside.items entering
    x.0.inside told may.from h.1.fed set)))
    (λ idle. again_dull around.longest piece mark mark' tree around.ended.items around.inside.items
    entering x.0.inside told may.from ((looked_tells piece mark body x.3).dull idle.1)
    (enters_none around.longest piece mark mark' tree h.1.fed idle.0
    (body_enters around.longest piece h.1.fed mark body body' x.2 x.3 h.1.entered
    (none_from around.longest piece.begin h.1.fed idle.0))))
    h.1.is)
repetition_on piece entering (Star' around box body) (Star' around' box' body') h old x may = absurd x
repetition_on piece entering before after h old x may = absurd h

pub repetition_entered : (piece : Piece) (entering : List ZoneBounds) (before after : Node)
    → RepetitionGo piece entering before after → HasEntered piece entering before after
repetition_entered piece entering (Star' around box body) (Star' around' box' body') h = record {
  tree = ap (λ t. repetition t) h.1.entered.tree;
  made = h.0;
  node = λ n. (
    sound_now around around' (Star' around' box' body') refl h.0 n.0.limit h.2,
    made_part around around' (around_of body) (around_of body') false h.0 n.1 h.1.entered.made,
    h.1.entered.node n.2,
  );
  goes = repetition_on piece entering (Star' around box body) (Star' around' box' body') h;
}
repetition_entered piece entering before after h = absurd h

pub again_named : {piece : Piece} {ended ended' inside inside' entering : List ZoneBounds}
    {body named body' : Node} → body ≡ named → ended ≡ ended' → inside ≡ inside'
    → EntersAgain piece ended inside entering body body'
    → EntersAgain piece ended' inside' entering named body'
again_named {piece} {ended} {ended'} {inside} {inside'} {entering} {body} {named} {body'} is e i h =
    subst (λ n. EntersAgain piece ended' inside' entering n body') is
    (subst (λ z. EntersAgain piece z inside' entering body body') e
    (subst (λ z. EntersAgain piece ended z entering body body') i h))
