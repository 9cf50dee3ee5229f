-- A node was looked at where what it is made of was.
use Rattle.std.proofs.Common.{◌≡◌, ◌∙◌, ℕ, List, [], Option, Bool, ap, refl, sym, subst}
use Rattle.tre_pairs.specs.Pairs.{Both}
use Rattle.tre_zone.specs.Interval.{IntervalEnds, LastsWithin}
use Rattle.tre_zone.specs.declared.zone_bounds.ZoneBounds.{ZoneBounds}
use Rattle.tre_state.specs.State.{tree_of}
use Rattle.tre_state.specs.StateTree.{StateTree}
use Rattle.tre_state.specs.declared.names.TheConstants.{NAMES_MAX}
use Rattle.tre_trace.specs.Trace.{Timeline}
use Rattle.tre_syntax.specs.PatternTree.{NumbersBelow, PatternTree, literal, atom, sequence, alternation, intersection, repetition, restriction}
use Rattle.tre_edges.specs.declared.piece.Piece.{Piece}
use Rattle.tre_mark.specs.MarkTree.{atom_mark, sequence_mark, alternation_mark, intersection_one, repetition_mark, restriction_one}
use Rattle.tre_mark.specs.Marked.{AnyDuration, Marked}
use Rattle.tre_mark.proofs.Meanings.{IsOrdered-Marked}
use Rattle.tre_forms.specs.Enters.{over}
use Rattle.tre_node.specs.declared.node.Around.{Around}
use Rattle.tre_node.specs.declared.node.Node.{Node, Lit, Seq', Alt', Meet', Star', Within'}
use Rattle.tre_node.specs.IsNode.{IsNode, least_of}
use Rattle.tre_node.specs.Looked.{AreLed, HasLooked, HoldsOn, IsReach, Tells}
use Rattle.tre_node.specs.NodeTree.{begun_at, led_by, mark_of_node, tree_of_node}
use Rattle.tre_node.specs.Telling.{AlternationLooks, IntersectionLooks, LiteralLooks, RepetitionLooks, RestrictionLooks, SequenceLooks}
use Rattle.tre_node.proofs.InstancesTold.{led_on, outer_kept, reach_counts}
use Rattle.tre_node.proofs.Looks.{limit_kept, made_for, tells_with}

-- ---- the node, of its parts

abbrev pub PartsLook : Piece → Node → Node → Type 0
PartsLook piece (Lit around state begun) (Lit around' state' begun') =
    (tree_of state' ≡ tree_of state)
    × LiteralLooks piece (tree_of state) around around' begun.items begun'.items
PartsLook piece (Seq' around box left box' right) (Seq' around' box1 left' box1' right') =
    SequenceLooks piece around around' left left' right right'
PartsLook piece (Alt' around box left box' right) (Alt' around' box1 left' box1' right') =
    AlternationLooks piece around around' left left' right right'
PartsLook piece (Star' around box body) (Star' around' box1 body') =
    RepetitionLooks piece around around' body body'
PartsLook piece (Meet' around reach outer most box left box' right)
    (Meet' around' reach' outer' most' box1 left' box1' right') =
    (reach' ≡ reach)
    × IntersectionLooks piece reach around around' outer.items outer'.items left left' right right'
PartsLook piece (Within' around reach interval outer most box body)
    (Within' around' reach' interval' outer' most' box' body') =
    (reach' ≡ reach) × (interval' ≡ interval)
    × RestrictionLooks piece reach interval around around' outer.items outer'.items body body'
PartsLook piece before after = ⊥

parts_looked : (piece : Piece) (before after : Node) → IsNode piece.begin before
    → PartsLook piece before after → HasLooked piece before after
parts_looked piece (Lit around state begun) (Lit around' state' begun') n h =
    let mark = atom_mark [] (begun_at piece.begin begun.items) in
    record {
      tree = ap (λ s. atom (literal s)) h.0;
      made = h.1.made;
      looked = (
        subst (λ (t : StateTree). Tells piece mark (atom (literal t)) around') (sym h.0)
            (tells_with h.1.made h.1.tells),
        refl,
        subst (λ (t : StateTree). HoldsOn around'.longest piece (begun_at piece.begin begun.items) t
            around'.lives begun'.items) (sym h.0)
            (subst (λ (z : Option ℕ). HoldsOn z piece (begun_at piece.begin begun.items)
            (tree_of state) around'.lives begun'.items) (sym h.1.made.counts) h.1.on),
      );
      node = (
        record { limit = limit_kept n.0.limit h.1.made; idle = h.1.idle },
        subst (λ (t : StateTree). NumbersBelow NAMES_MAX (atom (literal t))) (sym h.0) n.1,
        h.1.are,
      );
    }
parts_looked piece (Seq' around box left box' right) (Seq' around' box1 left' box1' right') n h =
    let first = made_for n.1.0 h.one.made h.made.counts h.made.enters in
    let second = made_for n.1.1 h.other.made h.made.counts refl in
    let mark = sequence_mark (mark_of_node piece.begin left) (mark_of_node piece.begin right) in
    let same = ap (λ t. sequence t (tree_of_node right')) h.one.tree
    ∙ ap (λ t. sequence (tree_of_node left) t) h.other.tree in
    record {
      tree = same;
      made = h.made;
      looked = (
        subst (λ (t : PatternTree). Tells piece mark t around') (sym same) h.tells,
        (first, second),
        h.one.looked,
        h.other.looked,
      );
      node = (
        record { limit = limit_kept n.0.limit h.made; idle = h.idle },
        (first, second),
        h.one.node,
        h.other.node,
      );
    }
parts_looked piece (Alt' around box left box' right) (Alt' around' box1 left' box1' right') n h =
    let first = made_for n.1.0 h.one.made h.made.counts h.made.enters in
    let second = made_for n.1.1 h.other.made h.made.counts h.made.enters in
    let mark = alternation_mark (mark_of_node piece.begin left) (mark_of_node piece.begin right) in
    let same = ap (λ t. alternation t (tree_of_node right')) h.one.tree
    ∙ ap (λ t. alternation (tree_of_node left) t) h.other.tree in
    record {
      tree = same;
      made = h.made;
      looked = (
        subst (λ (t : PatternTree). Tells piece mark t around') (sym same) h.tells,
        (first, second),
        h.one.looked,
        h.other.looked,
      );
      node = (
        record { limit = limit_kept n.0.limit h.made; idle = h.idle },
        (first, second),
        h.one.node,
        h.other.node,
      );
    }
parts_looked piece (Star' around box body) (Star' around' box1 body') n h =
    let inner = made_for n.1 h.inner.made h.made.counts refl in
    let mark = repetition_mark [] (mark_of_node piece.begin body) in
    let same = ap (λ t. repetition t) h.inner.tree in
    record {
      tree = same;
      made = h.made;
      looked = (
        subst (λ (t : PatternTree). Tells piece mark t around') (sym same) h.tells,
        refl,
        inner,
        h.inner.looked,
      );
      node = (record { limit = limit_kept n.0.limit h.made; idle = h.idle }, inner, h.inner.node);
    }
parts_looked piece (Meet' around reach outer most box left box' right)
    (Meet' around' reach' outer' most' box1 left' box1' right') n h =
    let l = h.1.looks in
    let first = made_for n.2.0 l.one.made refl refl in
    let second = made_for n.2.1 l.other.made refl refl in
    let mark = intersection_one 0 (led_by around.whole outer.items)
    (mark_of_node piece.begin left) (mark_of_node piece.begin right) in
    let same = ap (λ t. intersection t (tree_of_node right')) l.one.tree
    ∙ ap (λ t. intersection (tree_of_node left) t) l.other.tree in
    let M = λ (next : Timeline) (a b n : ℕ).
    Both (Marked (over piece next) (mark_of_node piece.begin left) (tree_of_node left'))
    (Marked (over piece next) (mark_of_node piece.begin right) (tree_of_node right')) a b n in
    subst (λ (r : Option ℕ). HasLooked piece (Meet' around reach outer most box left box' right)
    (Meet' around' r outer' most' box1 left' box1' right')) (sym h.0)
    (record {
      tree = same;
      made = l.made;
      looked = (
        subst (λ (t : PatternTree). Tells piece mark t around') (sym same) l.tells,
        subst (λ (z : Option ℕ). IsReach z AnyDuration reach) (sym l.made.counts)
            (subst (λ (z : Option ℕ). IsReach z AnyDuration reach) n.1
            (record { counts = λ d n l w. l })),
        (first, second),
        subst (λ (w : Bool). AreLed w reach piece M (led_by around.whole outer.items)
            outer'.items) (sym l.made.enters)
            (led_on piece reach outer.items outer'.items n.3 h.1.kept around.whole M
            (λ next. record {
              le = λ a b n h. (IsOrdered-Marked (over piece next) (mark_of_node piece.begin left)
                  (tree_of_node left')).le a b n h.left;
            })),
        l.one.looked,
        l.other.looked,
      );
      node = (
        record { limit = limit_kept n.0.limit l.made; idle = l.idle },
        n.1 ∙ sym l.made.counts,
        (first, second),
        outer_kept piece reach outer.items outer'.items n.3 h.1.kept,
        l.one.node,
        l.other.node,
      );
    })
parts_looked piece (Within' around reach interval outer most box body)
    (Within' around' reach' interval' outer' most' box' body') n h =
    let l = h.2.looks in
    let inner = made_for n.2 l.inner.made refl refl in
    let mark = restriction_one 0 (led_by around.whole outer.items)
    (mark_of_node piece.begin body) in
    let same = ap (λ t. restriction t interval) l.inner.tree in
    let M = λ (next : Timeline) (a b n : ℕ).
    Marked (over piece next) (mark_of_node piece.begin body) (tree_of_node body') a b n in
    subst (λ (r : Option ℕ). HasLooked piece (Within' around reach interval outer most box body)
    (Within' around' r interval' outer' most' box' body')) (sym h.0)
    (subst (λ (i : IntervalEnds). HasLooked piece
    (Within' around reach interval outer most box body)
    (Within' around' reach i outer' most' box' body')) (sym h.1)
    (record {
      tree = same;
      made = l.made;
      looked = (
        subst (λ (t : PatternTree). Tells piece mark t around') (sym same) l.tells,
        subst (λ (z : Option ℕ). IsReach z (LastsWithin interval) reach) (sym l.made.counts)
            (subst (λ (r : Option ℕ). IsReach around.longest (LastsWithin interval) r) (sym n.1)
            (reach_counts around.longest interval)),
        inner,
        subst (λ (w : Bool). AreLed w reach piece M (led_by around.whole outer.items)
            outer'.items) (sym l.made.enters)
            (led_on piece reach outer.items outer'.items n.3 h.2.kept around.whole M
            (λ next. record {
              le = (IsOrdered-Marked (over piece next) (mark_of_node piece.begin body)
                  (tree_of_node body')).le;
            })),
        l.inner.looked,
      );
      node = (
        record { limit = limit_kept n.0.limit l.made; idle = l.idle },
        n.1 ∙ ap (λ z. least_of z interval.high) (sym l.made.counts),
        inner,
        outer_kept piece reach outer.items outer'.items n.3 h.2.kept,
        l.inner.node,
      );
    }))
parts_looked piece before after n h = absurd h

pub looked_by : {piece : Piece} {node before after : Node} → node ≡ before
    → IsNode piece.begin node → PartsLook piece before after → HasLooked piece node after
looked_by {piece} {node} {before} {after} is n h =
    subst (λ (z : Node). HasLooked piece z after) (sym is)
    (parts_looked piece before after (subst (λ (z : Node). IsNode piece.begin z) is n) h)

pub restriction_named : {piece : Piece} {reach : Option ℕ} {interval : IntervalEnds}
    {around around' : Around} {outer outer' : List ZoneBounds} {body named body' : Node}
    → body ≡ named → RestrictionLooks piece reach interval around around' outer outer' body body'
    → RestrictionLooks piece reach interval around around' outer outer' named body'
restriction_named {piece} {reach} {interval} {around} {around'} {outer} {outer'} {body} {named}
    {body'} l h =
    subst (λ (n : Node). RestrictionLooks piece reach interval around around' outer outer' n body')
    l h

pub intersection_named : {piece : Piece} {reach : Option ℕ} {around around' : Around}
    {outer outer' : List ZoneBounds} {left named left' right named' right' : Node}
    → left ≡ named → right ≡ named'
    → IntersectionLooks piece reach around around' outer outer' left left' right right'
    → IntersectionLooks piece reach around around' outer outer' named left' named' right'
intersection_named {piece} {reach} {around} {around'} {outer} {outer'} {left} {named} {left'}
    {right} {named'} {right'} l r h =
    subst (λ (n : Node). IntersectionLooks piece reach around around' outer outer' n left' named'
    right') l
    (subst (λ (n : Node). IntersectionLooks piece reach around around' outer outer' left left' n
    right') r h)
