-- Nodes that are restrictions or intersections, and are entered.
use Rattle.std.proofs.Common.{◌≡◌, ◌∙◌, ℕ, ◌⊎◌, inl, ⊎_elim, ap, refl, sym, subst, arith, Bool, true, false, Option, List, [], ◌∷◌}
use Rattle.std.proofs.lemmas.Bool.{false≢true}
use Rattle.tre_pairs.specs.Pairs.{Either}
use Rattle.tre_pairs.specs.Before.{Before}
use Rattle.tre_pairs.specs.declared.TheConstants.{TIME_MAX}
use Rattle.tre_pairs.proofs.Laws.{IsOrdered, IsInstant}
use Rattle.tre_zone.specs.Held.{Held}
use Rattle.tre_zone.specs.Longest.{LastsUpTo}
use Rattle.tre_zone.specs.Zone.{instants_of}
use Rattle.tre_zone.specs.declared.zone_bounds.ZoneBounds.{ZoneBounds}
use Rattle.tre_zone.proofs.HeldSets.{Held-empty, Scales-Held, IsOrdered-Held}
use Rattle.tre_syntax.specs.PatternTree.{intersection, restriction}
use Rattle.tre_edges.specs.Piece.{end_of_piece}
use Rattle.tre_edges.specs.declared.piece.Piece.{Piece}
use Rattle.tre_mark.specs.MarkTree.{MarkTree, intersection_one, restriction_one}
use Rattle.tre_forms.specs.Begun.{EndsFrom}
use Rattle.tre_forms.specs.Dull.{None}
use Rattle.tre_forms.specs.Enters.{Enters}
use Rattle.tre_forms.proofs.Idle.{left_out_enters, nothing_enters}
use Rattle.tre_forms.proofs.Whole.{whole_restriction_enters, whole_intersection_enters}
use Rattle.tre_node.specs.declared.node.Around.{Around}
use Rattle.tre_node.specs.declared.node.Node.{Node, Meet', Within'}
use Rattle.tre_node.specs.IsNode.{IsMade, AreOuter, least_of}
use Rattle.tre_node.specs.NodeTree.{around_of, tree_of_node, mark_of_node, led_by}
use Rattle.tre_node.specs.HasEntered.{MayEnter, HasEntered, HaveBothEntered, LeadsIn}
use Rattle.tre_node.specs.Looked.{Looked}
use Rattle.tre_node.specs.Outer.{AreKept}
use Rattle.tre_node.proofs.Instances.{restriction_led, intersection_led, moments_cover_all, moments_are_instants, none_cover, all_moments, held_moments, instants_from, instants_all, enters_narrow}
use Rattle.tre_node.proofs.Parts.{looked_tells, none_from, sound_now}

led_whole : (whole : Bool) (outer : List ZoneBounds) → whole ≡ true
    → led_by whole outer ≡ instants_of 0 TIME_MAX ∷ []
led_whole true outer is = refl
led_whole false outer is = absurd (false≢true is)

led_kept : (whole : Bool) (outer : List ZoneBounds) → whole ≡ false → led_by whole outer ≡ outer
led_kept false outer is = refl
led_kept true outer is = absurd (false≢true (sym is))

-- A part that only moments enter.
part_enters : (longest : Option ℕ) (piece : Piece) (fed : List ZoneBounds) (mark : MarkTree)
    (part part' : Node) → IsMade longest true (around_of part) → Looked piece mark part
    → HasEntered piece fed part part' → IsInstant (Held fed) → EndsFrom longest piece.begin (Held fed)
    → Enters longest piece mark (tree_of_node part) (Held fed)
    (mark_of_node (end_of_piece piece) part')
part_enters longest piece fed mark part part' made x h instant from =
    subst (λ z. Enters z piece mark (tree_of_node part) (Held fed)
    (mark_of_node (end_of_piece piece) part')) made.counts
    (h.goes mark x (record {
      from = subst (λ z. EndsFrom z piece.begin (Held fed)) (sym made.counts) from;
      moments = λ whole. instant;
    }))

moments_from : (longest : Option ℕ) (piece : Piece)
    → EndsFrom longest piece.begin (Held (instants_of piece.begin (end_of_piece piece) ∷ []))
moments_from longest piece = record {
  from = λ a b n some short h.
      let is = (held_moments piece.begin (end_of_piece piece) a b n some).0 h in
      let eq = is.same in
      let begin = is.starts in
      omega (arith, eq, begin);
}

kept_itself : (reach : Option ℕ) (time : ℕ) (outer : List ZoneBounds)
    → AreKept reach time (Either (Held outer) (Before time None)) outer
kept_itself reach time outer = record {
  sound = λ a m n some h. inl h;
  kept = λ a m b n some h le late last. ⊎_elim (λ x. x) (λ x. absurd x.related) h;
}

none_ordered : IsOrdered None
none_ordered = record { le = λ a b n h. absurd h }

none_ends : (longest : Option ℕ) (time : ℕ) → EndsFrom longest time None
none_ends longest time = record { from = λ a b n some short h. absurd h }

no_held : (fed : List ZoneBounds) → fed ≡ [] → (a b n : ℕ) → Held fed a b n → ⊥
no_held fed none a b n h = Held-empty a b n (subst (λ z. Held z a b n) none h)

no_instants : (fed : List ZoneBounds) → fed ≡ [] → IsInstant (Held fed)
no_instants fed none = record { same = λ a b n h. absurd (no_held fed none a b n h) }

made_then : (longest : Option ℕ) (whole : Bool) (part part' : Around) → IsMade longest whole part
    → IsMade part.longest part.whole part' → IsMade longest whole part'
made_then longest whole part part' b c = record {
  counts = c.counts ∙ b.counts;
  enters = c.enters ∙ b.enters;
}

-- What leads on ended before the end of the piece, and is in reach.
outer_led : (piece : Piece) (reach : Option ℕ) (lives : Bool)
    (entering outer outer' fed : List ZoneBounds)
    → LeadsIn piece reach lives entering outer outer' fed
    → AreOuter (end_of_piece piece) reach outer → AreOuter (end_of_piece piece) reach outer'
outer_led piece reach lives entering outer outer' fed l are = record {
  before = λ a b n some h. ⊎_elim
      (λ on. ⊎_elim (λ o. are.before a b n some o) (λ e. e.early) (on.1.sound a b n some h))
      (λ idle. are.before a b n some (subst (λ z. Held z a b n) idle.1 h)) l.how;
  recent = l.reached are.recent;
}

-- ---- restrictions

abbrev pub RestrictionGo : Piece → List ZoneBounds → Node → Node → Type 0
RestrictionGo piece entering (Within' around reach interval outer most box body)
    (Within' around' reach' interval' outer' most' box' body') =
    IsMade around.longest around.whole around' × (interval' ≡ interval)
    × (((around.whole ≡ true) × HasEntered piece entering body body' × (outer'.items ≡ outer.items))
    ⊎ ((around.whole ≡ false) × ((fed : List ZoneBounds)
    × LeadsIn piece reach around.lives entering outer.items outer'.items fed
    × HasEntered piece fed body body')))
    × (around'.busy ≡ true) × (reach' ≡ reach)
RestrictionGo piece entering before after = ⊥

restriction_on : (piece : Piece) (entering : List ZoneBounds) (before after : Node)
    → RestrictionGo piece entering before after → (old : MarkTree) → Looked piece old before
    → MayEnter piece.begin (around_of before) (Held entering)
    → Enters (around_of before).longest piece old (tree_of_node before) (Held entering)
    (mark_of_node (end_of_piece piece) after)
restriction_on piece entering (Within' around reach interval outer most box body)
    (Within' around' reach' interval' outer' most' box' body') h (restriction_one to outer0 mark) x may =
    let T' = end_of_piece piece in
    let tree = tree_of_node body in
    let mark' = mark_of_node T' body' in
    let L = around.longest in
    let all = instants_of 0 TIME_MAX ∷ [] in
    let moments = instants_of piece.begin T' ∷ [] in
    let began = (looked_tells piece mark body x.4).began in
    ⊎_elim
    (λ w.
    let instant = may.moments w.0 in
    subst (λ z. Enters L piece (restriction_one to z mark) (restriction tree interval) (Held entering)
    (restriction_one 0 (led_by around'.whole outer'.items) mark')) (sym (x.3.all w.0))
    (subst (λ z. Enters L piece (restriction_one to all mark) (restriction tree interval) (Held entering)
    (restriction_one 0 z mark')) (sym (led_whole around'.whole outer'.items (h.0.enters ∙ w.0)))
    (whole_restriction_enters L reach piece all (all_moments piece) (Held entering) instant
    (Scales-Held entering) to 0 mark mark' tree interval x.1.counts
    (part_enters reach piece entering mark body body' x.2 x.4 w.1 instant
    (instants_from L reach piece.begin (Held entering) instant may.from)))))
    (λ w.
    let fed = w.1.0 in
    let led = x.3.kept w.0 in
    subst (λ z. Enters L piece (restriction_one to outer0 mark) (restriction tree interval)
    (Held entering) (restriction_one 0 z mark'))
    (sym (led_kept around'.whole outer'.items (h.0.enters ∙ w.0)))
    (⊎_elim
    (λ on.
    let entered = subst (λ z. HasEntered piece z body body') on.0 w.1.2 in
    restriction_led L reach piece outer0 outer.items outer'.items (Held entering) (Held moments)
    (IsOrdered-Held entering) (moments_cover_all piece (Held entering)) (Scales-Held moments)
    may.from on.1 to 0 mark mark' tree interval x.1 led began
    (part_enters reach piece moments mark body body' x.2 x.4 entered
    (moments_are_instants piece.begin T') (moments_from reach piece)))
    (λ idle.
    let alone = subst (λ z. Enters L piece (restriction_one to outer0 mark) (restriction tree interval)
    None (restriction_one 0 z mark')) (sym idle.1)
    (restriction_led L reach piece outer0 outer.items outer.items None (Held fed) none_ordered
    (none_cover piece (Held fed) (no_held fed idle.0)) (Scales-Held fed)
    (none_ends L piece.begin) (kept_itself reach T' outer.items) to 0 mark mark' tree interval x.1 led
    began (part_enters reach piece fed mark body body' x.2 x.4 w.1.2 (no_instants fed idle.0)
    (none_from reach piece.begin fed idle.0))) in
    ⊎_elim
    (λ dull. left_out_enters L piece (restriction_one to outer0 mark)
    (restriction_one 0 outer'.items mark') (restriction tree interval) (Held entering) alone
    (x.0.dull dull))
    (λ none. nothing_enters L piece (restriction_one to outer0 mark)
    (restriction_one 0 outer'.items mark') (restriction tree interval) (Held entering) alone
    (λ a b n some e. no_held entering none a b n e)) idle.2)
    w.1.1.how)) h.2
restriction_on piece entering (Within' around reach interval outer most box body)
    (Within' around' reach' interval' outer' most' box' body') h old x may = absurd x
restriction_on piece entering before after h old x may = absurd h

pub restriction_entered : (piece : Piece) (entering : List ZoneBounds) (before after : Node)
    → RestrictionGo piece entering before after → HasEntered piece entering before after
restriction_entered piece entering (Within' around reach interval outer most box body)
    (Within' around' reach' interval' outer' most' box' body') h = record {
      tree = ap (λ t. restriction t interval')
          (⊎_elim (λ w. w.1.tree) (λ w. w.1.2.tree) h.2)
          ∙ ap (λ i. restriction (tree_of_node body) i) h.1;
      made = h.0;
      node = λ n.
          let T' = end_of_piece piece in (
            sound_now around around' (Within' around' reach' interval' outer' most' box' body') refl h.0
                n.0.limit h.3,
            h.4 ∙ n.1 ∙ ap (λ l. least_of l interval.high) (sym h.0.counts)
                ∙ ap (λ i. least_of around'.longest i.high) (sym h.1),
            subst (λ r. IsMade r true (around_of body')) (sym h.4)
                (made_then reach true (around_of body) (around_of body') n.2
                (⊎_elim (λ w. w.1.made) (λ w. w.1.2.made) h.2)),
            subst (λ r. AreOuter T' r outer'.items) (sym h.4)
                (⊎_elim (λ w. subst (λ list. AreOuter T' reach list) (sym w.2) n.3)
                (λ w. outer_led piece reach around.lives entering outer.items
                outer'.items w.1.0 w.1.1 n.3) h.2),
            ⊎_elim (λ w. w.1.node n.4) (λ w. w.1.2.node n.4) h.2,
          );
      goes = restriction_on piece entering (Within' around reach interval outer most box body)
          (Within' around' reach' interval' outer' most' box' body') h;
    }
restriction_entered piece entering before after h = absurd h

-- ---- intersections

abbrev pub IntersectionGo : Piece → List ZoneBounds → Node → Node → Type 0
IntersectionGo piece entering (Meet' around reach outer most box left box' right)
    (Meet' around' reach' outer' most' box1 left' box1' right') =
    IsMade around.longest around.whole around'
    × (((around.whole ≡ true) × HaveBothEntered piece entering left left' right right'
    × (outer'.items ≡ outer.items))
    ⊎ ((around.whole ≡ false) × ((fed : List ZoneBounds)
    × LeadsIn piece reach around.lives entering outer.items outer'.items fed
    × HaveBothEntered piece fed left left' right right')))
    × (around'.busy ≡ true) × (reach' ≡ reach)
IntersectionGo piece entering before after = ⊥

intersection_on : (piece : Piece) (entering : List ZoneBounds) (before after : Node)
    → IntersectionGo piece entering before after → (old : MarkTree) → Looked piece old before
    → MayEnter piece.begin (around_of before) (Held entering)
    → Enters (around_of before).longest piece old (tree_of_node before) (Held entering)
    (mark_of_node (end_of_piece piece) after)
intersection_on piece entering (Meet' around reach outer most box left box' right)
    (Meet' around' reach' outer' most' box1 left' box1' right') h
    (intersection_one to outer0 one other) x may =
    let T' = end_of_piece piece in
    let L = around.longest in
    let tree = intersection (tree_of_node left) (tree_of_node right) in
    let one' = mark_of_node T' left' in
    let other' = mark_of_node T' right' in
    let all = instants_of 0 TIME_MAX ∷ [] in
    let moments = instants_of piece.begin T' ∷ [] in
    let began_one = (looked_tells piece one left x.4).began in
    let began_other = (looked_tells piece other right x.5).began in
    let counts : (d n : ℕ) → LastsUpTo L d n → LastsUpTo reach d n =
    λ d n short. x.1.counts d n short tt in
    ⊎_elim
    (λ w.
    let instant = may.moments w.0 in
    let from = instants_from L reach piece.begin (Held entering) instant may.from in
    subst (λ z. Enters L piece (intersection_one to z one other) tree (Held entering)
    (intersection_one 0 (led_by around'.whole outer'.items) one' other')) (sym (x.3.all w.0))
    (subst (λ z. Enters L piece (intersection_one to all one other) tree (Held entering)
    (intersection_one 0 z one' other')) (sym (led_whole around'.whole outer'.items (h.0.enters ∙ w.0)))
    (whole_intersection_enters L reach piece all (all_moments piece) (Held entering) instant
    (Scales-Held entering) to 0 one other one' other' (tree_of_node left) (tree_of_node right)
    (λ a b n some e. (instants_all L piece.begin (Held entering) instant may.from) a b n some e)
    began_one began_other
    (enters_narrow L reach piece one one' (tree_of_node left) (Held entering) counts
    (part_enters reach piece entering one left left' x.2.0 x.4 w.1.left instant from))
    (enters_narrow L reach piece other other' (tree_of_node right) (Held entering) counts
    (part_enters reach piece entering other right right' x.2.1 x.5 w.1.right instant from)))))
    (λ w.
    let fed = w.1.0 in
    let led = x.3.kept w.0 in
    subst (λ z. Enters L piece (intersection_one to outer0 one other) tree
    (Held entering) (intersection_one 0 z one' other'))
    (sym (led_kept around'.whole outer'.items (h.0.enters ∙ w.0)))
    (⊎_elim
    (λ on.
    let entered = subst (λ z. HaveBothEntered piece z left left' right right') on.0 w.1.2 in
    intersection_led L reach piece outer0 outer.items outer'.items (Held entering) (Held moments)
    (IsOrdered-Held entering) (moments_cover_all piece (Held entering)) (Scales-Held moments)
    may.from on.1 to 0 one other one' other' (tree_of_node left) (tree_of_node right) x.1 led
    (moments_are_instants piece.begin T') began_one began_other
    (part_enters reach piece moments one left left' x.2.0 x.4 entered.left
    (moments_are_instants piece.begin T') (moments_from reach piece))
    (part_enters reach piece moments other right right' x.2.1 x.5 entered.right
    (moments_are_instants piece.begin T') (moments_from reach piece)))
    (λ idle.
    let alone = subst (λ z. Enters L piece (intersection_one to outer0 one other) tree
    None (intersection_one 0 z one' other')) (sym idle.1)
    (intersection_led L reach piece outer0 outer.items outer.items None (Held fed) none_ordered
    (none_cover piece (Held fed) (no_held fed idle.0)) (Scales-Held fed)
    (none_ends L piece.begin) (kept_itself reach T' outer.items) to 0 one other one' other'
    (tree_of_node left) (tree_of_node right) x.1 led (no_instants fed idle.0) began_one began_other
    (part_enters reach piece fed one left left' x.2.0 x.4 w.1.2.left (no_instants fed idle.0)
    (none_from reach piece.begin fed idle.0))
    (part_enters reach piece fed other right right' x.2.1 x.5 w.1.2.right (no_instants fed idle.0)
    (none_from reach piece.begin fed idle.0))) in
    ⊎_elim
    (λ dull. left_out_enters L piece (intersection_one to outer0 one other)
    (intersection_one 0 outer'.items one' other') tree (Held entering) alone (x.0.dull dull))
    (λ none. nothing_enters L piece (intersection_one to outer0 one other)
    (intersection_one 0 outer'.items one' other') tree (Held entering) alone
    (λ a b n some e. no_held entering none a b n e)) idle.2)
    w.1.1.how)) h.1
intersection_on piece entering (Meet' around reach outer most box left box' right)
    (Meet' around' reach' outer' most' box1 left' box1' right') h old x may = absurd x
intersection_on piece entering before after h old x may = absurd h

pub intersection_entered : (piece : Piece) (entering : List ZoneBounds) (before after : Node)
    → IntersectionGo piece entering before after → HasEntered piece entering before after
intersection_entered piece entering (Meet' around reach outer most box left box' right)
    (Meet' around' reach' outer' most' box1 left' box1' right') h = record {
      tree = ap (λ t. intersection t (tree_of_node right'))
          (⊎_elim (λ w. w.1.left.tree) (λ w. w.1.2.left.tree) h.1)
          ∙ ap (λ t. intersection (tree_of_node left) t)
          (⊎_elim (λ w. w.1.right.tree) (λ w. w.1.2.right.tree) h.1);
      made = h.0;
      node = λ n.
          let T' = end_of_piece piece in (
            sound_now around around' (Meet' around' reach' outer' most' box1 left' box1' right') refl h.0
                n.0.limit h.2,
            h.3 ∙ n.1 ∙ sym h.0.counts,
            (
              subst (λ r. IsMade r true (around_of left')) (sym h.3)
                  (made_then reach true (around_of left) (around_of left') n.2.0
                  (⊎_elim (λ w. w.1.left.made) (λ w. w.1.2.left.made) h.1)),
              subst (λ r. IsMade r true (around_of right')) (sym h.3)
                  (made_then reach true (around_of right) (around_of right') n.2.1
                  (⊎_elim (λ w. w.1.right.made) (λ w. w.1.2.right.made) h.1)),
            ),
            subst (λ r. AreOuter T' r outer'.items) (sym h.3)
                (⊎_elim (λ w. subst (λ list. AreOuter T' reach list) (sym w.2) n.3)
                (λ w. outer_led piece reach around.lives entering outer.items
                outer'.items w.1.0 w.1.1 n.3) h.1),
            ⊎_elim (λ w. w.1.left.node n.4) (λ w. w.1.2.left.node n.4) h.1,
            ⊎_elim (λ w. w.1.right.node n.5) (λ w. w.1.2.right.node n.5) h.1,
          );
      goes = intersection_on piece entering (Meet' around reach outer most box left box' right)
          (Meet' around' reach' outer' most' box1 left' box1' right') h;
    }
intersection_entered piece entering before after h = absurd h

-- The same of parts under other names.
pub part_named : {piece : Piece} {entering entering' : List ZoneBounds} {part named part' : Node}
    → part ≡ named → entering ≡ entering' → HasEntered piece entering part part'
    → HasEntered piece entering' named part'
part_named {piece} {entering} {entering'} {part} {named} {part'} is same h =
    subst (λ n. HasEntered piece entering' n part') is
    (subst (λ e. HasEntered piece e part part') same h)

pub sides_named : {piece : Piece} {entering entering' : List ZoneBounds}
    {left named left' right named' right' : Node} → left ≡ named → right ≡ named'
    → entering ≡ entering' → HaveBothEntered piece entering left left' right right'
    → HaveBothEntered piece entering' named left' named' right'
sides_named {piece} {entering} {entering'} {left} {named} {left'} {right} {named'} {right'} l r same h =
    record {
      left = part_named l same h.left;
      right = part_named r same h.right;
      left_known = h.left_known;
      right_known = h.right_known;
    }
