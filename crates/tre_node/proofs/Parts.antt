-- The second part of a sequence is entered by what the first tells.
use Rattle.std.proofs.lemmas.Bool.{false≢true}
use Rattle.std.proofs.Common.{◌≡◌, ℕ, ◌*◌, ◌⊎◌, ◌∙◌, ap, false, true, refl, Bool, sym, Option, List, [], inl, ⊎_elim, subst}
use Rattle.tre_pairs.specs.Pairs.{Pairs, Composed, Either}
use Rattle.tre_zone.specs.Held.{Held, IsSetOf}
use Rattle.tre_zone.specs.Longest.{LastsUpTo, IsLongest}
use Rattle.tre_zone.specs.declared.zone_bounds.ZoneBounds.{ZoneBounds}
use Rattle.tre_zone.proofs.HeldSets.{Held-empty, Scales-Held, IsOrdered-Held}
use Rattle.tre_zone.proofs.Lasting.{LastsUpTo-downward, LastsUpTo-scales}
use Rattle.tre_syntax.specs.Meaning.{MatchesRest}
use Rattle.tre_syntax.specs.PatternTree.{PatternTree, sequence}
use Rattle.tre_syntax.proofs.CutMeaning.{IsOrdered-rest}
use Rattle.tre_edges.specs.Piece.{end_of_piece}
use Rattle.tre_edges.specs.declared.piece.Piece.{Piece}
use Rattle.tre_mark.specs.MarkTree.{MarkTree, sequence_mark}
use Rattle.tre_trace.specs.Trace.{quiet}
use Rattle.tre_mark.specs.Marked.{Marked}
use Rattle.tre_pairs.specs.Same.{Same}
use Rattle.tre_pairs.proofs.SameLaws.{same_refl, same_agree, same_trans, same_either, same_composed}
use Rattle.tre_forms.specs.Begun.{EndsFrom}
use Rattle.tre_forms.specs.Enters.{alone, GoesAlone, Enters}
use Rattle.tre_forms.proofs.Forms.{alone_ordered, sequence_enters, goes_from, same_from}
use Rattle.tre_forms.specs.Dull.{IsDullOver, None}
use Rattle.tre_forms.proofs.Idle.{left_out_enters}
use Rattle.tre_mark.specs.MarkTree.{atom_mark, alternation_mark, intersection_one, repetition_mark, restriction_one}
use Rattle.tre_node.specs.declared.node.Around.{Around}
use Rattle.tre_node.specs.declared.node.Node.{Node, Eps, Lit, Rise, Fall, Event, Seq', Alt', Meet', Star', Within'}
use Rattle.tre_node.specs.IsNode.{IsMade, IsSound}
use Rattle.tre_node.specs.NodeTree.{around_of, tree_of_node, mark_of_node}
use Rattle.tre_node.specs.HasEntered.{MayEnter, HasEntered, HaveEntered}
use Rattle.tre_node.specs.Looked.{Tells, Looked}

-- Of a list with no pair, nothing enters.
pub enters_none : (longest : Option ℕ) (piece : Piece) (old new : MarkTree) (tree : PatternTree)
    (zones : List ZoneBounds) → zones ≡ [] → Enters longest piece old tree (Held zones) new
    → Enters longest piece old tree None new
enters_none longest piece old new tree zones none x = record {
  leaves = λ next long. record {
    at = λ a b n some short. (
      (λ h.
          let c = ((x.leaves next long).at a b n some short).0 h in
          record {
            related = ⊎_elim (λ m. inl m)
                (λ e. absurd (Held-empty (e.factor * a) e.midpoint (e.factor * n)
                (subst (λ z. Held z (e.factor * a) e.midpoint (e.factor * n)) none e.left.related)))
                c.related;
            begin = c.begin;
            end = c.end;
          }),
      (λ c. ((x.leaves next long).at a b n some short).1 (record {
        related = ⊎_elim (λ m. inl m) (λ e. absurd e.left.related) c.related;
        begin = c.begin;
        end = c.end;
      })),
    );
  };
}

module _ (longest : Option ℕ) (piece : Piece) (one other one' other' : MarkTree)
    (left right : PatternTree) (inside ended entering mid : List ZoneBounds)
    (insides : IsSetOf inside (MatchesRest left (alone piece)))
    (endeds : Same (LastsUpTo longest) (Held ended) (Marked (alone piece) one left))
    (x : Enters longest piece one left (Held entering) one') where
  abbrev D : ℕ → ℕ → Type 0
  D = LastsUpTo longest

  abbrev E : Pairs
  E = Held entering

  -- What the first part tells.
  pub fed_by : IsSetOf mid (Either (Held ended) (Composed E (Held inside)))
      → Same D (Held mid) (GoesAlone piece one left E)
  fed_by set = same_trans D (Held mid) (Either (Held ended) (Composed E (Held inside)))
      (GoesAlone piece one left E)
      (same_agree D (Held mid) (Either (Held ended) (Composed E (Held inside)))
      (record { at = set.pairs }))
      (same_either D (Held ended) (Marked (alone piece) one left) (Composed E (Held inside))
      (Composed E (MatchesRest left (alone piece))) endeds
      (same_composed D (LastsUpTo-downward longest) (LastsUpTo-scales longest) E E (Held inside)
      (MatchesRest left (alone piece)) (IsOrdered-Held entering) (IsOrdered-Held entering)
      (IsOrdered-Held inside) (IsOrdered-rest left (alone piece)) (same_refl D E)
      (same_agree D (Held inside) (MatchesRest left (alone piece)) (record { at = insides.pairs }))))

  pub fed_from : IsSetOf mid (Either (Held ended) (Composed E (Held inside)))
      → EndsFrom longest piece.begin (Held mid)
  fed_from set = same_from longest piece.begin (GoesAlone piece one left E) (Held mid) (fed_by set)
      (goes_from longest piece one left E)

  pub parts_live : IsSetOf mid (Either (Held ended) (Composed E (Held inside)))
      → Enters longest piece other right (Held mid) other'
      → Enters longest piece (sequence_mark one other) (sequence left right) E
      (sequence_mark one' other')
  parts_live set y = sequence_enters longest piece one other one' other' left right E (Held mid)
      (Scales-Held entering) (IsOrdered-Held entering) (IsOrdered-Held mid) (fed_by set) x y

  pub parts_dull : mid ≡ [] → IsDullOver piece right
      → Enters longest piece other right (Held mid) other'
      → Enters longest piece (sequence_mark one other) (sequence left right) E
      (sequence_mark one' other')
  parts_dull none dull y =
      sequence_enters longest piece one other one' other' left right E (GoesAlone piece one left E)
      (Scales-Held entering) (IsOrdered-Held entering)
      (alone_ordered piece one left E (IsOrdered-Held entering) (quiet []))
      (same_refl D (GoesAlone piece one left E)) x
      (left_out_enters longest piece other other' right (GoesAlone piece one left E)
      (enters_none longest piece other other' right mid none y) dull)

pub none_from : (longest : Option ℕ) (time : ℕ) (zones : List ZoneBounds) → zones ≡ []
    → EndsFrom longest time (Held zones)
none_from longest time zones none = record {
  from = λ a b n some short h.
      absurd (Held-empty a b n (subst (λ z. Held z a b n) none h));
}

pub looked_tells : (piece : Piece) (old : MarkTree) (node : Node) → Looked piece old node
    → Tells piece old (tree_of_node node) (around_of node)
looked_tells piece (atom_mark here begun) (Lit around state begun') h = h.0
looked_tells piece (atom_mark here begun) (Eps around) h = h.0
looked_tells piece (atom_mark here begun) (Rise around state) h = h.0
looked_tells piece (atom_mark here begun) (Fall around state) h = h.0
looked_tells piece (atom_mark here begun) (Event around number) h = h.0
looked_tells piece (sequence_mark one other) (Seq' around box left box' right) h = h.0
looked_tells piece (alternation_mark one other) (Alt' around box left box' right) h = h.0
looked_tells piece (intersection_one to outer one other)
    (Meet' around reach outer' most box left box' right) h = h.0
looked_tells piece (repetition_mark here body) (Star' around box node) h = h.0
looked_tells piece (restriction_one to outer body)
    (Within' around reach interval outer' most box node) h = h.0
looked_tells piece old node h = absurd h

-- Both parts have gone on: the second was entered by what the first tells, or by nothing where
-- nothing lives in it.
module _ (piece : Piece) (one other : MarkTree) (left left' right right' : Node)
    (entering mid : List ZoneBounds)
    (eq : (around_of left).longest ≡ (around_of right).longest)
    (not_whole : (around_of right).whole ≡ false)
    (x : Looked piece one left) (y : Looked piece other right)
    (l : HasEntered piece entering left left') (r : HasEntered piece mid right right')
    (may : MayEnter piece.begin (around_of left) (Held entering)) where
  abbrev longest : Option ℕ
  longest = (around_of left).longest

  abbrev tells : Tells piece one (tree_of_node left) (around_of left)
  tells = looked_tells piece one left x

  abbrev first : Enters longest piece one (tree_of_node left) (Held entering)
      (mark_of_node (end_of_piece piece) left')
  first = l.goes one x may

  second : EndsFrom longest piece.begin (Held mid)
      → Enters longest piece other (tree_of_node right) (Held mid)
      (mark_of_node (end_of_piece piece) right')
  second begins = subst
      (λ (z : Option ℕ). Enters z piece other (tree_of_node right) (Held mid)
      (mark_of_node (end_of_piece piece) right')) (sym eq)
      (r.goes other y (record {
        from = subst (λ (z : Option ℕ). EndsFrom z piece.begin (Held mid)) eq begins;
        moments = λ whole. absurd (false≢true (sym not_whole ∙ whole));
      }))

  pub parts_go :
      IsSetOf mid (Either (Held (around_of left).ended.items)
      (Composed (Held entering) (Held (around_of left).inside.items)))
      ⊎ ((mid ≡ []) × ((around_of right).lives ≡ false))
      → Enters longest piece (sequence_mark one other)
      (sequence (tree_of_node left) (tree_of_node right)) (Held entering)
      (sequence_mark (mark_of_node (end_of_piece piece) left')
      (mark_of_node (end_of_piece piece) right'))
  parts_go fed = ⊎_elim
      (λ set. parts_live longest piece one other (mark_of_node (end_of_piece piece) left')
      (mark_of_node (end_of_piece piece) right') (tree_of_node left) (tree_of_node right)
      (around_of left).inside.items (around_of left).ended.items entering mid tells.inside
      tells.ended first set
      (second (fed_from longest piece one other (mark_of_node (end_of_piece piece) left')
      (mark_of_node (end_of_piece piece) right') (tree_of_node left) (tree_of_node right)
      (around_of left).inside.items (around_of left).ended.items entering mid tells.inside
      tells.ended first set)))
      (λ idle. parts_dull longest piece one other (mark_of_node (end_of_piece piece) left')
      (mark_of_node (end_of_piece piece) right') (tree_of_node left) (tree_of_node right)
      (around_of left).inside.items (around_of left).ended.items entering mid tells.inside
      tells.ended first idle.0 ((looked_tells piece other right y).dull idle.1)
      (second (none_from longest piece.begin mid idle.0)))
      fed

-- The same set under other names of its lists.
pub set_by : {mid mid' ended ended' inside inside' entering : List ZoneBounds} → mid ≡ mid'
    → ended' ≡ ended → inside' ≡ inside
    → IsSetOf mid' (Either (Held ended') (Composed (Held entering) (Held inside')))
    → IsSetOf mid (Either (Held ended) (Composed (Held entering) (Held inside)))
set_by {mid} {mid'} {ended} {ended'} {inside} {inside'} {entering} m e i h =
    subst (λ z. IsSetOf z (Either (Held ended) (Composed (Held entering) (Held inside)))) (sym m)
    (subst (λ z. IsSetOf mid' (Either (Held z) (Composed (Held entering) (Held inside)))) e
    (subst (λ z. IsSetOf mid' (Either (Held ended') (Composed (Held entering) (Held z)))) i h))

-- What was made for a node is so for the node that it becomes.
pub sound_now : (around around' : Around) (node : Node) → around_of node ≡ around'
    → IsMade around.longest around.whole around' → IsLongest around.longest → around'.busy ≡ true
    → IsSound node
sound_now around around' node is made limit busy = record {
  limit = subst IsLongest (sym (ap (λ a. a.longest) is ∙ made.counts)) limit;
  idle = λ off. absurd (false≢true (sym off ∙ ap (λ a. a.busy) is ∙ busy));
}

pub made_part : (around around' part part' : Around) (whole : Bool)
    → IsMade around.longest around.whole around' → IsMade around.longest whole part
    → IsMade part.longest part.whole part' → IsMade around'.longest whole part'
made_part around around' part part' whole a b c = record {
  counts = c.counts ∙ b.counts ∙ sym a.counts;
  enters = c.enters ∙ b.enters;
}

pub made_whole : (around around' part part' : Around)
    → IsMade around.longest around.whole around' → IsMade around.longest around.whole part
    → IsMade part.longest part.whole part' → IsMade around'.longest around'.whole part'
made_whole around around' part part' a b c = record {
  counts = c.counts ∙ b.counts ∙ sym a.counts;
  enters = c.enters ∙ b.enters ∙ sym a.enters;
}

-- What has to be shown of two nodes that are sequences, of their parts.
abbrev pub PartsGo : Piece → List ZoneBounds → Node → Node → Type 0
PartsGo piece entering (Seq' around box left box' right) (Seq' around' box1 left' box1' right') =
    IsMade around.longest around.whole around' × HaveEntered piece entering left left' right right'
    × (around'.busy ≡ true)
PartsGo piece entering before after = ⊥

sequence_goes_on : (piece : Piece) (entering : List ZoneBounds) (before after : Node)
    → PartsGo piece entering before after → (old : MarkTree) → Looked piece old before
    → MayEnter piece.begin (around_of before) (Held entering)
    → Enters (around_of before).longest piece old (tree_of_node before) (Held entering)
    (mark_of_node (end_of_piece piece) after)
sequence_goes_on piece entering (Seq' around box left box' right)
    (Seq' around' box1 left' box1' right') h (sequence_mark one other) x may =
    let same = x.1.0.counts in
    subst (λ (z : Option ℕ). Enters z piece (sequence_mark one other)
    (sequence (tree_of_node left) (tree_of_node right)) (Held entering)
    (sequence_mark (mark_of_node (end_of_piece piece) left')
    (mark_of_node (end_of_piece piece) right'))) same
    (h.1.goes one other x.2 x.3 (same ∙ sym x.1.1.counts) x.1.1.enters (record {
      from = subst (λ (z : Option ℕ). EndsFrom z piece.begin (Held entering)) (sym same) may.from;
      moments = λ whole. may.moments (sym x.1.0.enters ∙ whole);
    }))
sequence_goes_on piece entering (Seq' around box left box' right)
    (Seq' around' box1 left' box1' right') h old x may = absurd x
sequence_goes_on piece entering before after h old x may = absurd h

pub sequence_entered : (piece : Piece) (entering : List ZoneBounds) (before after : Node)
    → PartsGo piece entering before after → HasEntered piece entering before after
sequence_entered piece entering (Seq' around box left box' right)
    (Seq' around' box1 left' box1' right') h = record {
      tree = ap (λ t. sequence t (tree_of_node right')) h.1.left_tree
          ∙ ap (λ t. sequence (tree_of_node left) t) h.1.right_tree;
      made = h.0;
      node = λ n. (
        sound_now around around' (Seq' around' box1 left' box1' right') refl h.0 n.0.limit h.2,
        (
          made_whole around around' (around_of left) (around_of left') h.0 n.1.0 h.1.left_made,
          made_part around around' (around_of right) (around_of right') false h.0 n.1.1
              h.1.right_made,
        ),
        h.1.left_node n.2,
        h.1.right_node n.3,
      );
      goes = sequence_goes_on piece entering (Seq' around box left box' right)
          (Seq' around' box1 left' box1' right') h;
    }
sequence_entered piece entering before after h = absurd h

-- The same of parts under other names.
pub parts_named : {piece : Piece} {entering : List ZoneBounds} {left named left' right named' right' : Node}
    → left ≡ named → right ≡ named' → HaveEntered piece entering left left' right right'
    → HaveEntered piece entering named left' named' right'
parts_named {piece} {entering} {left} {named} {left'} {right} {named'} {right'} l r h =
    subst (λ n. HaveEntered piece entering n left' named' right') l
    (subst (λ n. HaveEntered piece entering left left' n right') r h)

pub sequence_entered_by : {piece : Piece} {entering : List ZoneBounds} {node before after : Node}
    → node ≡ before → PartsGo piece entering before after → HasEntered piece entering node after
sequence_entered_by {piece} {entering} {node} {before} {after} is h =
    subst (λ n. HasEntered piece entering n after) (sym is)
    (sequence_entered piece entering before after h)
