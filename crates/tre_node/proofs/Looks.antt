-- A node was looked at where its parts were.
use Rattle.std.proofs.Common.{◌≡◌, ◌∙◌, ℕ, ◌⊎◌, List, [], Option, Bool, false, refl, sym, subst, arith}
use Rattle.tre_pairs.specs.Pairs.{Composed, Either, Chain}
use Rattle.tre_pairs.proofs.Laws.{IsInstant}
use Rattle.tre_zone.specs.Held.{Held, IsSetOf}
use Rattle.tre_zone.specs.Longest.{IsLongest}
use Rattle.tre_zone.specs.Zone.{GivesZone, IsInstantBetween}
use Rattle.tre_zone.specs.declared.zone_bounds.ZoneBounds.{ZoneBounds}
use Rattle.tre_zoneset.proofs.Unions.{FoundHolds-exact}
use Rattle.tre_state.specs.State.{tree_of}
use Rattle.tre_state.specs.declared.state.State.{State}
use Rattle.tre_trace.specs.Trace.{Timeline}
use Rattle.tre_syntax.specs.Meaning.{MatchesRest}
use Rattle.tre_syntax.specs.PatternTree.{Atom, PatternTree, empty, rise, fall, event, atom}
use Rattle.tre_syntax.specs.Rest.{Rest, AtomMatches}
use Rattle.tre_syntax.proofs.CutMeaning.{IsBounded-rest, IsOrdered-rest}
use Rattle.tre_edges.specs.Piece.{end_of_piece}
use Rattle.tre_edges.specs.declared.piece.Piece.{Piece}
use Rattle.tre_mark.specs.MarkTree.{MarkTree, atom_mark}
use Rattle.tre_mark.specs.Marked.{EndBetween}
use Rattle.tre_forms.specs.Enters.{over, alone}
use Rattle.tre_node.specs.declared.node.Around.{Around}
use Rattle.tre_node.specs.declared.node.Node.{Node, Eps, Lit, Rise, Fall, Event, Seq', Alt', Meet', Star', Within'}
use Rattle.tre_node.specs.IsNode.{IsIdle, IsMade, IsNode, IsSound}
use Rattle.tre_node.specs.Looked.{HasLooked, Tells, Told}
use Rattle.tre_node.specs.NodeTree.{around_of, mark_of_node, tree_of_node}
use Rattle.tre_node.specs.Telling.{AlternationLooks, Puts, PutsFound, RepetitionLooks, SequenceLooks}
use Rattle.tre_node.proofs.FormsTold.{alternation_told, instant_told, repetition_told, sequence_told}
use Rattle.tre_node.proofs.Parts.{looked_tells}
use Rattle.tre_node.proofs.SetsOf.{set_exact}

-- Of an atom.
pub instant_inside : (rest : Rest) (x : Atom) (zone : Option ZoneBounds) (around around' : Around)
    → GivesZone zone (AtomMatches rest x) → PutsFound zone around around'
    → IsSetOf around'.inside.items (MatchesRest (atom x) rest)
instant_inside rest x zone around around' gives puts =
    set_exact around'.inside.items (MatchesRest (atom x) rest) (IsOrdered-rest (atom x) rest)
    (record {
      exact = λ a b n some le.
          let one = puts.found.exact a b n some le in
          let two = FoundHolds-exact zone (AtomMatches rest x) gives a b n some le in
          ((λ h. two.0 (one.0 h)), (λ h. one.1 (two.1 h)));
    })

pub node_sound : (time : ℕ) (node : Node) → IsNode time node → IsSound node
node_sound time (Eps around) h = h
node_sound time (Lit around state begun) h = h.0
node_sound time (Rise around state) h = h.0
node_sound time (Fall around state) h = h.0
node_sound time (Event around number) h = h.0
node_sound time (Seq' around box left box' right) h = h.0
node_sound time (Alt' around box left box' right) h = h.0
node_sound time (Meet' around reach outer most box left box' right) h = h.0
node_sound time (Star' around box body) h = h.0
node_sound time (Within' around reach interval outer most box body) h = h.0

pub limit_kept : {longest : Option ℕ} {whole : Bool} {around : Around} → IsLongest longest
    → IsMade longest whole around → IsLongest around.longest
limit_kept limit made = subst (λ z. IsLongest z) (sym made.counts) limit

-- A part stays what it was made for.
pub made_for : {longest longest' : Option ℕ} {whole whole' : Bool} {part part' : Around}
    → IsMade longest whole part → IsMade part.longest part.whole part' → longest' ≡ longest
    → whole' ≡ whole → IsMade longest' whole' part'
made_for old new same same' = record {
  counts = new.counts ∙ old.counts ∙ sym same;
  enters = new.enters ∙ old.enters ∙ sym same';
}

-- What a part tells, up to the longest duration that counts around it.
pub part_told : {longest : Option ℕ} {piece : Piece} {node node' : Node}
    → HasLooked piece node node' → (around_of node).longest ≡ longest
    → Told longest piece (mark_of_node piece.begin node) (tree_of_node node)
    (around_of node').inside.items (around_of node').ended.items (around_of node').lives
part_told {longest} {piece} {node} {node'} h same =
    subst (λ (t : PatternTree). Told longest piece (mark_of_node piece.begin node) t
    (around_of node').inside.items (around_of node').ended.items (around_of node').lives) h.tree
    (subst (λ (z : Option ℕ). Told z piece (mark_of_node piece.begin node) (tree_of_node node')
    (around_of node').inside.items (around_of node').ended.items (around_of node').lives)
    (h.made.counts ∙ same)
    (looked_tells piece (mark_of_node piece.begin node) node' h.looked))

pub part_idle : {piece : Piece} {node node' : Node} → HasLooked piece node node'
    → (around_of node').busy ≡ false → IsIdle node'
part_idle {piece} {node} {node'} h off =
    (node_sound (end_of_piece piece) node' h.node).idle off

-- What was put into the lists around a node.
pub tells_with : {longest : Option ℕ} {whole : Bool} {piece : Piece} {old : MarkTree}
    {tree : PatternTree} {around : Around} → IsMade longest whole around
    → Told longest piece old tree around.inside.items around.ended.items around.lives
    → Tells piece old tree around
tells_with {longest} {whole} {piece} {old} {tree} {around} made told =
    subst (λ (z : Option ℕ). Told z piece old tree around.inside.items around.ended.items
    around.lives) (sym made.counts) told

module _ (piece : Piece) (around around' : Around) (left left' right right' : Node)
    (f : HasLooked piece left left') (g : HasLooked piece right right')
    (same1 : (around_of left).longest ≡ around.longest)
    (same2 : (around_of right).longest ≡ around.longest) where
  abbrev one : Around
  one = around_of left'

  abbrev other : Around
  other = around_of right'

  abbrev T : ℕ
  T = piece.begin

  pub sequence_looks :
      Puts (Composed (Held one.inside.items) (Held other.inside.items))
      (Either (Held other.ended.items) (Composed (Held one.ended.items) (Held other.inside.items)))
      ((one.lives ≡ false) × ((other.lives ≡ false) ⊎ (one.inside.items ≡ [])))
      ((one.busy ≡ false) × (other.busy ≡ false)) around around'
      → SequenceLooks piece around around' left left' right right'
  sequence_looks puts = record {
    made = puts.made;
    tells = tells_with puts.made (sequence_told around.longest piece (mark_of_node T left)
        (mark_of_node T right) (tree_of_node left) (tree_of_node right) one.inside.items
        one.ended.items other.inside.items other.ended.items one.lives other.lives
        (part_told f same1) (part_told g same2) around'.inside.items around'.ended.items
        around'.lives puts.found puts.told puts.lives);
    idle = λ off. (part_idle f (puts.busy off).0, part_idle g (puts.busy off).1);
    one = f;
    other = g;
  }

  pub alternation_looks :
      Puts (Either (Held one.inside.items) (Held other.inside.items))
      (Either (Held one.ended.items) (Held other.ended.items))
      ((one.lives ≡ false) × (other.lives ≡ false)) ((one.busy ≡ false) × (other.busy ≡ false))
      around around' → AlternationLooks piece around around' left left' right right'
  alternation_looks puts = record {
    made = puts.made;
    tells = tells_with puts.made (alternation_told around.longest piece (mark_of_node T left)
        (mark_of_node T right) (tree_of_node left) (tree_of_node right) one.inside.items
        one.ended.items other.inside.items other.ended.items one.lives other.lives
        (part_told f same1) (part_told g same2) around'.inside.items around'.ended.items
        around'.lives puts.found puts.told puts.lives);
    idle = λ off. (part_idle f (puts.busy off).0, part_idle g (puts.busy off).1);
    one = f;
    other = g;
  }

pub steps_between : (piece : Piece) (tree : PatternTree) (zones : List ZoneBounds)
    → IsSetOf zones (MatchesRest tree (alone piece))
    → EndBetween piece.begin (end_of_piece piece) zones
steps_between piece tree zones set = record {
  begin = λ a b n some h.
      let x = (set.pairs a b n some).0 h in
      let begin = (IsBounded-rest tree (alone piece)).begin a b n x in
      let rising = (IsOrdered-rest tree (alone piece)).le a b n x in
      omega (arith, begin, rising);
  end = λ a b n some h.
      (IsBounded-rest tree (alone piece)).end a b n ((set.pairs a b n some).0 h);
}

pub part_between : {piece : Piece} {node node' : Node} → HasLooked piece node node'
    → EndBetween piece.begin (end_of_piece piece) (around_of node').inside.items
part_between {piece} {node} {node'} h =
    steps_between piece (tree_of_node node') (around_of node').inside.items
    (looked_tells piece (mark_of_node piece.begin node) node' h.looked).inside

pub repetition_looks : (piece : Piece) (around around' : Around) (body body' : Node)
    → HasLooked piece body body' → (around_of body).longest ≡ around.longest
    → Puts (Chain (Held (around_of body').inside.items)
    (IsInstantBetween piece.begin (end_of_piece piece)))
    (Composed (Held (around_of body').ended.items) (Held around'.inside.items))
    ((around_of body').lives ≡ false) ((around_of body').busy ≡ false) around around'
    → RepetitionLooks piece around around' body body'
repetition_looks piece around around' body body' f same puts = record {
  made = puts.made;
  tells = tells_with puts.made (repetition_told around.longest piece
      (mark_of_node piece.begin body) (tree_of_node body) (around_of body').inside.items
      (around_of body').ended.items (around_of body').lives (part_told f same)
      around'.inside.items around'.ended.items around'.lives puts.found puts.told puts.lives);
  idle = λ off. part_idle f (puts.busy off);
  inner = f;
}

-- The parts under other names.
pub sequence_named : {piece : Piece} {around around' : Around}
    {left named left' right named' right' : Node} → left ≡ named → right ≡ named'
    → SequenceLooks piece around around' left left' right right'
    → SequenceLooks piece around around' named left' named' right'
sequence_named {piece} {around} {around'} {left} {named} {left'} {right} {named'} {right'} l r h =
    subst (λ (n : Node). SequenceLooks piece around around' n left' named' right') l
    (subst (λ (n : Node). SequenceLooks piece around around' left left' n right') r h)

pub alternation_named : {piece : Piece} {around around' : Around}
    {left named left' right named' right' : Node} → left ≡ named → right ≡ named'
    → AlternationLooks piece around around' left left' right right'
    → AlternationLooks piece around around' named left' named' right'
alternation_named {piece} {around} {around'} {left} {named} {left'} {right} {named'} {right'} l r h =
    subst (λ (n : Node). AlternationLooks piece around around' n left' named' right') l
    (subst (λ (n : Node). AlternationLooks piece around around' left left' n right') r h)

pub repetition_named : {piece : Piece} {around around' : Around} {body named body' : Node}
    → body ≡ named → RepetitionLooks piece around around' body body'
    → RepetitionLooks piece around around' named body'
repetition_named {piece} {around} {around'} {body} {named} {body'} l h =
    subst (λ (n : Node). RepetitionLooks piece around around' n body') l h

-- ---- atoms that last no time

module _ (piece : Piece) (around around' : Around) (zone : Option ZoneBounds)
    (puts : PutsFound zone around around') where
  instant_tells : (x : Atom) → GivesZone zone (AtomMatches (alone piece) x)
      → ((next : Timeline) → IsInstant (MatchesRest (atom x) (over piece next)))
      → Tells piece (atom_mark [] []) (atom x) around'
  instant_tells x gives instant = instant_told around'.longest piece x around'.inside.items
      around'.ended.items around'.lives (instant_inside (alone piece) x zone around around' gives puts)
      puts.none instant

  pub empty_looked : IsNode piece.begin (Eps around)
      → GivesZone zone (AtomMatches (alone piece) empty)
      → HasLooked piece (Eps around) (Eps around')
  empty_looked n gives = record {
    tree = refl;
    made = puts.made;
    looked = (instant_tells empty gives (λ next. record { same = λ a b n h. h.same }), refl, refl);
    node = record { limit = limit_kept n.limit puts.made; idle = λ off. tt };
  }

  pub rise_looked : (state : State) → IsNode piece.begin (Rise around state)
      → GivesZone zone (AtomMatches (alone piece) (rise (tree_of state)))
      → HasLooked piece (Rise around state) (Rise around' state)
  rise_looked state n gives = record {
    tree = refl;
    made = puts.made;
    looked = (
      instant_tells (rise (tree_of state)) gives
          (λ next. record { same = λ a b n h. h.begin ∙ sym h.end }),
      refl,
      refl,
    );
    node = (record { limit = limit_kept n.0.limit puts.made; idle = λ off. tt }, n.1);
  }

  pub fall_looked : (state : State) → IsNode piece.begin (Fall around state)
      → GivesZone zone (AtomMatches (alone piece) (fall (tree_of state)))
      → HasLooked piece (Fall around state) (Fall around' state)
  fall_looked state n gives = record {
    tree = refl;
    made = puts.made;
    looked = (
      instant_tells (fall (tree_of state)) gives
          (λ next. record { same = λ a b n h. h.begin ∙ sym h.end }),
      refl,
      refl,
    );
    node = (record { limit = limit_kept n.0.limit puts.made; idle = λ off. tt }, n.1);
  }

  pub event_looked : (number : ℕ) → IsNode piece.begin (Event around number)
      → GivesZone zone (AtomMatches (alone piece) (event number))
      → HasLooked piece (Event around number) (Event around' number)
  event_looked number n gives = record {
    tree = refl;
    made = puts.made;
    looked = (
      instant_tells (event number) gives
          (λ next. record { same = λ a b n h. h.begin ∙ sym h.end }),
      refl,
      refl,
    );
    node = (record { limit = limit_kept n.0.limit puts.made; idle = λ off. tt }, n.1);
  }

-- The node under another name.
pub node_by : {piece : Piece} {node before after : Node} → node ≡ before
    → (IsNode piece.begin before → HasLooked piece before after) → IsNode piece.begin node
    → HasLooked piece node after
node_by {piece} {node} {before} {after} is f n =
    subst (λ (z : Node). HasLooked piece z after) (sym is)
    (f (subst (λ (z : Node). IsNode piece.begin z) is n))
