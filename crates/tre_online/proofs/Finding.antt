-- What a node tells of a piece and at the end, as a session keeps it.
use Rattle.std.proofs.Common.{◌≡◌, ◌∙◌, ℕ, ◌++◌, Option, None, true, List, [], ◌∷◌, subst, inl, inr, ⊎_elim, arith}
use Rattle.tre_pairs.specs.Same.{Same}
use Rattle.tre_edges.specs.Piece.{end_of_piece}
use Rattle.tre_edges.specs.declared.piece.Piece.{Piece}
use Rattle.tre_zone.specs.Held.{Held, IsSetOf}
use Rattle.tre_zone.specs.Longest.{LastsUpTo}
use Rattle.tre_zone.specs.Zone.{instants_of}
use Rattle.tre_zone.specs.ZoneList.{SetHolds, HoldExactly}
use Rattle.tre_zone.specs.declared.zone_bounds.ZoneBounds.{ZoneBounds}
use Rattle.tre_zone.proofs.Instants.{instants-holds}
use Rattle.tre_zone.proofs.ZoneListLemmas.{SetHolds-append}
use Rattle.tre_zoneset.specs.ZoneSet.{IsZoneSet}
use Rattle.tre_syntax.specs.Meaning.{MatchesRest}
use Rattle.tre_syntax.specs.PatternTree.{PatternTree}
use Rattle.tre_syntax.specs.Rest.{Rest}
use Rattle.tre_mark.specs.MarkTree.{MarkTree}
use Rattle.tre_mark.specs.Marked.{Marked}
use Rattle.tre_forms.specs.Enters.{Enters, alone}
use Rattle.tre_node.specs.Closed.{HasClosed, end_rest}
use Rattle.tre_node.specs.Copying.{IsCopy}
use Rattle.tre_node.specs.HasEntered.{HasEntered, MayEnter}
use Rattle.tre_node.specs.IsNode.{IsMade}
use Rattle.tre_node.specs.Looked.{HasLooked}
use Rattle.tre_node.specs.NodeTree.{around_of, mark_of_node, tree_of_node}
use Rattle.tre_node.specs.declared.node.Node.{Node}
use Rattle.tre_node.proofs.Instances.{moments_are_instants}
use Rattle.tre_node.proofs.Looks.{part_told}
use Rattle.tre_online.specs.Reading.{FindsInPiece, ReadsPiece, TellsAtEnd, TellsOver}
use Rattle.tre_online.proofs.Standing.{moments_one}

-- What ended and what is inside, together.
tells_of : (rest : Rest) (mark : MarkTree) (tree : PatternTree)
    (inside ended told : List ZoneBounds) → IsSetOf inside (MatchesRest tree rest)
    → Same (LastsUpTo None) (Held ended) (Marked rest mark tree)
    → HoldExactly told (SetHolds (ended ++ inside)) → TellsOver rest mark tree told
tells_of rest mark tree inside ended told set same all = record {
  exact = record {
    exact = λ a b n some le.
        let lists = SetHolds-append ended inside a b n in
        let both = all.exact a b n some le in
        let one = set.pairs a b n some in
        let other = same.at a b n some (record { within = tt }) in (
          (λ h. ⊎_elim (λ x. inr (other.0 (record { rising = le; held = x })))
              (λ x. inl (one.0 (record { rising = le; held = x }))) (lists.0 (both.0 h))),
          (λ h. both.1 (lists.1 (⊎_elim (λ x. inr (one.1 x).held) (λ x. inl (other.1 x).held) h))),
        );
  };
}

-- The moments of the piece may enter.
may_enter : (piece : Piece) (node : Node)
    → MayEnter piece.begin (around_of node)
    (Held (instants_of piece.begin (end_of_piece piece) ∷ []))
unfolding SetHolds
may_enter piece node = record {
  from = record {
    from = λ a b n some short h.
        let x = (instants-holds piece.begin (end_of_piece piece) a b n some).0
        (⊎_elim (λ y. y) (λ y. absurd y) h.held) in
        let starts = x.starts in
        let rising = h.rising in
        omega (arith, starts, rising);
  };
  moments = λ whole. moments_are_instants piece.begin (end_of_piece piece);
}

module _ (piece : Piece) (before looked after : Node) (found : List ZoneBounds) (zone : ZoneBounds)
    (is : zone ≡ instants_of piece.begin (end_of_piece piece))
    (made : IsMade None true (around_of before)) (h : HasLooked piece before looked) where
  abbrev mark : MarkTree
  mark = mark_of_node piece.begin before

  abbrev tree : PatternTree
  tree = tree_of_node before

  tells_here : HoldExactly found
      (SetHolds ((around_of looked).ended.items ++ (around_of looked).inside.items))
      → TellsOver (alone piece) mark tree found
  tells_here same =
      let told = part_told h made.counts in
      tells_of (alone piece) mark tree (around_of looked).inside.items
      (around_of looked).ended.items found told.inside told.ended same

  leaves_here : HasEntered piece (instants_of piece.begin (end_of_piece piece) ∷ []) looked after
      → Enters None piece mark tree (Held (instants_of piece.begin (end_of_piece piece) ∷ []))
      (mark_of_node (end_of_piece piece) after)
  leaves_here e =
      let E = Held (instants_of piece.begin (end_of_piece piece) ∷ []) in
      let new = mark_of_node (end_of_piece piece) after in
      subst (λ (t : PatternTree). Enters None piece mark t E new) h.tree
      (subst (λ (z : Option ℕ). Enters z piece mark (tree_of_node looked) E new)
      (h.made.counts ∙ made.counts) (e.goes mark h.looked (may_enter piece looked)))

  pub finds_in : HoldExactly found
      (SetHolds ((around_of looked).ended.items ++ (around_of looked).inside.items))
      → IsZoneSet found → HasEntered piece (zone ∷ []) looked after
      → FindsInPiece mark tree piece found after
  finds_in same set entered =
      let e = subst (λ (z : ZoneBounds). HasEntered piece (z ∷ []) looked after) is entered in
      record {
        set = set;
        tells = tells_here same;
        entering = instants_of piece.begin (end_of_piece piece) ∷ [];
        moments = moments_one piece.begin (end_of_piece piece)
            (instants_of piece.begin (end_of_piece piece))
            (λ a b n some. instants-holds piece.begin (end_of_piece piece) a b n some);
        leaves = leaves_here e;
        tree_is = e.tree ∙ h.tree;
        made = record {
          counts = e.made.counts ∙ h.made.counts ∙ made.counts;
          enters = e.made.enters ∙ h.made.enters ∙ made.enters;
        };
        node_is = e.node h.node;
      }

-- What a copy read, the node would have.
pub reads_as : {piece : Piece} {node copy after : Node} {earlier earlier' told : List ZoneBounds}
    → IsCopy node copy → earlier' ≡ earlier
    → ReadsPiece (mark_of_node piece.begin copy) (tree_of_node copy) earlier' piece told after
    → ReadsPiece (mark_of_node piece.begin node) (tree_of_node node) earlier piece told after
reads_as {piece} {node} {copy} {after} {earlier} {earlier'} {told} same list h =
    subst (λ (m : MarkTree). ReadsPiece m (tree_of_node node) earlier piece told after)
    (same.mark piece.begin)
    (subst (λ (t : PatternTree). ReadsPiece (mark_of_node piece.begin copy) t earlier piece told
    after) same.tree
    (subst (λ (z : List ZoneBounds). ReadsPiece (mark_of_node piece.begin copy)
    (tree_of_node copy) z piece told after) list h))

-- What a copy tells where the trace ends.
pub tells_closed : {time events : ℕ} {node copy closed : Node} {told : List ZoneBounds}
    → IsMade None true (around_of node) → IsCopy node copy → HasClosed time events copy closed
    → HoldExactly told
    (SetHolds ((around_of closed).ended.items ++ (around_of closed).inside.items))
    → TellsAtEnd time events (mark_of_node time node) (tree_of_node node) told
tells_closed {time} {events} {node} {copy} {closed} {told} made same h all =
    subst (λ (m : MarkTree). TellsAtEnd time events m (tree_of_node node) told) (same.mark time)
    (subst (λ (t : PatternTree). TellsAtEnd time events (mark_of_node time copy) t told) same.tree
    (record {
      each = λ last.
          let seen = h.tells last in
          tells_of (end_rest time last events) (mark_of_node time copy) (tree_of_node copy)
          (around_of closed).inside.items (around_of closed).ended.items told seen.inside
          (subst (λ (z : Option ℕ). Same (LastsUpTo z) (Held (around_of closed).ended.items)
          (Marked (end_rest time last events) (mark_of_node time copy) (tree_of_node copy)))
          (same.like.made.counts ∙ made.counts) seen.ended) all;
    }))
