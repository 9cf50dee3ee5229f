-- What a session stands for, before and behind a segment.
use Rattle.std.proofs.Common.{◌≡◌, ℕ, ◌+◌, ◌*◌, ◌<◌, ◌≤◌, ◌↔◌, Option, None, Some, true, List, [], ◌∷◌, ◌++◌, refl, sym, ap, subst, inl, inr, ⊎_elim, arith, append_assoc, ◌∙◌}
use Rattle.std.proofs.Math.Nat.{mul-le-mul_right, mul-pos}
use Rattle.std.proofs.lemmas.Bool.{cases_lt}
use Rattle.tre_pairs.specs.declared.TheConstants.{TIME_MAX}
use Rattle.tre_pairs.specs.Pairs.{Pairs, Composed, Either}
use Rattle.tre_pairs.proofs.Chains.{Composed-at}
use Rattle.tre_pairs.proofs.CutLaws.{cut_parts}
use Rattle.tre_pairs.proofs.Ticks.{gt_down}
use Rattle.tre_pairs.specs.Before.{Before}
use Rattle.tre_edges.specs.Piece.{end_of_piece}
use Rattle.tre_edges.specs.declared.piece.Piece.{Piece}
use Rattle.tre_zone.specs.Held.{Held}
use Rattle.tre_syntax.specs.Cut.{last_of, MatchesBehind}
use Rattle.tre_syntax.specs.Meaning.{Matches, MatchesRest}
use Rattle.tre_syntax.specs.Pattern.{pattern_tree}
use Rattle.tre_syntax.specs.PatternTree.{PatternTree}
use Rattle.tre_syntax.specs.Rest.{Rest, rest_of, prefixed}
use Rattle.tre_syntax.proofs.CutMeaning.{IsCut-Matches, IsBounded-rest, Scales-rest}
use Rattle.tre_trace.specs.Trace.{Timeline, quiet, AreLong, end_of, Fits}
use Rattle.tre_trace.specs.declared.segment.Segment.{Segment}
use Rattle.tre_trace.proofs.Segments.{end_of-append, IsTrace-push}
use Rattle.tre_zone.specs.Zone.{ZoneHolds, IsInstantBetween}
use Rattle.tre_zone.specs.ZoneList.{SetHolds, HoldExactly, IsApart}
use Rattle.tre_zone.specs.declared.zone_bounds.ZoneBounds.{ZoneBounds}
use Rattle.tre_zone.proofs.ZoneListLemmas.{SetHolds-empty, AreCanonical-tight}
use Rattle.tre_zoneset.specs.ZoneSet.{IsZoneSet, Without}
use Rattle.tre_zoneset.proofs.Kept.{IsZoneSet-kept, SetHolds-kept}
use Rattle.tre_mark.specs.MarkTree.{MarkTree}
use Rattle.tre_mark.specs.Marked.{Marked}
use Rattle.tre_mark.specs.Nodes.{form_count}
use Rattle.tre_forms.specs.Enters.{Enters, alone, behind, over}
use Rattle.tre_node.specs.declared.node.Node.{Node}
use Rattle.tre_node.specs.IsNode.{IsNew, IsNode}
use Rattle.tre_node.specs.NodeTree.{mark_of_node, tree_of_node}
use Rattle.tre_online.specs.Reading.{AreMoments, IsPieceFor, IsPastPiece, FindsInPiece, ReadsPiece, TellsOver}
use Rattle.tre_online.specs.Session.{pattern_of, at_of, held_of, ended_of, node_of, kept_of, cut_after, AwaitsMatches, Begun, MatchesBegun, StandsFor, TellsNew}
use Rattle.tre_online.specs.Told.{WasTold}
use Rattle.tre_online.specs.Well.{IsRoot}
use Rattle.tre_online.specs.declared.session.Progress.{Progress}
use Rattle.tre_online.specs.declared.session.Session.{Session}
use Rattle.tre_online.proofs.NewZones.{never_kept, held_or_told}

pushed_some : (segments : List Segment) (segment : Segment)
    → segments ++ segment ∷ [] ≡ [] → ⊥
pushed_some [] segment none = cc
pushed_some (first ∷ segments) segment none = cc

-- the last valuation is that of the last segment
last_of-push : (before : Option ℕ) (segments : List Segment) (segment : Segment)
    → last_of before (segments ++ segment ∷ []) ≡ Some segment.val
last_of-push before [] segment = refl
last_of-push before (first ∷ segments) segment = last_of-push (Some first.val) segments segment

module _ (tree : PatternTree) (u : List Segment) (long : AreLong u) where
  -- The matches of a trace that goes on: those so far, those behind, and those that had begun.
  pub parts : (v : Timeline) (a b n : ℕ) → 0 < n
      → Matches tree (prefixed u v) a b n
      ↔ Either (Matches tree (quiet u)) (Either (MatchesBehind tree (cut_after u v))
      (MatchesBegun tree u v)) a b n
  parts v a b n some =
      let cut = IsCut-Matches (cut_after u v) long tree in
      let all = cut_parts (end_of 0 u) (Matches tree (prefixed u v)) (Matches tree (quiet u))
      (MatchesBehind tree (cut_after u v)) cut a b n some in (
        (λ h. ⊎_elim (λ x. inl x)
            (λ x. ⊎_elim (λ y. inr (inl y))
            (λ y. ⊎_elim
            (λ early. inr (inr (record { related = y.related; begin = early; end = y.end })))
            (λ from. inr (inl (cut.late.at a b n some from y.related)))
            (cases_lt a (end_of 0 u * n))) x) (all.0 h)),
        (λ h. all.1 (⊎_elim (λ x. inl x)
            (λ x. inr (⊎_elim (λ y. inl y)
            (λ y.
            let begin = y.begin in
            inr (record { related = y.related; begin = omega (arith, begin); end = y.end })) x)) h)),
      )

module _ (tree : PatternTree) (u : List Segment) (piece : Piece) (before : MarkTree)
    (begin : piece.begin ≡ end_of 0 u) (last : piece.before ≡ last_of None u)
    (long : AreLong u) (awaits : AwaitsMatches before tree u) where
  -- The piece, and then what is next.
  abbrev with_piece : Timeline → Timeline
  with_piece next = prefixed (piece.segment ∷ []) next

  -- What comes from the begin of the piece on, as it is said of the piece and of the segments.
  rest_is : (v : Timeline) → over piece v
      ≡ rest_of (end_of 0 u) (last_of None u) (with_piece v)
  rest_is v = cc

  -- What comes from the end of the piece on.
  behind_is : (v : Timeline) → behind piece v
      ≡ rest_of (end_of 0 (u ++ piece.segment ∷ [])) (last_of None (u ++ piece.segment ∷ [])) v
  behind_is v =
      let time : end_of 0 (u ++ piece.segment ∷ []) ≡ end_of 0 u + piece.segment.len =
      end_of-append 0 u (piece.segment ∷ []) in
      let value : last_of None (u ++ piece.segment ∷ []) ≡ Some piece.segment.val =
      last_of-push None u piece.segment in
      cc

  end_is : end_of 0 (u ++ piece.segment ∷ []) ≡ end_of_piece piece
  end_is =
      let time : end_of 0 (u ++ piece.segment ∷ []) ≡ end_of 0 u + piece.segment.len =
      end_of-append 0 u (piece.segment ∷ []) in
      cc

  -- The pairs of the mark are the matches that had begun.
  across : (v : Timeline) (a b n : ℕ) → AreLong v.segments → 0 < n
      → Marked (over piece v) before tree a b n ↔ MatchesBegun tree u (with_piece v) a b n
  across v a b n long_v some =
      subst (λ (rest : Rest). Marked rest before tree a b n
      ↔ MatchesBegun tree u (with_piece v) a b n) (sym (rest_is v))
      (awaits.exact (with_piece v) a b n (piece.long, long_v) some)

  from_there : (v : Timeline) (a b n : ℕ) → MatchesRest tree (over piece v) a b n
      ↔ MatchesBehind tree (cut_after u (with_piece v)) a b n
  from_there v a b n =
      subst (λ (rest : Rest). MatchesRest tree rest a b n
      ↔ MatchesBehind tree (cut_after u (with_piece v)) a b n) (sym (rest_is v))
      ((λ h. h), (λ h. h))

  end_later : (n : ℕ) → 0 < n → end_of 0 u * n < end_of_piece piece * n
  end_later n some =
      let next : end_of 0 u + 1 ≤ end_of_piece piece = omega (arith, begin, piece.long) in
      omega (arith, mul-le-mul_right n next)

  module _ (entering : List ZoneBounds)
      (moments : AreMoments piece.begin (end_of_piece piece) entering) where
    -- What enters before the end of the piece.
    abbrev Early : Pairs
    Early = Before (end_of_piece piece) (Held entering)

    -- A match that comes behind such a moment is a match that begins before the end of the piece.
    entered : (v : Timeline) (a b n : ℕ) → 0 < n
        → Composed Early (MatchesRest tree (over piece v)) a b n
        → MatchesRest tree (over piece v) a b n × (a < end_of_piece piece * n)
    entered v a b n some h =
        let rest = over piece v in
        let k = h.factor in
        let held = (moments.exact.exact (k * a) h.midpoint (k * n) (mul-pos h.positive some)
        h.left.related.rising).0 h.left.related.held in
        let early = h.left.early in
        let same = held.same in (
          (Scales-rest tree rest).down k a b n h.positive
              (subst (λ (x : ℕ). MatchesRest tree rest x (k * b) (k * n)) (sym same) h.right),
          gt_down k (end_of_piece piece) a n (omega (arith, early, same)),
        )

    -- A match that begins in the piece enters there.
    enters : (v : Timeline) (a b n : ℕ) → 0 < n → a < end_of_piece piece * n
        → MatchesRest tree (over piece v) a b n
        → Composed Early (MatchesRest tree (over piece v)) a b n
    enters v a b n some early h =
        let rest = over piece v in
        let from = (IsBounded-rest tree rest).begin a b n h in
        let here : Early a a n = record {
          related = record {
            rising = omega arith;
            held = (moments.exact.exact a a n some (omega arith)).1
                (record { starts = from; same = refl; ends = omega (arith, early) });
          };
          early = early;
        } in
        Composed-at Early (MatchesRest tree rest) a a b n here h

    module _ (rest : MarkTree) (goes : Enters None piece before tree (Held entering) rest) where
      -- What is left stands for the matches that go on behind the end of the piece.
      crosses : (v : Timeline) (a b n : ℕ) → AreLong v.segments → 0 < n
          → Marked (behind piece v) rest tree a b n
          ↔ Begun (end_of_piece piece) (Matches tree (prefixed u (with_piece v))) a b n
      crosses v a b n long_v some =
          let leaves = (goes.leaves v long_v).at a b n some (record { within = tt }) in
          let all = parts tree u long (with_piece v) a b n some in
          let later = end_later n some in (
            (λ h.
                let c = leaves.0 h in
                ⊎_elim
                (λ x.
                let y = (across v a b n long_v some).0 x in
                let early = y.begin in
                record { related = y.related; begin = omega (arith, early, later); end = c.end })
                (λ x.
                let y = entered v a b n some x in
                record {
                  related = all.1 (inr (inl ((from_there v a b n).0 y.0)));
                  begin = y.1;
                  end = c.end;
                }) c.related),
            (λ h.
                let first = h.begin in
                let end = h.end in
                leaves.1 (record {
                  related = ⊎_elim
                      (λ x.
                      let early = (IsBounded-rest tree (rest_of 0 None (quiet u))).end a b n x in
                      absurd (omega (arith, early, later, end)))
                      (λ x. ⊎_elim
                      (λ y. inr (enters v a b n some first ((from_there v a b n).1 y)))
                      (λ y. inl ((across v a b n long_v some).1 y)) x)
                      (all.0 h.related);
                  begin = omega (arith, first);
                  end = end;
                })),
          )

      pub awaits_after : AwaitsMatches rest tree (u ++ piece.segment ∷ [])
      awaits_after = record {
        exact = λ v a b n long_v some.
            subst (λ (comes : Rest). Marked comes rest tree a b n
            ↔ Begun (end_of 0 (u ++ piece.segment ∷ []))
            (Matches tree (prefixed (u ++ piece.segment ∷ []) v)) a b n) (behind_is v)
            (rw (end_is, append_assoc u (piece.segment ∷ []) v.segments)
            (crosses v a b n long_v some));
      }

  module _ (found : List ZoneBounds) (tells : TellsOver (alone piece) before tree found) where
    -- What is found are the matches behind the begin of the piece and those that had begun.
    found_is : (a b n : ℕ) → 0 < n → a ≤ b → SetHolds found a b n
        ↔ Either (MatchesBehind tree (cut_after u (quiet (piece.segment ∷ []))))
        (MatchesBegun tree u (quiet (piece.segment ∷ []))) a b n
    found_is a b n some le =
        let exact = tells.exact.exact a b n some le in (
          (λ h. ⊎_elim (λ x. inl ((from_there (quiet []) a b n).0 x))
              (λ x. inr ((across (quiet []) a b n tt some).0 x)) (exact.0 h)),
          (λ h. exact.1 (⊎_elim (λ x. inl ((from_there (quiet []) a b n).1 x))
              (λ x. inr ((across (quiet []) a b n tt some).1 x)) h)),
        )

    found_late : (a b n : ℕ) → 0 < n → a ≤ b → SetHolds found a b n → end_of 0 u * n ≤ b
    found_late a b n some le h =
        ⊎_elim
        (λ x. let from = (IsBounded-rest tree
        (rest_of (end_of 0 u) (last_of None u) (quiet (piece.segment ∷ [])))).begin a b n x in
        omega (arith, from, le))
        (λ y. y.end) ((found_is a b n some le).0 h)

    module _ (earlier told : List ZoneBounds) (set : IsZoneSet found)
        (without : Without (WasTold earlier) found told)
        (ended : (a b n : ℕ) → 0 < n → a ≤ b → SetHolds earlier a b n → Matches tree (quiet u) a b n)
        (unstarted : u ≡ [] → earlier ≡ []) where
      among : (a b n : ℕ) → SetHolds told a b n → SetHolds found a b n
      among a b n h = SetHolds-kept (WasTold earlier) found told without a b n h

      told_all : (a b n : ℕ) → 0 < n → a ≤ b → Either (SetHolds told) (Matches tree (quiet u)) a b n
          ↔ Matches tree (quiet (u ++ piece.segment ∷ [])) a b n
      told_all a b n some le =
          let all = parts tree u long (quiet (piece.segment ∷ [])) a b n some in
          let found_here = found_is a b n some le in (
            (λ h. all.1
                (⊎_elim (λ x. inr (found_here.0 (among a b n x))) (λ y. inl y) h)),
            (λ h. ⊎_elim (λ x. inr x)
                (λ y. ⊎_elim (λ z. inl z) (λ z. inr (ended a b n some le z))
                (held_or_told earlier found told without a b n some le (found_here.1 y)))
                (all.0 h)),
          )

      told_first : u ≡ [] → HoldExactly told (Matches tree (quiet (piece.segment ∷ [])))
      told_first none = record {
        exact = λ a b n some le. (
          (λ h.
              let all = (told_all a b n some le).0 (inl h) in
              subst (λ (list : List Segment). Matches tree (quiet (list ++ piece.segment ∷ [])) a b n)
              none all),
          (λ h.
              let late : MatchesBehind tree (cut_after u (quiet (piece.segment ∷ []))) a b n =
              subst (λ (list : List Segment).
              MatchesBehind tree (cut_after list (quiet (piece.segment ∷ []))) a b n) (sym none) h in
              ⊎_elim (λ x. x)
              (λ x. absurd (SetHolds-empty a b n
              (subst (λ (list : List ZoneBounds). SetHolds list a b n) (unstarted none) x)))
              (held_or_told earlier found told without a b n some le
              ((found_is a b n some le).1 (inl late)))),
        );
      }

      pub tells_new : TellsNew tree u piece.segment earlier told
      tells_new =
          let kept = IsZoneSet-kept (WasTold earlier) found told without set in
          record {
            apart = kept.apart;
            tight = AreCanonical-tight told kept.canonical;
            all = told_all;
            first = told_first;
            late = λ a b n some le h. found_late a b n some le (among a b n h);
            new = λ zone member was.
                never_kept (WasTold earlier) found told without member.0 zone member.1
                (subst (WasTold earlier) (sym member.2) was);
          }

-- Nothing begins before a trace.
start_awaits : (tree : PatternTree) (node : Node) → IsNew tree None true node
    → AwaitsMatches (mark_of_node 0 node) tree []
start_awaits tree node new = record {
  exact = λ v a b n long some. (
    (λ h. absurd ((new.unbegun.nothing 0).never tree (rest_of 0 None v) a b n h)),
    (λ h. let begin = h.begin in absurd (omega (arith, begin))),
  );
}

-- The moments between two times, as one zone.
pub moments_one : (from to : ℕ) (zone : ZoneBounds)
    → ((a b n : ℕ) → 0 < n → ZoneHolds zone a b n ↔ IsInstantBetween from to a b n)
    → AreMoments from to (zone ∷ [])
unfolding SetHolds
moments_one from to zone held = record {
  exact = record {
    exact = λ a b n some le.
        let same = held a b n some in (
          (λ x. same.0 (⊎_elim (λ y. y) (λ y. absurd y) x)),
          (λ x. inl (same.1 x)),
        );
  };
}

-- The same, said of what is equal.
awaits_same : (mark mark' : MarkTree) (tree tree' : PatternTree) (u : List Segment) → mark ≡ mark'
    → tree ≡ tree' → AwaitsMatches mark' tree' u → AwaitsMatches mark tree u
awaits_same mark mark' tree tree' u same shape awaits = rw (same, shape) awaits

-- A session that has read nothing.
pub stands_at_start : (session : Session) (tree : PatternTree) → IsNew tree None true (node_of session)
    → pattern_tree (pattern_of session) ≡ tree → at_of session ≡ 0 → held_of session ≡ None
    → ended_of session ≡ [] → StandsFor session []
stands_at_start session tree new pattern at last ended = record {
  trace = record { long = tt; in_time = omega arith };
  at = at;
  last = last;
  tree = new.tree_is ∙ sym pattern;
  awaits = awaits_same (kept_of session) (mark_of_node 0 (node_of session))
      (pattern_tree (pattern_of session)) tree []
      (ap (λ (t : ℕ). mark_of_node t (node_of session)) at) pattern
      (start_awaits tree (node_of session) new);
  ended = λ a b n some le h. absurd
      (SetHolds-empty a b n (subst (λ (list : List ZoneBounds). SetHolds list a b n) ended h));
  unstarted = λ none. ended;
}

module _ (old : Session) (node : Node) (u : List Segment) (segment : Segment)
    (piece : Piece) (told : List ZoneBounds) (standing : StandsFor old u)
    (is_piece : IsPieceFor old segment piece)
    (reads : ReadsPiece (mark_of_node piece.begin (node_of old)) (tree_of_node (node_of old))
    (ended_of old) piece told node) where
  abbrev tree : PatternTree
  tree = pattern_tree old.pattern

  abbrev mark : MarkTree
  mark = mark_of_node piece.begin (node_of old)

  -- What was read, said of the tree of the pattern.
  of_pattern : ReadsPiece mark tree (ended_of old) piece told node
  of_pattern = subst (λ (t : PatternTree). ReadsPiece mark t (ended_of old) piece told node)
      standing.tree reads

  abbrev finds : FindsInPiece mark tree piece of_pattern.found node
  finds = of_pattern.finds

  awaits_here : AwaitsMatches mark tree u
  awaits_here = awaits_same mark (kept_of old) tree tree u
      (ap (λ (t : ℕ). mark_of_node t (node_of old)) is_piece.begin) refl standing.awaits

  -- A session that has read one more segment.
  pub tells_after : TellsNew tree u segment (ended_of old) told
  tells_after =
      subst (λ (s : Segment). TellsNew tree u s (ended_of old) told) is_piece.same
      (tells_new tree u piece mark (is_piece.begin ∙ standing.at)
      (is_piece.before ∙ standing.last) standing.trace.long awaits_here of_pattern.found
      finds.tells (ended_of old) told finds.set of_pattern.without standing.ended
      standing.unstarted)

  pub fits_after : Fits u segment
  fits_after =
      let begin : piece.begin ≡ end_of 0 u = is_piece.begin ∙ standing.at in
      let fits : Fits u piece.segment = record {
        long = piece.long;
        in_time = omega (arith, begin, piece.in_time);
      } in
      subst (λ (s : Segment). Fits u s) is_piece.same fits

  pub stands_after : (new : Session) → node_of new ≡ node
      → pattern_tree (pattern_of new) ≡ tree
      → IsPastPiece piece told new.progress → StandsFor new (u ++ segment ∷ [])
  stands_after new is pattern ends =
      let at : at_of new ≡ piece.begin + segment.len =
      ends.at ∙ ap (λ (s : Segment). piece.begin + s.len) is_piece.same in
      let last : held_of new ≡ Some segment.val =
      ends.last ∙ ap (λ (s : Segment). Some s.val) is_piece.same in
      let time : end_of 0 (u ++ segment ∷ []) ≡ end_of 0 u + segment.len =
      end_of-append 0 u (segment ∷ []) in
      let value : last_of None (u ++ segment ∷ []) ≡ Some segment.val =
      last_of-push None u segment in
      record {
        trace = IsTrace-push u segment standing.trace fits_after;
        at = at ∙ ap (λ (t : ℕ). t + segment.len) (is_piece.begin ∙ standing.at) ∙ sym time;
        last = last ∙ sym value;
        tree = ap tree_of_node is ∙ finds.tree_is ∙ sym pattern;
        awaits = awaits_same (kept_of new) (mark_of_node (end_of_piece piece) node)
            (pattern_tree (pattern_of new)) tree (u ++ segment ∷ [])
            (ap (λ (t : ℕ). mark_of_node t (node_of new)) ends.at
            ∙ ap (λ (z : Node). mark_of_node (end_of_piece piece) z) is) pattern
            (subst (λ (s : Segment). AwaitsMatches (mark_of_node (end_of_piece piece) node) tree
            (u ++ s ∷ [])) is_piece.same
            (awaits_after tree u piece mark (is_piece.begin ∙ standing.at)
            (is_piece.before ∙ standing.last) standing.trace.long awaits_here finds.entering
            finds.moments (mark_of_node (end_of_piece piece) node) finds.leaves));
        ended = λ a b n some le h. rw pattern
            ((tells_after.all a b n some le).0
            (inl (subst (λ (list : List ZoneBounds). SetHolds list a b n) ends.told h)));
        unstarted = λ none. absurd (pushed_some u segment none);
      }

-- What is kept is in time and well where the piece ends.
pub in_time_after : (piece : Piece) (told : List ZoneBounds) (progress : Progress)
    → IsPastPiece piece told progress → progress.at ≤ TIME_MAX
in_time_after piece told progress behind =
    subst (λ (time : ℕ). time ≤ TIME_MAX) (sym behind.at) piece.in_time

pub apart_after : {before : MarkTree} {tree : PatternTree} {earlier told : List ZoneBounds}
    {piece : Piece} {node : Node} → ReadsPiece before tree earlier piece told node → IsApart told
apart_after {before} {tree} {earlier} {told} {piece} {node} reads =
    (IsZoneSet-kept (WasTold earlier) reads.found told reads.without reads.finds.set).apart

pub well_after : {before : MarkTree} {tree : PatternTree} {earlier told : List ZoneBounds}
    {piece : Piece} {progress : Progress} {forms : ℕ}
    → ReadsPiece before tree earlier piece told progress.node
    → IsPastPiece piece told progress → form_count tree ≡ forms
    → IsRoot progress.at forms progress.node
well_after {before} {tree} {earlier} {told} {piece} {progress} {forms} reads past count = record {
  node_is = subst (λ (time : ℕ). IsNode time progress.node) (sym past.at) reads.finds.node_is;
  made = reads.finds.made;
  count = ap form_count reads.finds.tree_is ∙ count;
}

-- Of what is new nothing has begun.
pub well_new : {tree shown : PatternTree} {node : Node} (time : ℕ) → IsNew tree None true node
    → shown ≡ tree → IsRoot time (form_count shown) node
well_new {tree} {shown} {node} time new is = record {
  node_is = new.node_is time;
  made = new.made;
  count = ap form_count (new.tree_is ∙ sym is);
}
