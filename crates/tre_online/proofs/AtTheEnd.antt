-- What a session tells where the trace ends.
use Rattle.std.proofs.Common.{◌≡◌, ℕ, ◌*◌, ◌<◌, ◌≤◌, ◌↔◌, None, List, [], refl, sym, subst, inl, inr, ⊎_elim, arith}
use Rattle.std.proofs.lemmas.List.{append-nil}
use Rattle.tre_pairs.specs.Pairs.{Either}
use Rattle.tre_zone.specs.ZoneList.{SetHolds, IsApart, AreTight, HoldExactly}
use Rattle.tre_zone.specs.declared.zone_bounds.ZoneBounds.{ZoneBounds}
use Rattle.tre_zone.proofs.ZoneListLemmas.{SetHolds-empty, AreCanonical-tight}
use Rattle.tre_zoneset.specs.ZoneSet.{IsZoneSet, Without}
use Rattle.tre_zoneset.proofs.Kept.{IsZoneSet-kept, SetHolds-kept}
use Rattle.tre_trace.specs.Trace.{Timeline, timeline_of, quiet, AreLong, end_of}
use Rattle.tre_trace.specs.declared.segment.Segment.{Segment}
use Rattle.tre_syntax.specs.Cut.{last_of, MatchesBehind}
use Rattle.tre_syntax.specs.Meaning.{Matches, MatchesRest}
use Rattle.tre_syntax.specs.Pattern.{pattern_tree}
use Rattle.tre_syntax.specs.PatternTree.{PatternTree}
use Rattle.tre_syntax.specs.Rest.{rest_of, whole, prefixed}
use Rattle.tre_syntax.proofs.CutMeaning.{IsBounded-rest}
use Rattle.tre_mark.specs.MarkTree.{MarkTree}
use Rattle.tre_mark.specs.Marked.{Marked}
use Rattle.tre_node.specs.Closed.{end_rest}
use Rattle.tre_node.specs.NodeTree.{tree_of_node}
use Rattle.tre_online.specs.Reading.{TellsAtEnd}
use Rattle.tre_online.specs.Session.{at_of, ended_of, kept_of, node_of, cut_after, AwaitsMatches, MatchesBegun, StandsFor, TellsLast}
use Rattle.tre_online.specs.Told.{WasTold}
use Rattle.tre_online.specs.declared.session.Session.{Session}
use Rattle.tre_online.proofs.NewZones.{never_kept, held_or_told}
use Rattle.tre_online.proofs.Standing.{parts}

-- Where no event happens, nothing is told.
pub tells_nothing : (tree : PatternTree) (u : List Segment) (events : ℕ)
    (earlier told : List ZoneBounds) → events ≡ 0 → told ≡ []
    → TellsLast tree u events earlier told
unfolding IsApart AreTight
tells_nothing tree u events earlier told zero empty =
    rw (zero, empty) (record {
      none = λ is. refl;
      apart = tt;
      tight = tt;
      all = λ a b n some le. (
        (λ h. ⊎_elim (λ x. absurd (SetHolds-empty a b n x)) (λ x. x) h),
        (λ h. inr h),
      );
      first = λ start happens. absurd (happens refl);
      ends = λ a b n some le h. absurd (SetHolds-empty a b n h);
      new = λ zone member was. let none : member.0 < 0 = member.1 in omega (arith, none);
    })

module _ (tree : PatternTree) (u : List Segment) (long : AreLong u) (events time : ℕ)
    (mark : MarkTree) (found : List ZoneBounds) (at : time ≡ end_of 0 u)
    (awaits : AwaitsMatches mark tree u) (closes : TellsAtEnd time events mark tree found) where
  -- What comes behind the segments: the events alone.
  abbrev v : Timeline
  v = timeline_of [] events

  whole_is : (a b n : ℕ) → Matches tree (prefixed u v) a b n
      ↔ Matches tree (timeline_of u events) a b n
  whole_is a b n =
      subst (λ (list : List Segment). Matches tree (prefixed u v) a b n
      ↔ Matches tree (timeline_of list events) a b n) (append-nil u) ((λ h. h), (λ h. h))

  -- What is found are the matches that begin at the end, and those that had begun.
  found_is : (a b n : ℕ) → 0 < n → a ≤ b → SetHolds found a b n
      ↔ Either (MatchesBehind tree (cut_after u v)) (MatchesBegun tree u v) a b n
  found_is a b n some le =
      let here = subst (λ (t : ℕ). SetHolds found a b n
      ↔ Either (MatchesRest tree (end_rest t (last_of None u) events))
      (Marked (end_rest t (last_of None u) events) mark tree) a b n) at
      ((closes.each (last_of None u)).exact.exact a b n some le) in
      let begun = awaits.exact v a b n tt some in (
        (λ h. ⊎_elim (λ x. inl x) (λ x. inr (begun.0 x)) (here.0 h)),
        (λ h. here.1 (⊎_elim (λ x. inl x) (λ x. inr (begun.1 x)) h)),
      )

  by_end : (a b n : ℕ) → Matches tree (prefixed u v) a b n → b ≤ end_of 0 u * n
  by_end a b n h =
      (IsBounded-rest tree (whole (timeline_of u events))).end a b n ((whole_is a b n).0 h)

  found_match : (a b n : ℕ) → 0 < n → a ≤ b → SetHolds found a b n
      → Matches tree (prefixed u v) a b n
  found_match a b n some le h =
      (parts tree u long v a b n some).1 (inr ((found_is a b n some le).0 h))

  found_ends : (a b n : ℕ) → 0 < n → a ≤ b → SetHolds found a b n → b ≡ end_of 0 u * n
  found_ends a b n some le h =
      let early = by_end a b n (found_match a b n some le h) in
      ⊎_elim
      (λ x.
      let from = (IsBounded-rest tree (rest_of (end_of 0 u) (last_of None u) v)).begin a b n x in
      omega (arith, from, le, early))
      (λ x. let late = x.end in omega (arith, late, early)) ((found_is a b n some le).0 h)

  -- A match with the events is one without them, or is found.
  was_or_found : (a b n : ℕ) → 0 < n → a ≤ b → Matches tree (prefixed u v) a b n
      → Either (Matches tree (quiet u)) (SetHolds found) a b n
  was_or_found a b n some le h =
      ⊎_elim (λ x. inl x) (λ x. inr ((found_is a b n some le).1 x))
      ((parts tree u long v a b n some).0 h)

  module _ (earlier told : List ZoneBounds) (set : IsZoneSet found)
      (without : Without (WasTold earlier) found told)
      (ended : (a b n : ℕ) → 0 < n → a ≤ b → SetHolds earlier a b n → Matches tree (quiet u) a b n)
      (unstarted : u ≡ [] → earlier ≡ []) where
    last_among : (a b n : ℕ) → SetHolds told a b n → SetHolds found a b n
    last_among a b n h = SetHolds-kept (WasTold earlier) found told without a b n h

    last_all : (a b n : ℕ) → 0 < n → a ≤ b
        → Either (SetHolds told) (Matches tree (quiet u)) a b n
        ↔ Matches tree (timeline_of u events) a b n
    last_all a b n some le = (
      (λ h. (whole_is a b n).0 (⊎_elim
          (λ x. found_match a b n some le (last_among a b n x))
          (λ x. (parts tree u long v a b n some).1 (inl x)) h)),
      (λ h. ⊎_elim (λ x. inr x)
          (λ x. ⊎_elim (λ y. inl y) (λ y. inr (ended a b n some le y))
          (held_or_told earlier found told without a b n some le x))
          (was_or_found a b n some le ((whole_is a b n).1 h))),
    )

    -- Where no segment came, each match begins and ends with the trace.
    last_first : u ≡ [] → HoldExactly told (Matches tree (timeline_of [] events))
    last_first none = record {
      exact = λ a b n some le. (
        (λ h. subst (λ (list : List Segment). Matches tree (timeline_of list events) a b n) none
            ((last_all a b n some le).0 (inl h))),
        (λ h.
            let late : MatchesBehind tree (cut_after u v) a b n =
            subst (λ (list : List Segment). MatchesBehind tree (cut_after list v) a b n)
            (sym none) h in
            ⊎_elim (λ x. x)
            (λ x. absurd (SetHolds-empty a b n
            (subst (λ (list : List ZoneBounds). SetHolds list a b n) (unstarted none) x)))
            (held_or_told earlier found told without a b n some le
            ((found_is a b n some le).1 (inl late)))),
      );
    }

    tells_last : (events ≡ 0 → ⊥) → TellsLast tree u events earlier told
    tells_last happens =
        let kept = IsZoneSet-kept (WasTold earlier) found told without set in
        record {
          none = λ zero. absurd (happens zero);
          apart = kept.apart;
          tight = AreCanonical-tight told kept.canonical;
          all = last_all;
          first = λ start happens. last_first start;
          ends = λ a b n some le h. found_ends a b n some le (last_among a b n h);
          new = λ zone member was.
              never_kept (WasTold earlier) found told without member.0 zone member.1
              (subst (WasTold earlier) (sym member.2) was);
        }

-- A session tells what its mark tells there, without what it told last.
pub tells_at_end : (session : Session) (u : List Segment) (events : ℕ)
    (found told : List ZoneBounds) → StandsFor session u → IsZoneSet found
    → Without (WasTold (ended_of session)) found told
    → TellsAtEnd (at_of session) events (kept_of session) (tree_of_node (node_of session)) found
    → (events ≡ 0 → ⊥)
    → TellsLast (pattern_tree session.pattern) u events (ended_of session) told
tells_at_end session u events found told standing set without closes happens =
    tells_last (pattern_tree session.pattern) u standing.trace.long events (at_of session)
    (kept_of session) found standing.at standing.awaits
    (subst (λ (t : PatternTree). TellsAtEnd (at_of session) events (kept_of session) t found)
    standing.tree closes) (ended_of session) told set without
    standing.ended standing.unstarted happens
