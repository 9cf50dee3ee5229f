-- What a rest makes of a mark, of what it makes of the parts.
use Rattle.std.proofs.Common.{◌≡◌, ℕ, ◌-◌, ◌*◌, List, [], Option, inl, inr, ⊎_elim, arith, ap}
use Rattle.tre_pairs.specs.Pairs.{Pairs, Composed, Either, Both, Lasting, Chain}
use Rattle.tre_pairs.specs.Same.{Same}
use Rattle.tre_pairs.proofs.Agreement.{Agree-Chain, Agree-Both, Agree-Lasting}
use Rattle.tre_pairs.proofs.Laws.{Agree}
use Rattle.tre_pairs.proofs.Order.{IsOrdered-Lasting, IsOrdered-Both}
use Rattle.tre_pairs.proofs.SameLaws.{same_refl, same_agree, same_back, same_trans, same_either, same_composed}
use Rattle.tre_pairs.proofs.Scaling.{Scales-Both, Scales-Lasting}
use Rattle.tre_zone.specs.Held.{Held, IsSetOf}
use Rattle.tre_zone.specs.Interval.{IntervalEnds, LastsWithin}
use Rattle.tre_zone.specs.Longest.{LastsUpTo}
use Rattle.tre_zone.specs.Zone.{IsInstantBetween}
use Rattle.tre_zone.specs.declared.zone_bounds.ZoneBounds.{ZoneBounds}
use Rattle.tre_zone.proofs.HeldSets.{IsOrdered-Held, Held-empty}
use Rattle.tre_zone.proofs.Lasting.{LastsUpTo-downward, LastsUpTo-scales}
use Rattle.tre_trace.specs.Trace.{end_of}
use Rattle.tre_syntax.specs.Meaning.{MatchesRest}
use Rattle.tre_syntax.specs.PatternTree.{Atom, PatternTree, empty, atom, sequence, alternation, intersection, repetition, restriction}
use Rattle.tre_syntax.specs.Rest.{Rest, AtomMatches}
use Rattle.tre_syntax.proofs.CutMeaning.{IsOrdered-rest}
use Rattle.tre_syntax.proofs.MeaningLaws.{DurationScales-LastsWithin}
use Rattle.tre_mark.specs.MarkTree.{MarkTree, atom_mark, sequence_mark, alternation_mark, intersection_one, repetition_mark, restriction_one}
use Rattle.tre_mark.specs.Marked.{AnyDuration, Marked}
use Rattle.tre_mark.proofs.Agreeing.{agree_then, agree_composed, agree_either}
use Rattle.tre_mark.proofs.Meanings.{IsOrdered-Marked, Scales-Marked, around_present}
use Rattle.tre_forms.proofs.Whole.{AreAllMoments, behind_all}
use Rattle.tre_node.specs.Closed.{Seen}
use Rattle.tre_node.specs.Looked.{IsReach}
use Rattle.tre_node.proofs.SetsOf.{no_pair, set_agrees, set_of}

-- Of an atom that lasts no time nothing ever has begun.
pub instant_seen : (longest : Option ℕ) (rest : Rest) (x : Atom) (inside ended : List ZoneBounds)
    → IsSetOf inside (MatchesRest (atom x) rest) → ended ≡ []
    → Seen longest rest (atom_mark [] []) (atom x) inside ended
instant_seen longest rest x inside ended set none = record {
  inside = set;
  ended = record {
    at = λ a b n some short. (
      (λ h. absurd (no_pair ended none a b n h)),
      (λ h. ⊎_elim (λ y. absurd (Held-empty a (rest.start * n) n y.left))
          (λ y. absurd (Held-empty a (rest.start * n) n y.left)) h),
    );
  };
}

module _ (longest : Option ℕ) (rest : Rest) (one other : MarkTree) (left right : PatternTree)
    (inside1 ended1 inside2 ended2 : List ZoneBounds)
    (f : Seen longest rest one left inside1 ended1)
    (g : Seen longest rest other right inside2 ended2) (inside ended : List ZoneBounds) where
  abbrev D : ℕ → ℕ → Type 0
  D = LastsUpTo longest

  abbrev Y : Pairs
  Y = MatchesRest right rest

  abbrev M : Pairs
  M = Marked rest one left

  abbrev N : Pairs
  N = Marked rest other right

  pub sequence_seen : IsSetOf inside (Composed (Held inside1) (Held inside2))
      → IsSetOf ended (Either (Held ended2) (Composed (Held ended1) (Held inside2)))
      → Seen longest rest (sequence_mark one other) (sequence left right) inside ended
  sequence_seen x y = record {
    inside = set_of (agree_then (set_agrees x)
        (agree_composed (set_agrees f.inside) (set_agrees g.inside)));
    ended = same_trans D (Held ended) (Either (Held ended2) (Composed (Held ended1) (Held inside2)))
        (Either (Composed M Y) N)
        (same_agree D (Held ended) (Either (Held ended2) (Composed (Held ended1) (Held inside2)))
        (set_agrees y))
        (same_trans D (Either (Held ended2) (Composed (Held ended1) (Held inside2)))
        (Either N (Composed M Y)) (Either (Composed M Y) N)
        (same_either D (Held ended2) N (Composed (Held ended1) (Held inside2)) (Composed M Y)
        g.ended
        (same_composed D (LastsUpTo-downward longest) (LastsUpTo-scales longest) (Held ended1) M
        (Held inside2) Y (IsOrdered-Held ended1) (IsOrdered-Marked rest one left)
        (IsOrdered-Held inside2) (IsOrdered-rest right rest) f.ended
        (same_agree D (Held inside2) Y (set_agrees g.inside))))
        (record {
          at = λ a b n some short. (
            (λ h. ⊎_elim (λ z. inr z) (λ z. inl z) h),
            (λ h. ⊎_elim (λ z. inr z) (λ z. inl z) h),
          );
        }));
  }

  pub alternation_seen : IsSetOf inside (Either (Held inside1) (Held inside2))
      → IsSetOf ended (Either (Held ended1) (Held ended2))
      → Seen longest rest (alternation_mark one other) (alternation left right) inside ended
  alternation_seen x y = record {
    inside = set_of (agree_then (set_agrees x)
        (agree_either (set_agrees f.inside) (set_agrees g.inside)));
    ended = same_trans D (Held ended) (Either (Held ended1) (Held ended2)) (Either M N)
        (same_agree D (Held ended) (Either (Held ended1) (Held ended2)) (set_agrees y))
        (same_either D (Held ended1) M (Held ended2) N f.ended g.ended);
  }

-- The moments of a rest.
pub instants_empty : (rest : Rest) (from to : ℕ) → rest.start ≡ from
    → end_of rest.start rest.segments ≡ to
    → Agree (IsInstantBetween from to) (AtomMatches rest empty)
instants_empty rest from to begin end = record {
  at = λ a b n some.
      let first = ap (λ t. t * n) begin in
      let last = ap (λ t. t * n) end in (
        (λ h.
            let starts = h.starts in
            let ends = h.ends in
            record {
              begin = omega (arith, first, starts);
              same = h.same;
              end = omega (arith, last, ends);
            }),
        (λ h.
            let starts = h.begin in
            let ends = h.end in
            record {
              starts = omega (arith, first, starts);
              same = h.same;
              ends = omega (arith, last, ends);
            }),
      );
}

-- A repetition: found are all chains of what its body matches there.
module _ (longest : Option ℕ) (rest : Rest) (body : MarkTree) (tree : PatternTree)
    (steps ended1 : List ZoneBounds) (f : Seen longest rest body tree steps ended1)
    (inside ended : List ZoneBounds) (I : Pairs) (moments : Agree I (AtomMatches rest empty)) where
  abbrev Any : Pairs
  Any = MatchesRest (repetition tree) rest

  repeated : IsSetOf inside (Chain (Held steps) I) → IsSetOf inside Any
  repeated set = set_of (agree_then (set_agrees set)
      (Agree-Chain (Held steps) (MatchesRest tree rest) I (AtomMatches rest empty)
      (set_agrees f.inside) moments))

  pub repetition_seen : IsSetOf inside (Chain (Held steps) I)
      → IsSetOf ended (Composed (Held ended1) (Held inside))
      → Seen longest rest (repetition_mark [] body) (repetition tree) inside ended
  repetition_seen x y = record {
    inside = repeated x;
    ended = same_trans (LastsUpTo longest) (Held ended) (Composed (Held ended1) (Held inside))
        (Marked rest (repetition_mark [] body) (repetition tree))
        (same_agree (LastsUpTo longest) (Held ended) (Composed (Held ended1) (Held inside))
        (set_agrees y))
        (same_trans (LastsUpTo longest) (Composed (Held ended1) (Held inside))
        (Composed (Marked rest body tree) Any)
        (Marked rest (repetition_mark [] body) (repetition tree))
        (same_composed (LastsUpTo longest) (LastsUpTo-downward longest) (LastsUpTo-scales longest)
        (Held ended1) (Marked rest body tree) (Held inside) Any (IsOrdered-Held ended1)
        (IsOrdered-Marked rest body tree) (IsOrdered-Held inside)
        (IsOrdered-rest (repetition tree) rest) f.ended
        (same_agree (LastsUpTo longest) (Held inside) Any (set_agrees (repeated x))))
        (record {
          at = λ a b n some short. (
            (λ h. inr h),
            (λ h. ⊎_elim (λ z. absurd (Held-empty a (rest.start * n) n z.left)) (λ z. z) h),
          );
        }));
  }

-- An instance of a restriction: what its body tells counts in it up to its reach.
module _ (longest reach : Option ℕ) (rest : Rest) (to : ℕ) (outer : List ZoneBounds)
    (body : MarkTree) (tree : PatternTree) (ends : IntervalEnds)
    (counted : IsReach longest (LastsWithin ends) reach) (inside1 ended1 : List ZoneBounds)
    (f : Seen reach rest body tree inside1 ended1) (inside ended : List ZoneBounds) where
  abbrev A : ℕ → ℕ → Type 0
  A = LastsWithin ends

  abbrev B : Pairs
  B = Marked rest body tree

  lasting : Same (LastsUpTo longest) (Lasting A (Held ended1)) (Lasting A B)
  lasting = record {
    at = λ a b n some short. (
      (λ h. record {
        related = (f.ended.at a b n some (counted.counts (b - a) n short h.admitted)).0 h.related;
        admitted = h.admitted;
      }),
      (λ h. record {
        related = (f.ended.at a b n some (counted.counts (b - a) n short h.admitted)).1 h.related;
        admitted = h.admitted;
      }),
    );
  }

  seen_as : IsSetOf inside (Lasting A (Held inside1))
      → Same (LastsUpTo longest) (Held ended)
      (Marked rest (restriction_one to outer body) (restriction tree ends))
      → Seen longest rest (restriction_one to outer body) (restriction tree ends) inside ended
  seen_as x y = record {
    inside = set_of (agree_then (set_agrees x)
        (Agree-Lasting A (Held inside1) (MatchesRest tree rest) (set_agrees f.inside)));
    ended = y;
  }

  pub restriction_seen : IsSetOf inside (Lasting A (Held inside1))
      → IsSetOf ended (Composed (Held outer) (Lasting A (Held ended1)))
      → Seen longest rest (restriction_one to outer body) (restriction tree ends) inside ended
  restriction_seen x y = seen_as x
      (same_trans (LastsUpTo longest) (Held ended) (Composed (Held outer) (Lasting A (Held ended1)))
      (Composed (Held outer) (Lasting A B))
      (same_agree (LastsUpTo longest) (Held ended)
      (Composed (Held outer) (Lasting A (Held ended1))) (set_agrees y))
      (same_composed (LastsUpTo longest) (LastsUpTo-downward longest) (LastsUpTo-scales longest)
      (Held outer) (Held outer) (Lasting A (Held ended1)) (Lasting A B) (IsOrdered-Held outer)
      (IsOrdered-Held outer) (IsOrdered-Lasting A (Held ended1) (IsOrdered-Held ended1))
      (IsOrdered-Lasting A B (IsOrdered-Marked rest body tree))
      (same_refl (LastsUpTo longest) (Held outer)) lasting))

  -- Behind all moments it is what its body is.
  pub whole_restriction_seen : AreAllMoments rest.start outer
      → IsSetOf inside (Lasting A (Held inside1)) → IsSetOf ended (Lasting A (Held ended1))
      → Seen longest rest (restriction_one to outer body) (restriction tree ends) inside ended
  whole_restriction_seen all x y = seen_as x
      (same_trans (LastsUpTo longest) (Held ended) (Lasting A (Held ended1))
      (Composed (Held outer) (Lasting A B))
      (same_agree (LastsUpTo longest) (Held ended) (Lasting A (Held ended1)) (set_agrees y))
      (same_trans (LastsUpTo longest) (Lasting A (Held ended1)) (Lasting A B)
      (Composed (Held outer) (Lasting A B)) lasting
      (same_back (LastsUpTo longest) (Composed (Held outer) (Lasting A B)) (Lasting A B)
      (same_agree (LastsUpTo longest) (Composed (Held outer) (Lasting A B)) (Lasting A B)
      (behind_all rest.start outer all (Lasting A B)
      (Scales-Lasting A B (DurationScales-LastsWithin ends) (Scales-Marked rest body tree))
      (λ a b n some h. (around_present rest body tree a b n h.related).0))))))

-- One of an intersection.
module _ (longest reach : Option ℕ) (rest : Rest) (to : ℕ) (outer : List ZoneBounds)
    (one other : MarkTree) (left right : PatternTree) (counted : IsReach longest AnyDuration reach)
    (inside1 ended1 inside2 ended2 : List ZoneBounds)
    (f : Seen reach rest one left inside1 ended1) (g : Seen reach rest other right inside2 ended2)
    (inside ended : List ZoneBounds) where
  abbrev K : Pairs
  K = Both (Marked rest one left) (Marked rest other right)

  meeting : Same (LastsUpTo longest) (Both (Held ended1) (Held ended2)) K
  meeting = record {
    at = λ a b n some short. (
      (λ h. record {
        left = (f.ended.at a b n some (counted.counts (b - a) n short tt)).0 h.left;
        right = (g.ended.at a b n some (counted.counts (b - a) n short tt)).0 h.right;
      }),
      (λ h. record {
        left = (f.ended.at a b n some (counted.counts (b - a) n short tt)).1 h.left;
        right = (g.ended.at a b n some (counted.counts (b - a) n short tt)).1 h.right;
      }),
    );
  }

  both_as : IsSetOf inside (Both (Held inside1) (Held inside2))
      → Same (LastsUpTo longest) (Held ended)
      (Marked rest (intersection_one to outer one other) (intersection left right))
      → Seen longest rest (intersection_one to outer one other) (intersection left right) inside
      ended
  both_as x y = record {
    inside = set_of (agree_then (set_agrees x)
        (Agree-Both (Held inside1) (MatchesRest left rest) (Held inside2)
        (MatchesRest right rest) (set_agrees f.inside) (set_agrees g.inside)));
    ended = y;
  }

  pub intersection_seen : IsSetOf inside (Both (Held inside1) (Held inside2))
      → IsSetOf ended (Composed (Held outer) (Both (Held ended1) (Held ended2)))
      → Seen longest rest (intersection_one to outer one other) (intersection left right) inside
      ended
  intersection_seen x y = both_as x
      (same_trans (LastsUpTo longest) (Held ended)
      (Composed (Held outer) (Both (Held ended1) (Held ended2))) (Composed (Held outer) K)
      (same_agree (LastsUpTo longest) (Held ended)
      (Composed (Held outer) (Both (Held ended1) (Held ended2))) (set_agrees y))
      (same_composed (LastsUpTo longest) (LastsUpTo-downward longest) (LastsUpTo-scales longest)
      (Held outer) (Held outer) (Both (Held ended1) (Held ended2)) K (IsOrdered-Held outer)
      (IsOrdered-Held outer)
      (IsOrdered-Both (Held ended1) (Held ended2) (IsOrdered-Held ended1))
      (IsOrdered-Both (Marked rest one left) (Marked rest other right)
      (IsOrdered-Marked rest one left))
      (same_refl (LastsUpTo longest) (Held outer)) meeting))

  pub whole_intersection_seen : AreAllMoments rest.start outer
      → IsSetOf inside (Both (Held inside1) (Held inside2))
      → IsSetOf ended (Both (Held ended1) (Held ended2))
      → Seen longest rest (intersection_one to outer one other) (intersection left right) inside
      ended
  whole_intersection_seen all x y = both_as x
      (same_trans (LastsUpTo longest) (Held ended) (Both (Held ended1) (Held ended2))
      (Composed (Held outer) K)
      (same_agree (LastsUpTo longest) (Held ended) (Both (Held ended1) (Held ended2))
      (set_agrees y))
      (same_trans (LastsUpTo longest) (Both (Held ended1) (Held ended2)) K
      (Composed (Held outer) K) meeting
      (same_back (LastsUpTo longest) (Composed (Held outer) K) K
      (same_agree (LastsUpTo longest) (Composed (Held outer) K) K
      (behind_all rest.start outer all K
      (Scales-Both (Marked rest one left) (Marked rest other right)
      (Scales-Marked rest one left) (Scales-Marked rest other right))
      (λ a b n some h. (around_present rest one left a b n h.left).0))))))
