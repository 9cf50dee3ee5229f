-- The walk over a restriction and over an intersection that every moment enters: what entered need
-- not be kept. All moments stand in its place.
use Rattle.std.proofs.Common.{ℕ, Option, refl, sym, ◌≡◌, ◌-◌, ◌*◌, ◌<◌, ◌≤◌, List, inl, inr, ⊎_elim, arith, subst}
use Rattle.std.proofs.Math.Nat.{mul-pos, mul-sub}
use Rattle.tre_pairs.specs.Cuts.{Crossing}
use Rattle.tre_pairs.specs.Pairs.{Pairs, Composed, Either, Both, Lasting}
use Rattle.tre_pairs.proofs.Scaling.{Scales-Both, Scales-Lasting}
use Rattle.tre_pairs.proofs.Laws.{Scales, IsInstant, Agree}
use Rattle.tre_zone.specs.Held.{Held}
use Rattle.tre_zone.specs.Interval.{IntervalEnds, LastsWithin}
use Rattle.tre_zone.specs.Longest.{LastsUpTo}
use Rattle.tre_zone.specs.declared.zone_bounds.ZoneBounds.{ZoneBounds}
use Rattle.tre_trace.specs.Trace.{Timeline, AreLong}
use Rattle.tre_syntax.specs.Meaning.{MatchesRest}
use Rattle.tre_syntax.specs.PatternTree.{PatternTree, intersection, restriction}
use Rattle.tre_syntax.proofs.CutMeaning.{Scales-rest}
use Rattle.tre_syntax.proofs.MeaningLaws.{DurationScales-LastsWithin}
use Rattle.tre_edges.specs.Piece.{end_of_piece}
use Rattle.tre_edges.specs.declared.piece.Piece.{Piece}
use Rattle.tre_mark.specs.MarkTree.{MarkTree, intersection_one, restriction_one}
use Rattle.tre_mark.specs.Marked.{Marked}
use Rattle.tre_mark.proofs.Meanings.{Scales-Marked, around_present}
use Rattle.tre_pairs.specs.Before.{Before}
use Rattle.tre_pairs.specs.Same.{Same}
use Rattle.tre_pairs.proofs.SameLaws.{same_agree, same_back, same_trans, same_crossing, same_either, same_refl}
use Rattle.tre_pairs.proofs.Instances.{whole_goes, both_goes}
use Rattle.tre_forms.specs.Enters.{over, behind, Goes, Enters}
use Rattle.tre_forms.proofs.Forms.{begin_end}

-- All moments up to the time, and moments alone.
pub record AreAllMoments (time : ℕ) (zones : List ZoneBounds) : Type 0 where
  pub same : (a b n : ℕ) → 0 < n → Held zones a b n → a ≡ b
  pub there : (a n : ℕ) → 0 < n → a ≤ time * n → Held zones a a n

-- Behind all moments a relation is what it is.
pub behind_all : (time : ℕ) (zones : List ZoneBounds) → AreAllMoments time zones → (R : Pairs)
    → Scales R → ((a b n : ℕ) → 0 < n → R a b n → a ≤ time * n)
    → Agree (Composed (Held zones) R) R
behind_all time zones all R scales begins = record {
  at = λ a b n some. (
    (λ h.
        let k = h.factor in
        let eq = all.same (k * a) h.midpoint (k * n) (mul-pos h.positive some) h.left in
        scales.down k a b n h.positive (subst (λ t. R t (k * b) (k * n)) (sym eq) h.right)),
    (λ h.
        let one : 0 < 1 = omega arith in
        let finer = mul-pos one some in
        let scaled = scales.up 1 a b n one h in
        record {
          factor = 1;
          positive = one;
          midpoint = 1 * a;
          left = all.there (1 * a) (1 * n) finer (begins (1 * a) (1 * b) (1 * n) finer scaled);
          right = scaled;
        }),
  );
}

module _ (longest reach : Option ℕ) (piece : Piece) (all : List ZoneBounds)
    (moments : AreAllMoments (end_of_piece piece) all) (E : Pairs) (instant : IsInstant E)
    (scales_e : Scales E) where
  abbrev cut : ℕ
  cut = end_of_piece piece

  module _ (to to' : ℕ) (body body' : MarkTree) (tree : PatternTree) (ends : IntervalEnds)
      (counts : (d n : ℕ) → LastsUpTo longest d n → LastsWithin ends d n → LastsUpTo reach d n)
      (x : Enters reach piece body tree E body') where
    abbrev A : ℕ → ℕ → Type 0
    A = LastsWithin ends

    module _ (next : Timeline) (long : AreLong next.segments) where
      abbrev M : Pairs
      M = Marked (over piece next) body tree

      abbrev M' : Pairs
      M' = Marked (behind piece next) body' tree

      abbrev X : Pairs
      X = MatchesRest tree (over piece next)

      gone : Same (LastsUpTo longest) (Lasting A M')
          (Crossing cut (Either (Lasting A M) (Composed (Before cut E) (Lasting A X))))
      gone = whole_goes cut (LastsUpTo longest) (LastsUpTo reach) A E M M' X instant
          (Scales-rest tree (over piece next)) counts
          (λ k a b n pos h. subst (λ t. A t (k * n)) (mul-sub k b a)
          ((DurationScales-LastsWithin ends).up k (b - a) n pos h))
          (λ k a b n pos h. (DurationScales-LastsWithin ends).down k (b - a) n pos
          (subst (λ t. A t (k * n)) (sym (mul-sub k b a)) h))
          (x.leaves next long)

      old_all : Agree (Composed (Held all) (Lasting A M)) (Lasting A M)
      old_all = behind_all cut all moments (Lasting A M)
          (Scales-Lasting A M (DurationScales-LastsWithin ends)
          (Scales-Marked (over piece next) body tree))
          (λ a b n some h.
          let around = (around_present (over piece next) body tree a b n h.related).0 in
          let later = begin_end piece n in
          omega (arith, around, later))

      new_all : Agree (Composed (Held all) (Lasting A M')) (Lasting A M')
      new_all = behind_all cut all moments (Lasting A M')
          (Scales-Lasting A M' (DurationScales-LastsWithin ends)
          (Scales-Marked (behind piece next) body' tree))
          (λ a b n some h. (around_present (behind piece next) body' tree a b n h.related).0)

      wholly : Same (LastsUpTo longest)
          (Marked (behind piece next) (restriction_one to' all body') (restriction tree ends))
          (Crossing cut (Goes piece next (restriction_one to all body) (restriction tree ends)
          (Before cut E)))
      wholly = same_trans (LastsUpTo longest) (Composed (Held all) (Lasting A M')) (Lasting A M')
          (Crossing cut (Either (Composed (Held all) (Lasting A M))
          (Composed (Before cut E) (Lasting A X))))
          (same_agree (LastsUpTo longest) (Composed (Held all) (Lasting A M')) (Lasting A M') new_all)
          (same_trans (LastsUpTo longest) (Lasting A M')
          (Crossing cut (Either (Lasting A M) (Composed (Before cut E) (Lasting A X))))
          (Crossing cut (Either (Composed (Held all) (Lasting A M))
          (Composed (Before cut E) (Lasting A X)))) gone
          (same_crossing (LastsUpTo longest)
          (Either (Lasting A M) (Composed (Before cut E) (Lasting A X)))
          (Either (Composed (Held all) (Lasting A M)) (Composed (Before cut E) (Lasting A X)))
          (same_either (LastsUpTo longest) (Lasting A M) (Composed (Held all) (Lasting A M))
          (Composed (Before cut E) (Lasting A X)) (Composed (Before cut E) (Lasting A X))
          (same_back (LastsUpTo longest) (Composed (Held all) (Lasting A M)) (Lasting A M)
          (same_agree (LastsUpTo longest) (Composed (Held all) (Lasting A M)) (Lasting A M) old_all))
          (same_refl (LastsUpTo longest) (Composed (Before cut E) (Lasting A X)))) cut))

    pub whole_restriction_enters : Enters longest piece (restriction_one to all body)
        (restriction tree ends) E (restriction_one to' all body')
    whole_restriction_enters = record { leaves = λ next long. wholly next long }

  -- Both sides begin before the piece what had begun, and are entered by the same moments.
  module _ (to to' : ℕ) (one other one' other' : MarkTree) (left right : PatternTree)
      (new : (a b n : ℕ) → 0 < n → E a b n → piece.begin * n ≤ b)
      (began_one : (next : Timeline) (a b n : ℕ) → 0 < n → Marked (over piece next) one left a b n
      → a < piece.begin * n)
      (began_other : (next : Timeline) (a b n : ℕ) → 0 < n
      → Marked (over piece next) other right a b n → a < piece.begin * n)
      (x : Enters longest piece one left E one') (y : Enters longest piece other right E other')
    where
      module _ (next : Timeline) (long : AreLong next.segments) where
        abbrev N : Pairs
        N = Both (Marked (over piece next) one left) (Marked (over piece next) other right)

        abbrev N' : Pairs
        N' = Both (Marked (behind piece next) one' left) (Marked (behind piece next) other' right)

        abbrev Y : Pairs
        Y = Both (MatchesRest left (over piece next)) (MatchesRest right (over piece next))

        went : Same (LastsUpTo longest) N' (Crossing cut (Either N (Composed (Before cut E) Y)))
        went = both_goes piece.begin cut (LastsUpTo longest) E (Marked (over piece next) one left)
            (Marked (behind piece next) one' left) (MatchesRest left (over piece next))
            (Marked (over piece next) other right) (Marked (behind piece next) other' right)
            (MatchesRest right (over piece next)) instant scales_e
            (Scales-rest left (over piece next)) (Scales-rest right (over piece next)) new
            (began_one next) (began_other next) (x.leaves next long) (y.leaves next long)

        were_all : Agree (Composed (Held all) N) N
        were_all = behind_all cut all moments N
            (Scales-Both (Marked (over piece next) one left) (Marked (over piece next) other right)
            (Scales-Marked (over piece next) one left) (Scales-Marked (over piece next) other right))
            (λ a b n some h.
            let around = (around_present (over piece next) one left a b n h.left).0 in
            let later = begin_end piece n in
            omega (arith, around, later))

        are_all : Agree (Composed (Held all) N') N'
        are_all = behind_all cut all moments N'
            (Scales-Both (Marked (behind piece next) one' left)
            (Marked (behind piece next) other' right) (Scales-Marked (behind piece next) one' left)
            (Scales-Marked (behind piece next) other' right))
            (λ a b n some h. (around_present (behind piece next) one' left a b n h.left).0)

        meeting : Same (LastsUpTo longest)
            (Marked (behind piece next) (intersection_one to' all one' other')
            (intersection left right))
            (Crossing cut (Goes piece next (intersection_one to all one other)
            (intersection left right) (Before cut E)))
        meeting = same_trans (LastsUpTo longest) (Composed (Held all) N') N'
            (Crossing cut (Either (Composed (Held all) N) (Composed (Before cut E) Y)))
            (same_agree (LastsUpTo longest) (Composed (Held all) N') N' are_all)
            (same_trans (LastsUpTo longest) N' (Crossing cut (Either N (Composed (Before cut E) Y)))
            (Crossing cut (Either (Composed (Held all) N) (Composed (Before cut E) Y))) went
            (same_crossing (LastsUpTo longest) (Either N (Composed (Before cut E) Y))
            (Either (Composed (Held all) N) (Composed (Before cut E) Y))
            (same_either (LastsUpTo longest) N (Composed (Held all) N) (Composed (Before cut E) Y)
            (Composed (Before cut E) Y)
            (same_back (LastsUpTo longest) (Composed (Held all) N) N
            (same_agree (LastsUpTo longest) (Composed (Held all) N) N were_all))
            (same_refl (LastsUpTo longest) (Composed (Before cut E) Y))) cut))

      pub whole_intersection_enters : Enters longest piece (intersection_one to all one other)
          (intersection left right) E (intersection_one to' all one' other')
      whole_intersection_enters = record { leaves = λ next long. meeting next long }
