-- The walk over a restriction and over an intersection, of the walks over their bodies.
use Rattle.std.proofs.Common.{ℕ, Option, refl, sym, ◌≡◌, ◌↔◌, ◌-◌, ◌*◌, ◌<◌, ◌≤◌, List, inl, inr, ⊎_elim, arith, subst}
use Rattle.std.proofs.Math.Nat.{mul-pos}
use Rattle.tre_pairs.specs.Cuts.{Crossing}
use Rattle.tre_pairs.specs.Pairs.{Pairs, Composed, Either, Both, Lasting}
use Rattle.tre_pairs.proofs.Scaling.{Scales-Both}
use Rattle.tre_pairs.proofs.Laws.{Scales, DurationScales, IsOrdered, IsInstant, Agree}
use Rattle.tre_pairs.proofs.Order.{IsOrdered-Both}
use Rattle.tre_pairs.proofs.Shortening.{finer_duration}
use Rattle.tre_pairs.proofs.Steps.{Scales-SameTime}
use Rattle.tre_pairs.proofs.Ticks.{le_up, le_down, ge_up, ge_down, gt_up, gt_down}
use Rattle.tre_zone.specs.Held.{Held}
use Rattle.tre_zone.specs.Interval.{IntervalEnds, LastsWithin}
use Rattle.tre_zone.specs.Longest.{LastsUpTo}
use Rattle.tre_zone.specs.declared.zone_bounds.ZoneBounds.{ZoneBounds}
use Rattle.tre_zone.proofs.HeldSets.{IsOrdered-Held}
use Rattle.tre_zone.proofs.Lasting.{LastsUpTo-downward, LastsUpTo-scales}
use Rattle.tre_trace.specs.Trace.{Timeline, AreLong}
use Rattle.tre_syntax.specs.Meaning.{MatchesRest}
use Rattle.tre_syntax.specs.PatternTree.{PatternTree, intersection, restriction}
use Rattle.tre_syntax.proofs.CutMeaning.{IsOrdered-rest, IsBounded-rest, Scales-rest}
use Rattle.tre_edges.specs.Piece.{end_of_piece}
use Rattle.tre_edges.specs.declared.piece.Piece.{Piece}
use Rattle.tre_mark.specs.MarkTree.{MarkTree, intersection_one, restriction_one}
use Rattle.tre_mark.specs.Marked.{AnyDuration, Marked}
use Rattle.tre_mark.proofs.Meanings.{IsOrdered-Marked}
use Rattle.tre_pairs.specs.Before.{Before}
use Rattle.tre_pairs.specs.Same.{Same}
use Rattle.tre_pairs.proofs.SameLaws.{same_agree, same_trans}
use Rattle.tre_pairs.proofs.Instances.{instance_goes, both_goes}
use Rattle.tre_forms.specs.Enters.{over, behind, Goes, Enters}

-- All moments of the piece: what enters the body of an instance.
pub record IsMomentOf (piece : Piece) (a b n : ℕ) : Type 0 where
  pub same : a ≡ b
  pub begin : piece.begin * n ≤ a
  pub end : b ≤ end_of_piece piece * n

module _ (piece : Piece) where
  pub moments_instant : IsInstant (IsMomentOf piece)
  moments_instant = record { same = λ a b n h. h.same }

  pub moments_scale : Scales (IsMomentOf piece)
  moments_scale = record {
    up = λ k a b n pos h.
        let eq = h.same in
        record {
          same = (Scales-SameTime.up k a b n pos (record { same = eq })).same;
          begin = le_up k piece.begin a n h.begin;
          end = ge_up k (end_of_piece piece) b n h.end;
        };
    down = λ k a b n pos h. record {
      same = (Scales-SameTime.down k a b n pos (record { same = h.same })).same;
      begin = le_down k piece.begin a n pos h.begin;
      end = ge_down k (end_of_piece piece) b n pos h.end;
    };
  }

  -- Behind the moments of the piece, X is what it is from the begin of the piece on.
  module _ (X : Pairs) (scales : Scales X) where
    abbrev cut : ℕ
    cut = end_of_piece piece

    pub from_moments : (a b n : ℕ) → 0 < n → Composed (Before cut (IsMomentOf piece)) X a b n
        → X a b n
    from_moments a b n some h =
        let k = h.factor in
        scales.down k a b n h.positive
        (subst (λ t. X t (k * b) (k * n)) (sym h.left.related.same) h.right)

    pub moments_within : (a b n : ℕ) → 0 < n → Composed (Before cut (IsMomentOf piece)) X a b n
        → piece.begin * n ≤ a
    moments_within a b n some h =
        le_down h.factor piece.begin a n h.positive h.left.related.begin

    pub moments_cover : (m b n : ℕ) → piece.begin * n ≤ m → m < cut * n → X m b n
        → Composed (Before cut (IsMomentOf piece)) X m b n
    moments_cover m b n begin early x = record {
      factor = 1;
      positive = omega arith;
      midpoint = 1 * m;
      left = record {
        related = record {
          same = refl;
          begin = le_up 1 piece.begin m n begin;
          end = omega (arith, early);
        };
        early = gt_up 1 cut m n (omega arith) early;
      };
      right = scales.up 1 m b n (omega arith) x;
    }

-- What is left of the pairs that had entered, and of those that enter before the end: all that
-- something may still end behind.
pub record IsLeft (longest : Option ℕ) (piece : Piece) (outer : List ZoneBounds) (E : Pairs)
    (outer' : List ZoneBounds) : Type 0 where
  pub sound : (a m n : ℕ) → 0 < n → Held outer' a m n
      → Either (Held outer) (Before (end_of_piece piece) E) a m n
  pub kept : (a m b n : ℕ) → 0 < n
      → Either (Held outer) (Before (end_of_piece piece) E) a m n → m ≤ b
      → end_of_piece piece * n ≤ b → LastsUpTo longest (b - m) n → Held outer' a m n

-- The pairs that had entered ended before the piece, and those that enter end in it.
module _ (longest reach : Option ℕ) (piece : Piece) (outer outer' : List ZoneBounds) (E : Pairs)
    (oe : IsOrdered E)
    (old : (a b n : ℕ) → 0 < n → Held outer a b n → b < piece.begin * n)
    (new : (a b n : ℕ) → 0 < n → E a b n → piece.begin * n ≤ b)
    (left_of : IsLeft reach piece outer E outer') where
  abbrev Mom : Pairs
  Mom = IsMomentOf piece

  module _ (to to' : ℕ) (body body' : MarkTree) (tree : PatternTree) (ends : IntervalEnds)
      (counts : (d n : ℕ) → LastsUpTo longest d n → LastsWithin ends d n → LastsUpTo reach d n)
      (began : (next : Timeline) (a b n : ℕ) → 0 < n → Marked (over piece next) body tree a b n
      → a < piece.begin * n)
      (x : Enters reach piece body tree Mom body') where
    pub restriction_enters : Enters longest piece (restriction_one to outer body)
        (restriction tree ends) E (restriction_one to' outer' body')
    restriction_enters = record {
      leaves = λ next long.
          let X = MatchesRest tree (over piece next) in
          let scales = Scales-rest tree (over piece next) in
          instance_goes piece.begin (end_of_piece piece) (LastsUpTo longest) (LastsUpTo reach)
          (LastsWithin ends) (Held outer) (Held outer') E Mom (Marked (over piece next) body tree)
          (Marked (behind piece next) body' tree) X
          (IsOrdered-Held outer) oe (IsOrdered-rest tree (over piece next))
          (IsOrdered-Marked (over piece next) body tree)
          (IsOrdered-Marked (behind piece next) body' tree) old new (omega arith) (began next)
          (from_moments piece X scales) (moments_within piece X scales)
          (λ a m b n some e h. moments_cover piece X scales m b n (new a m n some e.related) e.early h)
          (λ a m b n some le more short within. counts (b - m) n
          ((LastsUpTo-downward longest).at (b - m) (b - a) n (omega (arith, le, more)) short) within)
          (λ k a b n pos h. finer_duration (LastsUpTo longest) (LastsUpTo-downward longest)
          (LastsUpTo-scales longest) k a b n pos h)
          left_of.sound left_of.kept (x.leaves next long);
    }

  -- One and the other begin before the piece what had begun.
  module _ (to to' : ℕ) (one other one' other' : MarkTree) (left right : PatternTree)
      (counts : (d n : ℕ) → LastsUpTo longest d n → LastsUpTo reach d n)
      (began_one : (next : Timeline) (a b n : ℕ) → 0 < n → Marked (over piece next) one left a b n
      → a < piece.begin * n)
      (began_other : (next : Timeline) (a b n : ℕ) → 0 < n
      → Marked (over piece next) other right a b n → a < piece.begin * n)
      (x : Enters reach piece one left Mom one') (y : Enters reach piece other right Mom other')
    where
      module _ (next : Timeline) (long : AreLong next.segments) where
        abbrev end : ℕ
        end = end_of_piece piece

        abbrev X : Pairs
        X = MatchesRest left (over piece next)

        abbrev Y : Pairs
        Y = MatchesRest right (over piece next)

        abbrev M : Pairs
        M = Both (Marked (over piece next) one left) (Marked (over piece next) other right)

        abbrev M' : Pairs
        M' = Both (Marked (behind piece next) one' left) (Marked (behind piece next) other' right)

        scales_both : Scales (Both X Y)
        scales_both = Scales-Both X Y (Scales-rest left (over piece next))
            (Scales-rest right (over piece next))

        bodies : Same (LastsUpTo reach) M'
            (Crossing end (Either M (Composed (Before end Mom) (Both X Y))))
        bodies = both_goes piece.begin end (LastsUpTo reach) Mom (Marked (over piece next) one left)
            (Marked (behind piece next) one' left) X (Marked (over piece next) other right)
            (Marked (behind piece next) other' right) Y (moments_instant piece) (moments_scale piece)
            (Scales-rest left (over piece next)) (Scales-rest right (over piece next))
            (λ a b n some h.
            let eq = h.same in
            let begin = h.begin in
            omega (arith, eq, begin)) (began_one next) (began_other next) (x.leaves next long)
            (y.leaves next long)

        any : Same (LastsUpTo longest) (Composed (Held outer') (Lasting AnyDuration M'))
            (Crossing end (Either (Composed (Held outer) (Lasting AnyDuration M))
            (Composed (Before end E) (Lasting AnyDuration (Both X Y)))))
        any = instance_goes piece.begin end (LastsUpTo longest) (LastsUpTo reach) AnyDuration
            (Held outer) (Held outer') E Mom M M' (Both X Y) (IsOrdered-Held outer) oe
            (IsOrdered-Both X Y (IsOrdered-rest left (over piece next)))
            (IsOrdered-Both (Marked (over piece next) one left) (Marked (over piece next) other right)
            (IsOrdered-Marked (over piece next) one left))
            (IsOrdered-Both (Marked (behind piece next) one' left)
            (Marked (behind piece next) other' right) (IsOrdered-Marked (behind piece next) one' left))
            old new (omega arith) (λ a b n some h. began_one next a b n some h.left)
            (from_moments piece (Both X Y) scales_both) (moments_within piece (Both X Y) scales_both)
            (λ a m b n some e h. moments_cover piece (Both X Y) scales_both m b n
            (new a m n some e.related) e.early h)
            (λ a m b n some le more short within. counts (b - m) n
            ((LastsUpTo-downward longest).at (b - m) (b - a) n (omega (arith, le, more)) short))
            (λ k a b n pos h. finer_duration (LastsUpTo longest) (LastsUpTo-downward longest)
            (LastsUpTo-scales longest) k a b n pos h)
            left_of.sound left_of.kept bodies

        meets : Same (LastsUpTo longest)
            (Marked (behind piece next) (intersection_one to' outer' one' other') (intersection left right))
            (Crossing end (Goes piece next (intersection_one to outer one other)
            (intersection left right) (Before end E)))
        meets = record {
          at = λ a b n some short.
              let c = any.at a b n some short in (
                (λ h.
                    let d = c.0 (record {
                      factor = h.factor;
                      positive = h.positive;
                      midpoint = h.midpoint;
                      left = h.left;
                      right = record { related = h.right; admitted = tt };
                    }) in
                    record {
                      related = ⊎_elim
                          (λ p. inl (record {
                            factor = p.factor;
                            positive = p.positive;
                            midpoint = p.midpoint;
                            left = p.left;
                            right = p.right.related;
                          }))
                          (λ p. inr (record {
                            factor = p.factor;
                            positive = p.positive;
                            midpoint = p.midpoint;
                            left = p.left;
                            right = p.right.related;
                          })) d.related;
                      begin = d.begin;
                      end = d.end;
                    }),
                (λ h.
                    let d = c.1 (record {
                      related = ⊎_elim
                          (λ p. inl (record {
                            factor = p.factor;
                            positive = p.positive;
                            midpoint = p.midpoint;
                            left = p.left;
                            right = record { related = p.right; admitted = tt };
                          }))
                          (λ p. inr (record {
                            factor = p.factor;
                            positive = p.positive;
                            midpoint = p.midpoint;
                            left = p.left;
                            right = record { related = p.right; admitted = tt };
                          })) h.related;
                      begin = h.begin;
                      end = h.end;
                    }) in
                    record {
                      factor = d.factor;
                      positive = d.positive;
                      midpoint = d.midpoint;
                      left = d.left;
                      right = d.right.related;
                    }),
              );
        }

      pub intersection_enters : Enters longest piece (intersection_one to outer one other)
          (intersection left right) E (intersection_one to' outer' one' other')
      intersection_enters = record { leaves = λ next long. meets next long }
