-- The walk over a sequence and over an alternation, of the walks over their parts.
use Rattle.std.proofs.Common.{ℕ, Option, ◌*◌, ◌<◌, ◌≤◌, [], ◌∷◌, inl, inr, ⊎_elim, arith}
use Rattle.std.proofs.Math.Nat.{mul-pos, mul-le-mul_right}
use Rattle.tre_pairs.specs.Cuts.{Crossing}
use Rattle.tre_pairs.specs.Pairs.{Pairs, Composed, Either}
use Rattle.tre_pairs.proofs.CutLaws.{IsCut, Scales-Crossing}
use Rattle.tre_pairs.proofs.Laws.{Scales, IsOrdered, Agree}
use Rattle.tre_pairs.proofs.Order.{IsOrdered-Composed, IsOrdered-Either}
use Rattle.tre_pairs.proofs.Ticks.{gt_up, le_down, ge_down}
use Rattle.tre_zone.specs.Longest.{LastsUpTo}
use Rattle.tre_zone.proofs.Lasting.{LastsUpTo-downward, LastsUpTo-scales}
use Rattle.tre_trace.specs.Trace.{Timeline, AreLong}
use Rattle.tre_syntax.specs.Meaning.{MatchesRest}
use Rattle.tre_syntax.specs.PatternTree.{PatternTree, sequence, alternation}
use Rattle.tre_syntax.proofs.CutMeaning.{IsOrdered-rest, IsBounded-rest, IsCut-Matches, Scales-rest}
use Rattle.tre_edges.specs.Piece.{end_of_piece, cut_behind}
use Rattle.tre_edges.specs.declared.piece.Piece.{Piece}
use Rattle.tre_mark.specs.MarkTree.{MarkTree, sequence_mark, alternation_mark}
use Rattle.tre_mark.specs.Marked.{Marked}
use Rattle.tre_mark.proofs.Growth.{mark_grows, mark_early}
use Rattle.tre_mark.proofs.Meanings.{IsOrdered-Marked, around_present}
use Rattle.tre_pairs.specs.Before.{Before}
use Rattle.tre_pairs.specs.Same.{Same}
use Rattle.tre_pairs.proofs.SameLaws.{same_refl, same_agree, same_back, same_trans, same_crossing, same_before, same_either, same_composed}
use Rattle.tre_pairs.proofs.Walk.{sequence_goes, Scales-Before}
use Rattle.tre_forms.specs.Begun.{EndsFrom}
use Rattle.tre_forms.specs.Enters.{over, alone, behind, Goes, GoesAlone, Enters}

pub long_front : (piece : Piece) → AreLong (piece.segment ∷ [])
long_front piece = (piece.long, tt)

pub cut_of : (piece : Piece) (next : Timeline) (tree : PatternTree)
    → IsCut (end_of_piece piece) (MatchesRest tree (over piece next))
    (MatchesRest tree (alone piece)) (MatchesRest tree (behind piece next))
cut_of piece next tree = IsCut-Matches (cut_behind piece next) (long_front piece) tree

pub IsOrdered-Before : (cut : ℕ) (R : Pairs) → IsOrdered R → IsOrdered (Before cut R)
IsOrdered-Before cut R r = record { le = λ a b n h. r.le a b n h.related }

pub IsOrdered-Crossing : (cut : ℕ) (R : Pairs) → IsOrdered R → IsOrdered (Crossing cut R)
IsOrdered-Crossing cut R r = record { le = λ a b n h. r.le a b n h.related }

pub begin_end : (piece : Piece) (n : ℕ) → piece.begin * n ≤ end_of_piece piece * n
begin_end piece n = mul-le-mul_right n (omega arith)

module _ (piece : Piece) (mark : MarkTree) (tree : PatternTree) (E : Pairs) (oe : IsOrdered E)
    (next : Timeline) where
  abbrev T' : ℕ
  T' = end_of_piece piece

  pub goes_ordered : IsOrdered (Goes piece next mark tree (Before T' E))
  goes_ordered = IsOrdered-Either (Marked (over piece next) mark tree)
      (Composed (Before T' E) (MatchesRest tree (over piece next)))
      (IsOrdered-Marked (over piece next) mark tree)
      (IsOrdered-Composed (Before T' E) (MatchesRest tree (over piece next))
      (IsOrdered-Before T' E oe) (IsOrdered-rest tree (over piece next)))

  pub alone_ordered : IsOrdered (GoesAlone piece mark tree E)
  alone_ordered = IsOrdered-Either (Marked (alone piece) mark tree)
      (Composed E (MatchesRest tree (alone piece)))
      (IsOrdered-Marked (alone piece) mark tree)
      (IsOrdered-Composed E (MatchesRest tree (alone piece)) oe (IsOrdered-rest tree (alone piece)))

  -- All of it begins by the end of the piece.
  pub goes_begins : (a b n : ℕ) → 0 < n → Goes piece next mark tree (Before T' E) a b n → a ≤ T' * n
  goes_begins a b n some h = ⊎_elim
      (λ m.
      let around = (around_present (over piece next) mark tree a b n m).0 in
      let later = begin_end piece n in
      omega (arith, around, later))
      (λ e.
      let k = e.factor in
      let le = oe.le (k * a) e.midpoint (k * n) e.left.related in
      let early = e.left.early in
      ge_down k T' a n e.positive (omega (arith, le, early))) h

  -- Before the end of the piece what comes behind it is of no account.
  pub goes_before : Agree (Before T' (GoesAlone piece mark tree E))
      (Before T' (Goes piece next mark tree (Before T' E)))
  goes_before = record {
    at = λ a b n some. (
      (λ h. record {
        related = ⊎_elim
            (λ m. inl ((mark_grows (cut_behind piece next) mark tree).at a b n m))
            (λ e.
            let le = (IsOrdered-rest tree (alone piece)).le e.midpoint (e.factor * b) (e.factor * n) e.right in
            let early = gt_up e.factor T' b n e.positive h.early in
            inr (record {
              factor = e.factor;
              positive = e.positive;
              midpoint = e.midpoint;
              left = record { related = e.left; early = omega (arith, le, early) };
              right = (cut_of piece next tree).grows.at e.midpoint (e.factor * b) (e.factor * n) e.right;
            })) h.related;
        early = h.early;
      }),
      (λ h. record {
        related = ⊎_elim
            (λ m. inl ((mark_early (cut_behind piece next) mark tree).at a b n h.early m))
            (λ e. inr (record {
              factor = e.factor;
              positive = e.positive;
              midpoint = e.midpoint;
              left = e.left.related;
              right = (cut_of piece next tree).early.at e.midpoint (e.factor * b) (e.factor * n)
                  (gt_up e.factor T' b n e.positive h.early) e.right;
            })) h.related;
        early = h.early;
      }),
    );
  }

-- E enters the sequence; F is what the first part tells over the piece alone: that enters the
-- second part.
module _ (longest : Option ℕ) (piece : Piece) (one other one' other' : MarkTree)
    (left right : PatternTree) (E F : Pairs) (se : Scales E) (oe : IsOrdered E) (of : IsOrdered F)
    (fed : Same (LastsUpTo longest) F (GoesAlone piece one left E))
    (x : Enters longest piece one left E one') (y : Enters longest piece other right F other') where
  module _ (next : Timeline) (long : AreLong next.segments) where
    abbrev D : ℕ → ℕ → Type 0
    D = LastsUpTo longest

    abbrev cut : ℕ
    cut = end_of_piece piece

    abbrev G : Pairs
    G = Goes piece next one left (Before cut E)

    abbrev N : Pairs
    N = Marked (over piece next) other right

    abbrev X : Pairs
    X = MatchesRest left (over piece next)

    abbrev Y : Pairs
    Y = MatchesRest right (over piece next)

    abbrev V : Pairs
    V = MatchesRest right (behind piece next)

    g_ordered : IsOrdered G
    g_ordered = goes_ordered piece one left E oe next

    fed_before : Same D (Before cut F) (Before cut G)
    fed_before = same_trans D (Before cut F) (Before cut (GoesAlone piece one left E)) (Before cut G)
        (same_before D F (GoesAlone piece one left E) fed cut)
        (same_agree D (Before cut (GoesAlone piece one left E)) (Before cut G)
        (goes_before piece one left E oe next))

    first : Same D (Composed (Marked (behind piece next) one' left) V) (Composed (Crossing cut G) V)
    first = same_composed D (LastsUpTo-downward longest) (LastsUpTo-scales longest)
        (Marked (behind piece next) one' left) (Crossing cut G) V V
        (IsOrdered-Marked (behind piece next) one' left) (IsOrdered-Crossing cut G g_ordered)
        (IsOrdered-rest right (behind piece next)) (IsOrdered-rest right (behind piece next))
        (x.leaves next long) (same_refl D V)

    second : Same D (Marked (behind piece next) other' right)
        (Crossing cut (Either N (Composed (Before cut G) Y)))
    second = same_trans D (Marked (behind piece next) other' right)
        (Crossing cut (Either N (Composed (Before cut F) Y)))
        (Crossing cut (Either N (Composed (Before cut G) Y)))
        (y.leaves next long)
        (same_crossing D (Either N (Composed (Before cut F) Y)) (Either N (Composed (Before cut G) Y))
        (same_either D N N (Composed (Before cut F) Y) (Composed (Before cut G) Y) (same_refl D N)
        (same_composed D (LastsUpTo-downward longest) (LastsUpTo-scales longest)
        (Before cut F) (Before cut G) Y Y (IsOrdered-Before cut F of)
        (IsOrdered-Before cut G g_ordered) (IsOrdered-rest right (over piece next))
        (IsOrdered-rest right (over piece next)) fed_before (same_refl D Y))) cut)

    both_parts : Same D
        (Marked (behind piece next) (sequence_mark one' other') (sequence left right))
        (Crossing cut (Goes piece next (sequence_mark one other) (sequence left right)
        (Before cut E)))
    both_parts = same_trans D
        (Marked (behind piece next) (sequence_mark one' other') (sequence left right))
        (Either (Composed (Crossing cut G) V) (Crossing cut (Either N (Composed (Before cut G) Y))))
        (Crossing cut (Goes piece next (sequence_mark one other) (sequence left right)
        (Before cut E)))
        (same_either D (Composed (Marked (behind piece next) one' left) V) (Composed (Crossing cut G) V)
        (Marked (behind piece next) other' right)
        (Crossing cut (Either N (Composed (Before cut G) Y))) first second)
        (same_agree D
        (Either (Composed (Crossing cut G) V) (Crossing cut (Either N (Composed (Before cut G) Y))))
        (Crossing cut (Goes piece next (sequence_mark one other) (sequence left right)
        (Before cut E)))
        (sequence_goes cut (Marked (over piece next) one left) N (Before cut E) X Y
        (MatchesRest right (alone piece)) V (Scales-Before cut E se)
        (Scales-rest right (over piece next)) (cut_of piece next right)
        (IsOrdered-rest right (over piece next)) (goes_begins piece one left E oe next)))

  pub sequence_enters : Enters longest piece (sequence_mark one other) (sequence left right) E
      (sequence_mark one' other')
  sequence_enters = record { leaves = λ next long. both_parts next long }

-- E enters both sides.
module _ (longest : Option ℕ) (piece : Piece) (one other one' other' : MarkTree)
    (left right : PatternTree) (E : Pairs)
    (x : Enters longest piece one left E one') (y : Enters longest piece other right E other') where
  pub alternation_enters : Enters longest piece (alternation_mark one other) (alternation left right) E
      (alternation_mark one' other')
  alternation_enters = record {
    leaves = λ next long. record {
      at = λ a b n some short. (
        (λ h. ⊎_elim
            (λ m.
            let c = ((x.leaves next long).at a b n some short).0 m in
            record {
              related = ⊎_elim (λ p. inl (inl p))
                  (λ e. inr (record {
                    factor = e.factor;
                    positive = e.positive;
                    midpoint = e.midpoint;
                    left = e.left;
                    right = inl e.right;
                  })) c.related;
              begin = c.begin;
              end = c.end;
            })
            (λ m.
            let c = ((y.leaves next long).at a b n some short).0 m in
            record {
              related = ⊎_elim (λ p. inl (inr p))
                  (λ e. inr (record {
                    factor = e.factor;
                    positive = e.positive;
                    midpoint = e.midpoint;
                    left = e.left;
                    right = inr e.right;
                  })) c.related;
              begin = c.begin;
              end = c.end;
            }) h),
        (λ c. ⊎_elim
            (λ m. ⊎_elim
            (λ p. inl (((x.leaves next long).at a b n some short).1
            (record { related = inl p; begin = c.begin; end = c.end })))
            (λ p. inr (((y.leaves next long).at a b n some short).1
            (record { related = inl p; begin = c.begin; end = c.end }))) m)
            (λ e. ⊎_elim
            (λ p. inl (((x.leaves next long).at a b n some short).1
            (record {
              related = inr (record {
                factor = e.factor;
                positive = e.positive;
                midpoint = e.midpoint;
                left = e.left;
                right = p;
              });
              begin = c.begin;
              end = c.end;
            })))
            (λ p. inr (((y.leaves next long).at a b n some short).1
            (record {
              related = inr (record {
                factor = e.factor;
                positive = e.positive;
                midpoint = e.midpoint;
                left = e.left;
                right = p;
              });
              begin = c.begin;
              end = c.end;
            }))) e.right) c.related),
      );
    };
  }

-- What a mark goes on with over the piece alone ends in it.
pub goes_from : (longest : Option ℕ) (piece : Piece) (mark : MarkTree) (tree : PatternTree)
    (E : Pairs) → EndsFrom longest piece.begin (GoesAlone piece mark tree E)
goes_from longest piece mark tree E = record {
  from = λ a b n some short h. ⊎_elim
      (λ m. (around_present (alone piece) mark tree a b n m).1)
      (λ e.
      let k = e.factor in
      let begin = (IsBounded-rest tree (alone piece)).begin e.midpoint (k * b) (k * n) e.right in
      let rising = (IsOrdered-rest tree (alone piece)).le e.midpoint (k * b) (k * n) e.right in
      le_down k piece.begin b n e.positive (omega (arith, begin, rising))) h;
}

pub same_from : (longest : Option ℕ) (time : ℕ) (E F : Pairs) → Same (LastsUpTo longest) F E
    → EndsFrom longest time E → EndsFrom longest time F
same_from longest time E F same e = record {
  from = λ a b n some short h. e.from a b n some short ((same.at a b n some short).0 h);
}
