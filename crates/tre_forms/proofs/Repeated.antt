-- The walk over a repetition, of the walk over what is repeated. Nothing is here.
use Rattle.std.proofs.Common.{ℕ, Option, ◌*◌, ◌<◌, [], inl, inr, ⊎_elim, refl, arith}
use Rattle.std.proofs.Math.Nat.{mul-pos}
use Rattle.tre_pairs.specs.Cuts.{Crossing}
use Rattle.tre_pairs.specs.Pairs.{Pairs, Composed, Either}
use Rattle.tre_pairs.proofs.CutLaws.{IsCut}
use Rattle.tre_pairs.proofs.Laws.{Scales, IsOrdered, Agree}
use Rattle.tre_pairs.proofs.Order.{IsOrdered-Composed, IsOrdered-Either}
use Rattle.tre_zone.specs.Longest.{LastsUpTo}
use Rattle.tre_zone.proofs.Lasting.{LastsUpTo-downward, LastsUpTo-scales}
use Rattle.tre_trace.specs.Trace.{Timeline, AreLong}
use Rattle.tre_syntax.specs.Meaning.{MatchesRest}
use Rattle.tre_syntax.specs.PatternTree.{PatternTree, empty, repetition}
use Rattle.tre_syntax.specs.Rest.{AtomMatches}
use Rattle.tre_syntax.proofs.Atoms.{Scales-Atom, IsInstant-Empty}
use Rattle.tre_syntax.proofs.CutMeaning.{IsOrdered-rest, IsBounded-rest, Scales-rest}
use Rattle.tre_zone.proofs.HeldSets.{Held-empty}
use Rattle.tre_edges.specs.Piece.{end_of_piece}
use Rattle.tre_edges.specs.declared.piece.Piece.{Piece}
use Rattle.tre_mark.specs.MarkTree.{MarkTree, repetition_mark}
use Rattle.tre_mark.specs.Marked.{Marked}
use Rattle.tre_mark.proofs.Meanings.{Scales-Marked, IsOrdered-Marked}
use Rattle.tre_pairs.specs.Before.{Before}
use Rattle.tre_pairs.specs.Same.{Same}
use Rattle.tre_pairs.proofs.Repeats.{cross_repetition}
use Rattle.tre_pairs.proofs.SameLaws.{same_refl, same_agree, same_trans, same_crossing, same_before, same_either, same_composed}
use Rattle.tre_pairs.proofs.Walk.{Scales-Before}
use Rattle.tre_forms.specs.Enters.{over, alone, behind, Goes, GoesAlone, Enters}
use Rattle.tre_forms.proofs.Forms.{cut_of, IsOrdered-Before, IsOrdered-Crossing, goes_before, goes_ordered}

-- E enters the repetition, and F is what it tells over the piece alone: that enters what is
-- repeated.
module _ (longest : Option ℕ) (piece : Piece) (body body' : MarkTree) (tree : PatternTree)
    (E F : Pairs) (se : Scales E) (oe : IsOrdered E) (of : IsOrdered F)
    (starts : (next : Timeline) (a b n : ℕ) → 0 < n
    → Either (Before (end_of_piece piece) E) (Marked (over piece next) body tree) a b n
    → AtomMatches (over piece next) empty b b n)
    (fed : Same (LastsUpTo longest) F
    (GoesAlone piece (repetition_mark [] body) (repetition tree) E))
    (x : Enters longest piece body tree F body') where
  module _ (next : Timeline) (long : AreLong next.segments) where
    abbrev D : ℕ → ℕ → Type 0
    D = LastsUpTo longest

    abbrev cut : ℕ
    cut = end_of_piece piece

    abbrev M : Pairs
    M = Marked (over piece next) body tree

    abbrev X : Pairs
    X = MatchesRest tree (over piece next)

    abbrev Any : Pairs
    Any = MatchesRest (repetition tree) (over piece next)

    abbrev V : Pairs
    V = MatchesRest (repetition tree) (behind piece next)

    abbrev S : Pairs
    S = Either (Before cut E) M

    abbrev G : Pairs
    G = Goes piece next (repetition_mark [] body) (repetition tree) (Before cut E)

    abbrev Left : Pairs
    Left = Crossing cut (Either M (Composed (Before cut (Composed S Any)) X))

    steps : (a b n : ℕ) → 0 < n → X a b n → AtomMatches (over piece next) empty b b n
    steps a b n some h =
        let rising = (IsOrdered-rest tree (over piece next)).le a b n h in
        let begin = (IsBounded-rest tree (over piece next)).begin a b n h in
        let end = (IsBounded-rest tree (over piece next)).end a b n h in
        record { begin = omega (arith, begin, rising); same = refl; end = end }

    law : Agree (Crossing cut (Composed S Any)) (Composed Left V)
    law = cross_repetition cut X (AtomMatches (over piece next) empty) M (Before cut E)
        (MatchesRest (repetition tree) (alone piece)) V
        (Scales-rest tree (over piece next)) (Scales-Atom (over piece next) empty)
        (Scales-Marked (over piece next) body tree) (Scales-Before cut E se)
        (Scales-rest (repetition tree) (behind piece next)) (IsInstant-Empty (over piece next))
        (IsOrdered-rest tree (over piece next)) (cut_of piece next (repetition tree))
        (λ a b n some h. h.early) (starts next) steps

    whole : Agree (Composed S Any) G
    whole = record {
      at = λ a b n some. (
        (λ h. ⊎_elim
            (λ e. inr (record {
              factor = h.factor;
              positive = h.positive;
              midpoint = h.midpoint;
              left = e;
              right = h.right;
            }))
            (λ m. inl (inr (record {
              factor = h.factor;
              positive = h.positive;
              midpoint = h.midpoint;
              left = m;
              right = h.right;
            }))) h.left),
        (λ h. ⊎_elim
            (λ m. ⊎_elim
            (λ here. absurd (Held-empty a ((over piece next).start * n) n here.left))
            (λ p. record {
              factor = p.factor;
              positive = p.positive;
              midpoint = p.midpoint;
              left = inr p.left;
              right = p.right;
            }) m)
            (λ p. record {
              factor = p.factor;
              positive = p.positive;
              midpoint = p.midpoint;
              left = inl p.left;
              right = p.right;
            }) h),
      );
    }

    ordered_s : IsOrdered S
    ordered_s = IsOrdered-Either (Before cut E) M (IsOrdered-Before cut E oe)
        (IsOrdered-Marked (over piece next) body tree)

    ordered_all : IsOrdered (Composed S Any)
    ordered_all = IsOrdered-Composed S Any ordered_s
        (IsOrdered-rest (repetition tree) (over piece next))

    ordered_left : IsOrdered Left
    ordered_left = IsOrdered-Crossing cut (Either M (Composed (Before cut (Composed S Any)) X))
        (IsOrdered-Either M (Composed (Before cut (Composed S Any)) X)
        (IsOrdered-Marked (over piece next) body tree)
        (IsOrdered-Composed (Before cut (Composed S Any)) X
        (IsOrdered-Before cut (Composed S Any) ordered_all) (IsOrdered-rest tree (over piece next))))

    turn : Agree (Before cut G) (Before cut (Composed S Any))
    turn = record {
      at = λ a b n some. (
        (λ h. record { related = (whole.at a b n some).1 h.related; early = h.early }),
        (λ h. record { related = (whole.at a b n some).0 h.related; early = h.early }),
      );
    }

    fed_before : Same D (Before cut F) (Before cut (Composed S Any))
    fed_before = same_trans D (Before cut F) (Before cut G) (Before cut (Composed S Any))
        (same_trans D (Before cut F)
        (Before cut (GoesAlone piece (repetition_mark [] body) (repetition tree) E)) (Before cut G)
        (same_before D F (GoesAlone piece (repetition_mark [] body) (repetition tree) E) fed cut)
        (same_agree D
        (Before cut (GoesAlone piece (repetition_mark [] body) (repetition tree) E)) (Before cut G)
        (goes_before piece (repetition_mark [] body) (repetition tree) E oe next)))
        (same_agree D (Before cut G) (Before cut (Composed S Any)) turn)

    same_left : Same D (Marked (behind piece next) body' tree) Left
    same_left = same_trans D (Marked (behind piece next) body' tree)
        (Crossing cut (Either M (Composed (Before cut F) X))) Left (x.leaves next long)
        (same_crossing D (Either M (Composed (Before cut F) X))
        (Either M (Composed (Before cut (Composed S Any)) X))
        (same_either D M M (Composed (Before cut F) X) (Composed (Before cut (Composed S Any)) X)
        (same_refl D M)
        (same_composed D (LastsUpTo-downward longest) (LastsUpTo-scales longest) (Before cut F)
        (Before cut (Composed S Any)) X X (IsOrdered-Before cut F of)
        (IsOrdered-Before cut (Composed S Any) ordered_all) (IsOrdered-rest tree (over piece next))
        (IsOrdered-rest tree (over piece next)) fed_before (same_refl D X))) cut)

    chained : Same D (Composed (Marked (behind piece next) body' tree) V) (Composed Left V)
    chained = same_composed D (LastsUpTo-downward longest) (LastsUpTo-scales longest)
        (Marked (behind piece next) body' tree) Left V V
        (IsOrdered-Marked (behind piece next) body' tree) ordered_left
        (IsOrdered-rest (repetition tree) (behind piece next))
        (IsOrdered-rest (repetition tree) (behind piece next)) same_left (same_refl D V)

    crossed : Agree (Composed Left V) (Crossing cut G)
    crossed = record {
      at = λ a b n some. (
        (λ h.
            let c = (law.at a b n some).1 h in
            record { related = (whole.at a b n some).0 c.related; begin = c.begin; end = c.end }),
        (λ c. (law.at a b n some).0
            (record { related = (whole.at a b n some).1 c.related; begin = c.begin; end = c.end })),
      );
    }

    mark_same : Agree (Marked (behind piece next) (repetition_mark [] body') (repetition tree))
        (Composed (Marked (behind piece next) body' tree) V)
    mark_same = record {
      at = λ a b n some. (
        (λ h. ⊎_elim
            (λ here. absurd (Held-empty a ((behind piece next).start * n) n here.left))
            (λ p. p) h),
        (λ h. inr h),
      );
    }

    repeated : Same D (Marked (behind piece next) (repetition_mark [] body') (repetition tree))
        (Crossing cut G)
    repeated = same_trans D
        (Marked (behind piece next) (repetition_mark [] body') (repetition tree))
        (Composed (Marked (behind piece next) body' tree) V) (Crossing cut G)
        (same_agree D (Marked (behind piece next) (repetition_mark [] body') (repetition tree))
        (Composed (Marked (behind piece next) body' tree) V) mark_same)
        (same_trans D (Composed (Marked (behind piece next) body' tree) V) (Composed Left V)
        (Crossing cut G) chained (same_agree D (Composed Left V) (Crossing cut G) crossed))

  pub repetition_enters : Enters longest piece (repetition_mark [] body) (repetition tree) E
      (repetition_mark [] body')
  repetition_enters = record { leaves = λ next long. repeated next long }
