-- What a piece alone makes of a node, of what it makes of the parts.
use Rattle.std.proofs.Common.{◌≡◌, ℕ, ◌*◌, ◌<◌, ◌⊎◌, List, [], Option, Bool, false, inl, inr, ⊎_elim, arith, refl}
use Rattle.std.proofs.Math.Nat.{mul-pos}
use Rattle.tre_pairs.specs.Pairs.{Pairs, Composed, Either, Both, Lasting, Chain}
use Rattle.tre_pairs.proofs.Dull.{dull_either, dull_both, dull_lasting, dull_chain}
use Rattle.tre_pairs.proofs.Laws.{IsInstant}
use Rattle.tre_pairs.proofs.Ticks.{gt_down}
use Rattle.tre_zone.specs.Held.{Held, IsSetOf}
use Rattle.tre_zone.specs.Interval.{IntervalEnds, LastsWithin}
use Rattle.tre_zone.specs.Zone.{IsInstantBetween}
use Rattle.tre_zone.specs.declared.zone_bounds.ZoneBounds.{ZoneBounds}
use Rattle.tre_zone.proofs.HeldSets.{Held-empty}
use Rattle.tre_trace.specs.Trace.{Timeline}
use Rattle.tre_syntax.specs.Meaning.{MatchesRest}
use Rattle.tre_syntax.specs.PatternTree.{Atom, PatternTree, empty, atom, sequence, alternation, intersection, repetition, restriction}
use Rattle.tre_syntax.specs.Rest.{AtomMatches}
use Rattle.tre_edges.specs.Piece.{end_of_piece}
use Rattle.tre_edges.specs.declared.piece.Piece.{Piece}
use Rattle.tre_mark.specs.MarkTree.{MarkTree, atom_mark, sequence_mark, alternation_mark, intersection_one, repetition_mark, restriction_one}
use Rattle.tre_mark.specs.Marked.{AnyDuration}
use Rattle.tre_forms.specs.Enters.{over, alone}
use Rattle.tre_forms.proofs.Forms.{cut_of}
use Rattle.tre_forms.proofs.Idle.{dull_instant, dull_sequence}
use Rattle.tre_forms.proofs.Whole.{AreAllMoments}
use Rattle.tre_node.specs.Closed.{Seen}
use Rattle.tre_node.specs.Looked.{IsReach, Told}
use Rattle.tre_node.proofs.SeenForms.{alternation_seen, instant_seen, instants_empty, intersection_seen, repetition_seen, restriction_seen, sequence_seen, whole_intersection_seen, whole_restriction_seen}
use Rattle.tre_node.proofs.SetsOf.{no_pair}

-- What a node tells of the piece alone.
pub told_seen : {longest : Option ℕ} {piece : Piece} {old : MarkTree} {tree : PatternTree}
    {found told : List ZoneBounds} {lives : Bool}
    → Told longest piece old tree found told lives → Seen longest (alone piece) old tree found told
told_seen f = record { inside = f.inside; ended = f.ended }

-- Of an atom that lasts no time nothing ever has begun.
pub instant_told : (longest : Option ℕ) (piece : Piece) (x : Atom) (inside ended : List ZoneBounds)
    (lives : Bool) → IsSetOf inside (MatchesRest (atom x) (alone piece)) → ended ≡ []
    → ((next : Timeline) → IsInstant (MatchesRest (atom x) (over piece next)))
    → Told longest piece (atom_mark [] []) (atom x) inside ended lives
instant_told longest piece x inside ended lives set none instant = record {
  inside = set;
  ended = (instant_seen longest (alone piece) x inside ended set none).ended;
  dull = λ off. dull_instant piece x instant;
  began = λ next a b n some h. ⊎_elim (λ y. absurd (Held-empty a (piece.begin * n) n y.left))
      (λ y. absurd (Held-empty a (piece.begin * n) n y.left)) h;
}

module _ (longest : Option ℕ) (piece : Piece) (one other : MarkTree) (left right : PatternTree)
    (inside1 ended1 inside2 ended2 : List ZoneBounds) (lives1 lives2 : Bool)
    (f : Told longest piece one left inside1 ended1 lives1)
    (g : Told longest piece other right inside2 ended2 lives2)
    (inside ended : List ZoneBounds) (lives : Bool) where
  -- The first part has no match inside the piece.
  never_before : inside1 ≡ [] → (next : Timeline) (a b n : ℕ) → 0 < n
      → MatchesRest left (over piece next) a b n → b < end_of_piece piece * n → ⊥
  never_before none next a b n some h early =
      no_pair inside1 none a b n
      ((f.inside.pairs a b n some).1 ((cut_of piece next left).early.at a b n early h))

  pub sequence_told : IsSetOf inside (Composed (Held inside1) (Held inside2))
      → IsSetOf ended (Either (Held ended2) (Composed (Held ended1) (Held inside2)))
      → (lives ≡ false → (lives1 ≡ false) × ((lives2 ≡ false) ⊎ (inside1 ≡ [])))
      → Told longest piece (sequence_mark one other) (sequence left right) inside ended lives
  sequence_told x y idle =
      let seen = sequence_seen longest (alone piece) one other left right inside1 ended1 inside2
      ended2 (told_seen f) (told_seen g) inside ended x y in
      record {
        inside = seen.inside;
        ended = seen.ended;
        dull = λ off.
            let both = idle off in
            record {
              dull = λ next long. dull_sequence (end_of_piece piece)
                  (MatchesRest left (over piece next)) (MatchesRest right (over piece next))
                  ((f.dull both.0).dull next long)
                  (⊎_elim (λ z. inl ((g.dull z).dull next long))
                  (λ none. inr (λ a b n some h.
                  never_before none next a b n some h.related h.early)) both.1);
            };
        began = λ next a b n some h. ⊎_elim
            (λ z. gt_down z.factor piece.begin a n
            (f.began next (z.factor * a) z.midpoint (z.factor * n) (mul-pos z.positive some) z.left))
            (λ z. g.began next a b n some z) h;
      }

  pub alternation_told : IsSetOf inside (Either (Held inside1) (Held inside2))
      → IsSetOf ended (Either (Held ended1) (Held ended2))
      → (lives ≡ false → (lives1 ≡ false) × (lives2 ≡ false))
      → Told longest piece (alternation_mark one other) (alternation left right) inside ended lives
  alternation_told x y idle =
      let seen = alternation_seen longest (alone piece) one other left right inside1 ended1 inside2
      ended2 (told_seen f) (told_seen g) inside ended x y in
      record {
        inside = seen.inside;
        ended = seen.ended;
        dull = λ off.
            let both = idle off in
            record {
              dull = λ next long. dull_either (end_of_piece piece)
                  (MatchesRest left (over piece next)) (MatchesRest right (over piece next))
                  ((f.dull both.0).dull next long) ((g.dull both.1).dull next long);
            };
        began = λ next a b n some h. ⊎_elim (λ z. f.began next a b n some z)
            (λ z. g.began next a b n some z) h;
      }

-- A repetition: found are all chains of what its body matches inside the piece.
module _ (longest : Option ℕ) (piece : Piece) (body : MarkTree) (tree : PatternTree)
    (steps ended1 : List ZoneBounds) (lives1 : Bool)
    (f : Told longest piece body tree steps ended1 lives1) (inside ended : List ZoneBounds)
    (lives : Bool) where
  abbrev I : Pairs
  I = IsInstantBetween piece.begin (end_of_piece piece)

  pub repetition_told : IsSetOf inside (Chain (Held steps) I)
      → IsSetOf ended (Composed (Held ended1) (Held inside)) → (lives ≡ false → lives1 ≡ false)
      → Told longest piece (repetition_mark [] body) (repetition tree) inside ended lives
  repetition_told x y idle =
      let seen = repetition_seen longest (alone piece) body tree steps ended1 (told_seen f) inside
      ended I (instants_empty (alone piece) piece.begin (end_of_piece piece) refl refl) x y in
      record {
        inside = seen.inside;
        ended = seen.ended;
        dull = λ off. record {
          dull = λ next long. dull_chain (end_of_piece piece) (MatchesRest tree (over piece next))
              (AtomMatches (over piece next) empty) ((f.dull (idle off)).dull next long)
              (record { same = λ a b n h. h.same });
        };
        began = λ next a b n some h. ⊎_elim
            (λ z. absurd (Held-empty a (piece.begin * n) n z.left))
            (λ z. gt_down z.factor piece.begin a n
            (f.began next (z.factor * a) z.midpoint (z.factor * n) (mul-pos z.positive some)
            z.left)) h;
      }

-- An instance of a restriction: what its body tells counts in it up to its reach.
module _ (longest reach : Option ℕ) (piece : Piece) (to : ℕ) (outer : List ZoneBounds)
    (body : MarkTree) (tree : PatternTree) (ends : IntervalEnds)
    (counted : IsReach longest (LastsWithin ends) reach) (inside1 ended1 : List ZoneBounds)
    (lives1 : Bool) (f : Told reach piece body tree inside1 ended1 lives1)
    (inside ended : List ZoneBounds) (lives : Bool) where
  abbrev A : ℕ → ℕ → Type 0
  A = LastsWithin ends

  abbrev mark : MarkTree
  mark = restriction_one to outer body

  told_as : Seen longest (alone piece) mark (restriction tree ends) inside ended
      → (lives ≡ false → lives1 ≡ false)
      → Told longest piece mark (restriction tree ends) inside ended lives
  told_as seen idle = record {
    inside = seen.inside;
    ended = seen.ended;
    dull = λ off. record {
      dull = λ next long. dull_lasting (end_of_piece piece) A (MatchesRest tree (over piece next))
          ((f.dull (idle off)).dull next long);
    };
    began = λ next a b n some h.
        let first = h.left.rising in
        let second = f.began next h.midpoint (h.factor * b) (h.factor * n)
        (mul-pos h.positive some) h.right.related in
        gt_down h.factor piece.begin a n (omega (arith, first, second));
  }

  pub restriction_told : IsSetOf inside (Lasting A (Held inside1))
      → IsSetOf ended (Composed (Held outer) (Lasting A (Held ended1)))
      → (lives ≡ false → lives1 ≡ false)
      → Told longest piece mark (restriction tree ends) inside ended lives
  restriction_told x y idle = told_as
      (restriction_seen longest reach (alone piece) to outer body tree ends counted inside1 ended1
      (told_seen f) inside ended x y) idle

  -- Behind all moments it is what its body is.
  pub whole_restriction_told : AreAllMoments piece.begin outer
      → IsSetOf inside (Lasting A (Held inside1)) → IsSetOf ended (Lasting A (Held ended1))
      → (lives ≡ false → lives1 ≡ false)
      → Told longest piece mark (restriction tree ends) inside ended lives
  whole_restriction_told all x y idle = told_as
      (whole_restriction_seen longest reach (alone piece) to outer body tree ends counted inside1
      ended1 (told_seen f) inside ended all x y) idle

-- One of an intersection.
module _ (longest reach : Option ℕ) (piece : Piece) (to : ℕ) (outer : List ZoneBounds)
    (one other : MarkTree) (left right : PatternTree) (counted : IsReach longest AnyDuration reach)
    (inside1 ended1 inside2 ended2 : List ZoneBounds) (lives1 lives2 : Bool)
    (f : Told reach piece one left inside1 ended1 lives1)
    (g : Told reach piece other right inside2 ended2 lives2)
    (inside ended : List ZoneBounds) (lives : Bool) where
  abbrev common : MarkTree
  common = intersection_one to outer one other

  both_as : Seen longest (alone piece) common (intersection left right) inside ended
      → (lives ≡ false → (lives1 ≡ false) ⊎ (lives2 ≡ false))
      → Told longest piece common (intersection left right) inside ended lives
  both_as seen idle = record {
    inside = seen.inside;
    ended = seen.ended;
    dull = λ off. record {
      dull = λ next long. dull_both (end_of_piece piece) (MatchesRest left (over piece next))
          (MatchesRest right (over piece next))
          (⊎_elim (λ z. inl ((f.dull z).dull next long)) (λ z. inr ((g.dull z).dull next long))
          (idle off));
    };
    began = λ next a b n some h.
        let first = h.left.rising in
        let second = f.began next h.midpoint (h.factor * b) (h.factor * n)
        (mul-pos h.positive some) h.right.left in
        gt_down h.factor piece.begin a n (omega (arith, first, second));
  }

  pub intersection_told : IsSetOf inside (Both (Held inside1) (Held inside2))
      → IsSetOf ended (Composed (Held outer) (Both (Held ended1) (Held ended2)))
      → (lives ≡ false → (lives1 ≡ false) ⊎ (lives2 ≡ false))
      → Told longest piece common (intersection left right) inside ended lives
  intersection_told x y idle = both_as
      (intersection_seen longest reach (alone piece) to outer one other left right counted inside1
      ended1 inside2 ended2 (told_seen f) (told_seen g) inside ended x y) idle

  pub whole_intersection_told : AreAllMoments piece.begin outer
      → IsSetOf inside (Both (Held inside1) (Held inside2))
      → IsSetOf ended (Both (Held ended1) (Held ended2))
      → (lives ≡ false → (lives1 ≡ false) ⊎ (lives2 ≡ false))
      → Told longest piece common (intersection left right) inside ended lives
  whole_intersection_told all x y idle = both_as
      (whole_intersection_seen longest reach (alone piece) to outer one other left right counted
      inside1 ended1 inside2 ended2 (told_seen f) (told_seen g) inside ended all x y) idle
