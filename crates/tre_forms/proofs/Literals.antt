-- The walk over an atom.
use Rattle.std.proofs.Common.{ℕ, Option, ◌-◌, ◌*◌, ◌<◌, ◌≤◌, ◌↔◌, List, [], ◌∷◌, inl, inr, ⊎_elim, refl, sym, arith, subst}
use Rattle.std.proofs.Math.Nat.{mul-pos, mul_left_comm, mul-lt-mul_of_pos_right}
use Rattle.tre_pairs.specs.Cuts.{IsMoment, JoinedAt, Crossing, Passing}
use Rattle.tre_pairs.specs.Pairs.{Pairs, Composed, Either}
use Rattle.tre_pairs.proofs.Laws.{Scales, IsOrdered, IsInstant}
use Rattle.tre_pairs.proofs.Scaling.{moved}
use Rattle.tre_pairs.proofs.Shortening.{finer_duration}
use Rattle.tre_pairs.proofs.Ticks.{le_up, le_down, ge_down}
use Rattle.tre_zone.specs.Held.{Held, EndAt}
use Rattle.tre_zone.specs.Longest.{LastsUpTo}
use Rattle.tre_zone.specs.declared.zone_bounds.ZoneBounds.{ZoneBounds}
use Rattle.tre_zone.proofs.HeldSets.{Held-empty, Scales-Held}
use Rattle.tre_zone.proofs.Lasting.{LastsUpTo-downward, LastsUpTo-scales}
use Rattle.tre_state.specs.StateTree.{StateTree, HoldsOn}
use Rattle.tre_trace.specs.Trace.{Timeline, AreLong}
use Rattle.tre_syntax.specs.Meaning.{MatchesRest}
use Rattle.tre_syntax.specs.PatternTree.{Atom, PatternTree, literal, atom}
use Rattle.tre_syntax.specs.Rest.{Rest}
use Rattle.tre_syntax.proofs.AtomCuts.{crossing_literal}
use Rattle.tre_syntax.proofs.CutMeaning.{IsOrdered-rest, Scales-rest}
use Rattle.tre_edges.specs.Piece.{end_of_piece, cut_behind}
use Rattle.tre_edges.specs.declared.piece.Piece.{Piece}
use Rattle.tre_mark.specs.MarkTree.{MarkTree, atom_mark}
use Rattle.tre_mark.specs.Marked.{GoesOn, Marked}
use Rattle.tre_mark.proofs.Meanings.{IsOrdered-GoesOn, Scales-GoesOn, Scales-Marked}
use Rattle.tre_pairs.specs.Before.{Before}
use Rattle.tre_pairs.specs.Same.{Same}
use Rattle.tre_forms.specs.Begun.{BeginsBefore, Begins, EndsFrom}
use Rattle.tre_forms.specs.Enters.{over, alone, behind, Goes, Enters}
use Rattle.tre_forms.proofs.Forms.{long_front, begin_end, cut_of}

-- The literal holds throughout the piece.
module _ (longest : Option ℕ) (piece : Piece) (state : StateTree) (begun begun' : List ZoneBounds)
    (E : Pairs)
    (holds : (c n : ℕ) → 0 < n → piece.begin * n ≤ c → c < end_of_piece piece * n
    → MatchesRest (atom (literal state)) (alone piece) c (end_of_piece piece * n) n)
    (new : EndsFrom longest piece.begin E)
    (oe : IsOrdered E) (begins : Begins longest piece begun E begun') where
  abbrev cut : ℕ
  cut = end_of_piece piece

  abbrev tree : PatternTree
  tree = atom (literal state)

  module _ (next : Timeline) (long : AreLong next.segments) where
    abbrev W : Rest
    W = over piece next

    abbrev V : Rest
    V = behind piece next

    abbrev All : Pairs
    All = Goes piece next (atom_mark [] begun) tree (Before cut E)

    across : (a b n : ℕ) → 0 < n → Crossing cut (MatchesRest tree W) a b n
        ↔ Passing (JoinedAt cut (Either (MatchesRest tree (alone piece)) (IsMoment cut))
        (Either (MatchesRest tree V) (IsMoment cut))) a b n
    across = crossing_literal (HoldsOn state) piece.begin piece.before (piece.segment ∷ [])
        next (long_front piece) long

    some_piece : (n : ℕ) → 0 < n → piece.begin * n < cut * n
    some_piece n some =
        let long = piece.long in
        mul-lt-mul_of_pos_right (omega (arith, long)) some

    -- From within the piece to its end, and on from there.
    onward : (c b n : ℕ) → 0 < n → piece.begin * n ≤ c → c < cut * n → GoesOn V (literal state) (cut * n) b n
        → MatchesRest tree W c b n
    onward c b n some from early h = ⊎_elim
        (λ z. moved (MatchesRest tree W) refl (sym z.end) refl
        ((cut_of piece next tree).grows.at c (cut * n) n (holds c n some from early)))
        (λ z.
        let later = (IsOrdered-rest tree V).le (cut * n) b n z in
        ((across c b n some).1 (record {
          related = record { left = inl (holds c n some from early); right = inl z };
          some_time = omega (arith, early, later);
        })).related) h

    -- And back.
    parted : (c b n : ℕ) → 0 < n → c < cut * n → cut * n ≤ b → MatchesRest tree W c b n
        → GoesOn V (literal state) (cut * n) b n
    parted c b n some early late h =
        ⊎_elim (λ z. inr z) (λ z. inl z)
        (((across c b n some).0 (record { related = h; begin = omega (arith, early); end = late })).related.right)

    goes_on_up : (k b n : ℕ) → 0 < k → GoesOn V (literal state) (cut * n) b n
        → GoesOn V (literal state) (cut * (k * n)) (k * b) (k * n)
    goes_on_up k b n pos h = moved (GoesOn V (literal state)) (mul_left_comm k cut n) refl refl
        ((Scales-GoesOn V (literal state)).up k (cut * n) b n pos h)

    literal_to : (a b n : ℕ) → 0 < n → LastsUpTo longest (b - a) n
        → Marked V (atom_mark [] begun') tree a b n → Crossing cut All a b n
    literal_to a b n some short h = ⊎_elim
        (λ y. absurd (Held-empty a (cut * n) n y.left))
        (λ y.
        let end = (IsOrdered-GoesOn V (literal state)).le (cut * n) b n y.right in
        let rising = y.left.rising in
        let brief = (LastsUpTo-downward longest).at (cut * n - a) (b - a) n (omega (arith, end, rising)) short in
        record {
          related = ⊎_elim
              (λ old. inl (inr (record {
                left = old;
                right = inr (onward (piece.begin * n) b n some (omega arith) (some_piece n some) y.right);
              })))
              (λ e.
              let k = e.factor in
              let finer = mul-pos e.positive some in
              let before = e.pair.early in
              let past = le_up k cut b n end in
              inr (record {
                factor = k;
                positive = e.positive;
                midpoint = e.midpoint;
                left = e.pair;
                right = onward e.midpoint (k * b) (k * n) finer
                    (new.from (k * a) e.midpoint (k * n) finer
                    ((LastsUpTo-downward longest).at (e.midpoint - k * a) (k * b - k * a) (k * n)
                    (omega (arith, before, past))
                    (finer_duration (LastsUpTo longest) (LastsUpTo-downward longest)
                    (LastsUpTo-scales longest) k a b n e.positive short)) e.pair.related) e.pair.early
                    (goes_on_up k b n e.positive y.right);
              })) ((begins.at a n some brief).0 y.left);
          begin = rising;
          end = end;
        }) h

    literal_from : (a b n : ℕ) → 0 < n → LastsUpTo longest (b - a) n → Crossing cut All a b n
        → Marked V (atom_mark [] begun') tree a b n
    literal_from a b n some short h =
        let late = h.end in
        let from = h.begin in
        let brief = (LastsUpTo-downward longest).at (cut * n - a) (b - a) n (omega (arith, late, from)) short in
        let lasts = some_piece n some in
        ⊎_elim
        (λ x. ⊎_elim
        (λ y. absurd (Held-empty a (piece.begin * n) n y.left))
        (λ y. inr (record {
          left = (begins.at a n some brief).1 (inl y.left);
          right = ⊎_elim
              (λ z. let end = z.end in absurd (omega (arith, end, late, lasts)))
              (λ z. parted (piece.begin * n) b n some lasts late z) y.right;
        })) x)
        (λ x.
        let k = x.factor in
        let finer = mul-pos x.positive some in
        inr (record {
          left = (begins.at a n some brief).1 (inr (record {
            factor = k;
            positive = x.positive;
            midpoint = x.midpoint;
            pair = x.left;
          }));
          right = (Scales-GoesOn V (literal state)).down k (cut * n) b n x.positive
              (moved (GoesOn V (literal state)) (sym (mul_left_comm k cut n)) refl refl
              (parted x.midpoint (k * b) (k * n) finer x.left.early (le_up k cut b n late) x.right));
        })) h.related

  pub literal_enters : Enters longest piece (atom_mark [] begun) tree E (atom_mark [] begun')
  literal_enters = record {
    leaves = λ next long. record {
      at = λ a b n some short. (
        literal_to next long a b n some short,
        literal_from next long a b n some short,
      );
    };
  }
