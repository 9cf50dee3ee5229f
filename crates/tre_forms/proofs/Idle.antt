-- Where nothing that enters goes on behind the piece, nothing need be followed.
use Rattle.std.proofs.Common.{ℕ, Option, ◌*◌, ◌<◌, ◌≤◌, ◌⊎◌, [], ◌∷◌, inl, inr, ⊎_elim, arith}
use Rattle.std.proofs.Math.Nat.{mul-pos}
use Rattle.std.proofs.lemmas.Bool.{cases_lt}
use Rattle.tre_pairs.specs.Cuts.{IsMoment, JoinedAt, Crossing, Passing}
use Rattle.tre_pairs.specs.Pairs.{Pairs, Composed, Either}
use Rattle.tre_pairs.proofs.Laws.{IsInstant}
use Rattle.tre_pairs.proofs.Ticks.{gt_up, gt_down, le_up}
use Rattle.tre_zone.specs.Longest.{LastsUpTo}
use Rattle.tre_zone.proofs.HeldSets.{Held-empty}
use Rattle.tre_state.specs.StateTree.{StateTree, HoldsOn}
use Rattle.tre_trace.specs.Trace.{Timeline, AreLong}
use Rattle.tre_syntax.specs.Meaning.{MatchesRest}
use Rattle.tre_syntax.specs.PatternTree.{Atom, PatternTree, literal, atom}
use Rattle.tre_syntax.proofs.AtomCuts.{crossing_literal}
use Rattle.tre_edges.specs.Piece.{end_of_piece, cut_behind}
use Rattle.tre_edges.specs.declared.piece.Piece.{Piece}
use Rattle.tre_mark.specs.MarkTree.{MarkTree, atom_mark}
use Rattle.tre_mark.specs.Marked.{Marked}
use Rattle.tre_pairs.specs.Before.{Before}
use Rattle.tre_pairs.specs.Same.{Same}
use Rattle.tre_pairs.proofs.Dull.{IsDull}
use Rattle.tre_forms.specs.Dull.{IsDullOver, None}
use Rattle.tre_forms.specs.Enters.{over, alone, behind, Goes, Enters}
use Rattle.tre_forms.proofs.Forms.{long_front, begin_end}

module _ (longest : Option ℕ) (piece : Piece) (old new : MarkTree) (tree : PatternTree) (E : Pairs)
    (alone : Enters longest piece old tree None new) where
  abbrev cut : ℕ
  cut = end_of_piece piece

  -- Nothing enters, or what does is left out.
  left_by : ((next : Timeline) → AreLong next.segments → (a b n : ℕ) → 0 < n
      → Composed (Before cut E) (MatchesRest tree (over piece next)) a b n → cut * n ≤ b → ⊥)
      → Enters longest piece old tree E new
  left_by never = record {
    leaves = λ next long. record {
      at = λ a b n some short. (
        (λ h.
            let c = ((alone.leaves next long).at a b n some short).0 h in
            record {
              related = ⊎_elim (λ m. inl m) (λ e. absurd e.left.related) c.related;
              begin = c.begin;
              end = c.end;
            }),
        (λ c. ⊎_elim
            (λ m. ((alone.leaves next long).at a b n some short).1
            (record { related = inl m; begin = c.begin; end = c.end }))
            (λ e. absurd (never next long a b n some e c.end)) c.related),
      );
    };
  }

  pub nothing_enters : ((a b n : ℕ) → 0 < n → E a b n → ⊥) → Enters longest piece old tree E new
  nothing_enters none = left_by (λ next long a b n some e late.
      none (e.factor * a) e.midpoint (e.factor * n) (mul-pos e.positive some) e.left.related)

  pub left_out_enters : IsDullOver piece tree → Enters longest piece old tree E new
  left_out_enters over_piece = left_by (λ next long a b n some e late.
      let k = e.factor in
      let early = ((over_piece.dull next long).stays e.midpoint (k * b) (k * n)
      (mul-pos e.positive some) e.right e.left.early) in
      let later = le_up k cut b n late in
      omega (arith, early, later))

-- An atom that lasts no time is dull, and a literal that doesn't hold in the piece.
pub dull_instant : (piece : Piece) (x : Atom)
    → ((next : Timeline) → IsInstant (MatchesRest (atom x) (over piece next)))
    → IsDullOver piece (atom x)
dull_instant piece x instant = record {
  dull = λ next long. record {
    stays = λ a b n some h early.
        let eq = (instant next).same a b n h in
        omega (arith, eq, early);
  };
}

pub dull_literal : (piece : Piece) (state : StateTree)
    → ((c n : ℕ) → 0 < n → c < end_of_piece piece * n
    → MatchesRest (atom (literal state)) (alone piece) c (end_of_piece piece * n) n → ⊥)
    → IsDullOver piece (atom (literal state))
dull_literal piece state fails = record {
  dull = λ next long. record {
    stays = λ a b n some h early. ⊎_elim (λ before. before)
        (λ late.
        let parts = ((crossing_literal (HoldsOn state) piece.begin piece.before
        (piece.segment ∷ []) next (long_front piece) long a b n some).0
        (record { related = h; begin = omega (arith, early); end = late })).related in
        ⊎_elim (λ x. absurd (fails a n some early x))
        (λ x. let begin = x.begin in absurd (omega (arith, begin, early))) parts.left)
        (cases_lt b (end_of_piece piece * n));
  };
}

-- A sequence: both parts are dull, or the first is and has no match inside the piece.
pub dull_sequence : (cut : ℕ) (X Y : Pairs) → IsDull cut X
    → IsDull cut Y ⊎ ((a b n : ℕ) → 0 < n → Before cut X a b n → ⊥) → IsDull cut (Composed X Y)
dull_sequence cut X Y x y = record {
  stays = λ a b n some h early.
      let k = h.factor in
      let finer = mul-pos h.positive some in
      let mid = x.stays (k * a) h.midpoint (k * n) finer h.left (gt_up k cut a n h.positive early) in
      ⊎_elim
      (λ dull. gt_down k cut b n (dull.stays h.midpoint (k * b) (k * n) finer h.right mid))
      (λ none. absurd (none (k * a) h.midpoint (k * n) finer (record { related = h.left; early = mid })))
      y;
}

-- Of an atom of which nothing has begun, nothing has behind the piece, where nothing enters.
pub atom_alone : (longest : Option ℕ) (piece : Piece) (x : Atom)
    → Enters longest piece (atom_mark [] []) (atom x) None (atom_mark [] [])
atom_alone longest piece x = record {
  leaves = λ next long. record {
    at = λ a b n some short. (
      (λ h. ⊎_elim (λ y. absurd (Held-empty a ((behind piece next).start * n) n y.left))
          (λ y. absurd (Held-empty a ((behind piece next).start * n) n y.left)) h),
      (λ c. ⊎_elim
          (λ h. ⊎_elim (λ y. absurd (Held-empty a ((over piece next).start * n) n y.left))
          (λ y. absurd (Held-empty a ((over piece next).start * n) n y.left)) h)
          (λ e. absurd e.left.related) c.related),
    );
  };
}
