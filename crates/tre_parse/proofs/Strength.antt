-- How strongly the signs between operands bind: the one way in which the grammar spells three
-- operands.
use Rattle.std.proofs.Common.{◌≡◌, List, ◌∷◌, ◌++◌, subst, append_assoc, rules}
use Rattle.tre_syntax.specs.PatternTree.{PatternTree, sequence, alternation, intersection}
use Rattle.std.specs.Prelude.{ℕ, codes}
use Rattle.tre_trace.specs.Reading.{Vocabulary}
use Rattle.tre_parse.specs.Words.{Words}
use Rattle.tre_parse.specs.Grammar.{expr, meet, seq, post, Spells, expr_meet, expr_bar, meet_seq, meet_ampersand, seq_post, seq_semicolon}
use Rattle.tre_parse.specs.Strength.{Groups}
use Rattle.tre_parse.proofs.Whole.{spelt_once}

module _ (scale : ℕ) (known : Vocabulary) where
  -- What the tokens spell they spell alone.
  alone : (tokens : Words) (e : PatternTree) → Spells scale known expr tokens e → Spells scale known expr tokens e
      × ((tree : PatternTree) → Spells scale known expr tokens tree → tree ≡ e)
  alone tokens e h = (h, λ tree k. spelt_once scale known tokens tree e k h)

  as_meet : (xs : Words) (e : PatternTree) → Spells scale known post xs e → Spells scale known meet xs e
  as_meet xs e h = meet_seq xs e (seq_post xs e h)

  -- Three operands, split after the second, are the same tokens as split after the first.
  split_first : (xs ys zs : Words) (first second : List ℕ) (e : PatternTree)
      → Spells scale known expr ((xs ++ first ∷ ys) ++ second ∷ zs) e
      → Spells scale known expr (xs ++ first ∷ (ys ++ second ∷ zs)) e
  split_first xs ys zs first second e h = let P = λ (ts : Words). Spells scale known expr ts e in
      subst P (append_assoc xs (first ∷ ys) (second ∷ zs)) h

  -- The first two joined by a sign, by the rule of the sign.
  two_semicolon : (xs ys : Words) (e f : PatternTree) → Spells scale known post xs e → Spells scale known post ys f
      → Spells scale known seq (xs ++ codes ";" ∷ ys) (sequence e f)
  two_semicolon xs ys e f h k = seq_semicolon xs ys e f (seq_post xs e h) k

  two_ampersand : (xs ys : Words) (e f : PatternTree) → Spells scale known post xs e → Spells scale known post ys f
      → Spells scale known meet (xs ++ codes "&" ∷ ys) (intersection e f)
  two_ampersand xs ys e f h k = meet_ampersand xs ys e f (as_meet xs e h) (seq_post ys f k)

  two_bar : (xs ys : Words) (e f : PatternTree) → Spells scale known post xs e → Spells scale known post ys f
      → Spells scale known expr (xs ++ codes "|" ∷ ys) (alternation e f)
  two_bar xs ys e f h k = expr_bar xs ys e f (expr_meet xs e (as_meet xs e h)) (as_meet ys f k)

pub bars : Groups (codes "|") (codes "|") (λ e f g. alternation (alternation e f) g)
bars scale known xs ys zs e f g h k m =
    alone scale known _ _ (split_first scale known xs ys zs (codes "|") (codes "|") _ (expr_bar (xs ++ codes "|" ∷ ys) zs (alternation e f) g
    (two_bar scale known xs ys e f h k) (as_meet scale known zs g m)))

pub ampersands : Groups (codes "&") (codes "&") (λ e f g. intersection (intersection e f) g)
ampersands scale known xs ys zs e f g h k m =
    alone scale known _ _ (split_first scale known xs ys zs (codes "&") (codes "&") _
    (expr_meet _ _ (meet_ampersand (xs ++ codes "&" ∷ ys) zs (intersection e f) g
    (two_ampersand scale known xs ys e f h k) (seq_post zs g m))))

pub semicolons : Groups (codes ";") (codes ";") (λ e f g. sequence (sequence e f) g)
semicolons scale known xs ys zs e f g h k m =
    search (rules, alone, split_first, expr_meet, meet_seq, seq_semicolon, sequence, two_semicolon)

pub bar_ampersand : Groups (codes "|") (codes "&") (λ e f g. alternation e (intersection f g))
bar_ampersand scale known xs ys zs e f g h k m =
    alone scale known _ _ (expr_bar xs (ys ++ codes "&" ∷ zs) e (intersection f g)
    (expr_meet xs e (as_meet scale known xs e h)) (two_ampersand scale known ys zs f g k m))

pub ampersand_bar : Groups (codes "&") (codes "|") (λ e f g. alternation (intersection e f) g)
ampersand_bar scale known xs ys zs e f g h k m =
    alone scale known _ _ (split_first scale known xs ys zs (codes "&") (codes "|") _ (expr_bar (xs ++ codes "&" ∷ ys) zs
    (intersection e f) g (expr_meet _ _ (two_ampersand scale known xs ys e f h k)) (as_meet scale known zs g m)))

pub bar_semicolon : Groups (codes "|") (codes ";") (λ e f g. alternation e (sequence f g))
bar_semicolon scale known xs ys zs e f g h k m =
    alone scale known _ _ (expr_bar xs (ys ++ codes ";" ∷ zs) e (sequence f g) (expr_meet xs e (as_meet scale known xs e h))
    (meet_seq _ _ (two_semicolon scale known ys zs f g k m)))

pub semicolon_bar : Groups (codes ";") (codes "|") (λ e f g. alternation (sequence e f) g)
semicolon_bar scale known xs ys zs e f g h k m =
    alone scale known _ _ (split_first scale known xs ys zs (codes ";") (codes "|") _ (expr_bar (xs ++ codes ";" ∷ ys) zs
    (sequence e f) g (expr_meet _ _ (meet_seq _ _ (two_semicolon scale known xs ys e f h k)))
    (as_meet scale known zs g m)))

pub ampersand_semicolon : Groups (codes "&") (codes ";") (λ e f g. intersection e (sequence f g))
ampersand_semicolon scale known xs ys zs e f g h k m =
    alone scale known _ _ (expr_meet _ _ (meet_ampersand xs (ys ++ codes ";" ∷ zs) e (sequence f g)
    (as_meet scale known xs e h) (two_semicolon scale known ys zs f g k m)))

pub semicolon_ampersand : Groups (codes ";") (codes "&") (λ e f g. intersection (sequence e f) g)
semicolon_ampersand scale known xs ys zs e f g h k m =
    alone scale known _ _ (split_first scale known xs ys zs (codes ";") (codes "&") _
    (expr_meet _ _ (meet_ampersand (xs ++ codes ";" ∷ ys) zs (sequence e f) g
    (meet_seq _ _ (two_semicolon scale known xs ys e f h k)) (seq_post zs g m))))
