-- How strongly the signs inside a state bind: the one way in which the grammar spells three
-- operands of a state.
use Rattle.std.proofs.Common.{◌≡◌, List, [], ◌∷◌, ◌++◌, subst, append_assoc}
use Rattle.tre_state.specs.StateTree.{StateTree, conjunction, disjunction}
use Rattle.tre_syntax.specs.PatternTree.{atom, literal}
use Rattle.std.specs.Prelude.{ℕ, true, codes}
use Rattle.tre_trace.specs.Reading.{Vocabulary}
use Rattle.tre_parse.specs.Words.{Words}
use Rattle.tre_parse.specs.Grammar.{state, conj, unary, SpellsState, braces, state_conj, state_bars, conj_unary, conj_ampersands, expr, Spells, expr_meet, meet_seq, seq_post, post_primary, primary_lit}
use Rattle.tre_parse.specs.Strength.{StateGroups}
use Rattle.tre_parse.proofs.Whole.{spelt_once}

module _ (scale : ℕ) (known : Vocabulary) where
  -- A state in braces is an expression, and an expression is spelt in one way. So is the state then.
  in_braces : (xs : Words) (s : StateTree) → SpellsState scale known state xs s
      → Spells scale known expr (codes "{" ∷ xs ++ codes "}" ∷ []) (atom (literal s))
  in_braces xs s h = expr_meet _ _ (meet_seq _ _ (seq_post _ _
      (post_primary _ _ (primary_lit _ s (braces xs s h)))))

  same_state : (s t : StateTree) → atom (literal s) ≡ atom (literal t) → s ≡ t
  same_state s t e = cc

  state_once : (xs : Words) (s t : StateTree) → SpellsState scale known state xs s → SpellsState scale known state xs t
      → s ≡ t
  state_once xs s t h k = same_state s t (spelt_once scale known (codes "{" ∷ xs ++ codes "}" ∷ [])
      (atom (literal s)) (atom (literal t)) (in_braces xs s h) (in_braces xs t k))

  -- What the tokens spell they spell alone.
  alone : (tokens : Words) (s : StateTree) → SpellsState scale known state tokens s
      → SpellsState scale known state tokens s × ((tree : StateTree) → SpellsState scale known state tokens tree → tree ≡ s)
  alone tokens s h = (h, λ tree k. state_once tokens tree s k h)

  -- Three operands, split after the second, are the same tokens as split after the first.
  split_first : (xs ys zs : Words) (first second : List ℕ) (s : StateTree)
      → SpellsState scale known state ((xs ++ first ∷ ys) ++ second ∷ zs) s
      → SpellsState scale known state (xs ++ first ∷ (ys ++ second ∷ zs)) s
  split_first xs ys zs first second s h = let P = λ (ts : Words). SpellsState scale known state ts s in
      subst P (append_assoc xs (first ∷ ys) (second ∷ zs)) h

  as_state : (xs : Words) (s : StateTree) → SpellsState scale known (unary true) xs s → SpellsState scale known state xs s
  as_state xs s h = state_conj xs s (conj_unary xs s h)

  -- The first two joined by a sign, by the rule of the sign.
  two_ampersands : (xs ys : Words) (s t : StateTree) → SpellsState scale known (unary true) xs s
      → SpellsState scale known (unary true) ys t → SpellsState scale known conj (xs ++ codes "&&" ∷ ys) (conjunction s t)
  two_ampersands xs ys s t h k = conj_ampersands xs ys s t (conj_unary xs s h) k

  two_bars : (xs ys : Words) (s t : StateTree) → SpellsState scale known (unary true) xs s → SpellsState scale known (unary true) ys t
      → SpellsState scale known state (xs ++ codes "||" ∷ ys) (disjunction s t)
  two_bars xs ys s t h k = state_bars xs ys s t (as_state xs s h) (conj_unary ys t k)

pub bars : StateGroups (codes "||") (codes "||") (λ s t u. disjunction (disjunction s t) u)
bars scale known xs ys zs s t u h k m =
    alone scale known _ _ (split_first scale known xs ys zs (codes "||") (codes "||") _
    (state_bars (xs ++ codes "||" ∷ ys) zs (disjunction s t) u (two_bars scale known xs ys s t h k)
    (conj_unary zs u m)))

pub ampersands : StateGroups (codes "&&") (codes "&&")
    (λ s t u. conjunction (conjunction s t) u)
ampersands scale known xs ys zs s t u h k m =
    alone scale known _ _ (split_first scale known xs ys zs (codes "&&") (codes "&&") _
    (state_conj _ _ (conj_ampersands (xs ++ codes "&&" ∷ ys) zs (conjunction s t) u
    (two_ampersands scale known xs ys s t h k) m)))

pub bar_ampersand : StateGroups (codes "||") (codes "&&") (λ s t u. disjunction s (conjunction t u))
bar_ampersand scale known xs ys zs s t u h k m =
    alone scale known _ _ (state_bars xs (ys ++ codes "&&" ∷ zs) s (conjunction t u) (as_state scale known xs s h)
    (two_ampersands scale known ys zs t u k m))

pub ampersand_bar : StateGroups (codes "&&") (codes "||") (λ s t u. disjunction (conjunction s t) u)
ampersand_bar scale known xs ys zs s t u h k m =
    alone scale known _ _ (split_first scale known xs ys zs (codes "&&") (codes "||") _
    (state_bars (xs ++ codes "&&" ∷ ys) zs (conjunction s t) u
    (state_conj _ _ (two_ampersands scale known xs ys s t h k)) (conj_unary zs u m)))
