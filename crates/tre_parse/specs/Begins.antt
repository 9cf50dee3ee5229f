-- Which lists of words begin a rule, rule by rule: those that some further words could complete.
-- The empty list begins every rule.
use Rattle.std.specs.Prelude.{◌≡◌, ℕ, Bool, true, false, List, [], ◌∷◌, ◌++◌, codes}
use Rattle.tre_trace.specs.Reading.{Vocabulary}
use Rattle.tre_state.specs.StateTree.{StateTree}
use Rattle.tre_zone.specs.Interval.{IntervalEnds}
use Rattle.tre_syntax.specs.PatternTree.{PatternTree}
use Rattle.tre_parse.specs.Words.{Words, is_name}
use Rattle.tre_parse.specs.Grammar.{StateRule, state, conj, unary, SpellsState, SpellsInterval, Rule, expr, meet, seq, post, primary, Spells}

module _ (scale : ℕ) (known : Vocabulary) where
  -- The words begin a state, by the rule.
  pub data BeginsState : StateRule → Words → Type 0 where
    none : (rule : StateRule) → BeginsState rule []
    -- unary: a whole one; or any number of `!`; or these, `{`, inside `(`, and what begins a state
    unary_whole : (inside : Bool) (xs : Words) (s : StateTree) → SpellsState scale known (unary inside) xs s →
        BeginsState (unary inside) xs
    unary_bang : (inside : Bool) (xs : Words) → BeginsState (unary inside) xs →
        BeginsState (unary inside) (codes "!" ∷ xs)
    braces : (xs : Words) → BeginsState state xs → BeginsState (unary false) (codes "{" ∷ xs)
    parens : (xs : Words) → BeginsState state xs → BeginsState (unary true) (codes "(" ∷ xs)
    -- state: what begins a conj; or a state, `||` and what begins a conj
    state_conj : (xs : Words) → BeginsState conj xs → BeginsState state xs
    state_bars : (xs ys : Words) (s : StateTree) → SpellsState scale known state xs s → BeginsState conj ys →
        BeginsState state (xs ++ codes "||" ∷ ys)
    -- conj: what begins a unary inside; or a conj, `&&` and what begins one
    conj_unary : (xs : Words) → BeginsState (unary true) xs → BeginsState conj xs
    conj_ampersands : (xs ys : Words) (s : StateTree) → SpellsState scale known conj xs s →
        BeginsState (unary true) ys →
        BeginsState conj (xs ++ codes "&&" ∷ ys)

  -- The words are the first of those that spell an interval, or all of them.
  pub record BeginsInterval (xs : Words) : Type 0 where
    pub more : Words
    pub ends : IntervalEnds
    pub spells : SpellsInterval scale known (xs ++ more) ends

  -- The words begin an expression, by the rule.
  pub data Begins : Rule → Words → Type 0 where
    none : (rule : Rule) → Begins rule []
    -- expr: what begins a meet; or an expr, `|` and what begins a meet
    expr_meet : (xs : Words) → Begins meet xs → Begins expr xs
    expr_bar : (xs ys : Words) (e : PatternTree) → Spells scale known expr xs e → Begins meet ys →
        Begins expr (xs ++ codes "|" ∷ ys)
    -- meet: what begins a seq; or a meet, `&` and what begins a seq
    meet_seq : (xs : Words) → Begins seq xs → Begins meet xs
    meet_ampersand : (xs ys : Words) (e : PatternTree) → Spells scale known meet xs e → Begins seq ys →
        Begins meet (xs ++ codes "&" ∷ ys)
    -- seq: what begins a post; or a seq, `;` and what begins a post
    seq_post : (xs : Words) → Begins post xs → Begins seq xs
    seq_semicolon : (xs ys : Words) (e : PatternTree) → Spells scale known seq xs e → Begins post ys →
        Begins seq (xs ++ codes ";" ∷ ys)
    -- post: what begins a primary; or a post; or a post, `%` and what begins an interval
    post_primary : (xs : Words) → Begins primary xs → Begins post xs
    post_whole : (xs : Words) (e : PatternTree) → Spells scale known post xs e → Begins post xs
    post_percent : (xs ys : Words) (e : PatternTree) → Spells scale known post xs e → BeginsInterval ys →
        Begins post (xs ++ codes "%" ∷ ys)
    -- primary: a whole one; or `(` and what begins an expr; or `rise` or `fall`, alone or with `(`
    -- and what begins a state; or `event`, alone or with `(` and an event's name or none; or what
    -- begins a lit, after `<:` or not
    primary_whole : (xs : Words) (e : PatternTree) → Spells scale known primary xs e → Begins primary xs
    primary_parens : (xs : Words) → Begins expr xs → Begins primary (codes "(" ∷ xs)
    primary_rise : Begins primary (codes "rise" ∷ [])
    primary_fall : Begins primary (codes "fall" ∷ [])
    primary_rise_parens : (xs : Words) → BeginsState state xs →
        Begins primary (codes "rise" ∷ codes "(" ∷ xs)
    primary_fall_parens : (xs : Words) → BeginsState state xs →
        Begins primary (codes "fall" ∷ codes "(" ∷ xs)
    primary_event : Begins primary (codes "event" ∷ [])
    primary_event_paren : Begins primary (codes "event" ∷ codes "(" ∷ [])
    primary_event_name : (text : List ℕ) → is_name text ≡ true →
        Begins primary (codes "event" ∷ codes "(" ∷ text ∷ [])
    primary_lit : (xs : Words) → BeginsState (unary false) xs → Begins primary xs
    primary_begins : (xs : Words) → BeginsState (unary false) xs →
        Begins primary (codes "<:" ∷ xs)

-- Some further words complete these to what is spelt.
pub record IsCompletable {Tree : Type 0} (Spelled : Words → Tree → Type 0)
    (xs : Words) : Type 0 where
  pub rest : Words
  pub tree : Tree
  pub spells : Spelled (xs ++ rest) tree
