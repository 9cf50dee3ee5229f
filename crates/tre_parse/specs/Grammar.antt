-- How words spell expressions: for each rule of the grammar the ways to split the list of words,
-- and what each way gives. `|`, `&`, `;`, `||` and `&&` group to the left. `|` binds least, then
-- `&`, then `;`, then the signs after an operand.
use Rattle.std.specs.Prelude.{◌≡◌, ℕ, Bool, if◌then◌else◌, true, false, Some, None, List, [], ◌∷◌, ◌++◌, codes}
use Rattle.tre_state.specs.StateTree.{StateTree, always, proposition, negation, conjunction, disjunction}
use Rattle.tre_zone.specs.Interval.{IntervalEnds}
use Rattle.tre_trace.specs.Reading.{Vocabulary}
use Rattle.tre_syntax.specs.PatternTree.{PatternTree, empty, literal, rise, fall, event, atom, sequence, alternation, intersection, repetition, restriction}
use Rattle.tre_parse.specs.Words.{Words, is_name, is_number, place_in, units_within}

-- The rules that spell a state and an expression, the loosest first. The last of a state is for what
-- stands behind `!`, inside a state or as a literal.
pub data StateRule : Type 0 where
  state conj : StateRule
  unary : Bool → StateRule

pub data Rule : Type 0 where
  expr meet seq post primary : Rule

-- Numbers have this scale, and names their places among these.
module _ (scale : ℕ) (known : Vocabulary) where
  pub data SpellsState : StateRule → Words → StateTree → Type 0 where
    -- unary: any number of `!`, then a name, `true` or a state in braces, or inside in parentheses
    unary_name : (inside : Bool) (text : List ℕ) → is_name text ≡ true →
        SpellsState (unary inside) (text ∷ []) (proposition (place_in known.names text))
    unary_true : (inside : Bool) → SpellsState (unary inside) (codes "true" ∷ []) always
    unary_bang : (inside : Bool) (xs : Words) (s : StateTree) → SpellsState (unary inside) xs s →
        SpellsState (unary inside) (codes "!" ∷ xs) (negation s)
    braces : (xs : Words) (s : StateTree) → SpellsState state xs s →
        SpellsState (unary false) (codes "{" ∷ xs ++ codes "}" ∷ []) s
    parens : (xs : Words) (s : StateTree) → SpellsState state xs s →
        SpellsState (unary true) (codes "(" ∷ xs ++ codes ")" ∷ []) s
    -- state: conj, then any number of `||` conj; conj: unary inside, then any number of `&&` unary
    state_conj : (xs : Words) (s : StateTree) → SpellsState conj xs s → SpellsState state xs s
    state_bars : (xs ys : Words) (s t : StateTree) → SpellsState state xs s →
        SpellsState conj ys t → SpellsState state (xs ++ codes "||" ∷ ys) (disjunction s t)
    conj_unary : (xs : Words) (s : StateTree) → SpellsState (unary true) xs s →
        SpellsState conj xs s
    conj_ampersands : (xs ys : Words) (s t : StateTree) → SpellsState conj xs s →
        SpellsState (unary true) ys t →
        SpellsState conj (xs ++ codes "&&" ∷ ys) (conjunction s t)

  -- The words spell the interval: with square brackets where its ends are in it.
  pub data SpellsInterval : Words → IntervalEnds → Type 0 where
    with_high : (low high : List ℕ) (low_weak high_weak : Bool) →
        is_number low ≡ true → is_number high ≡ true →
        SpellsInterval ((if low_weak then codes "[" else codes "(") ∷ low ∷ codes "," ∷ high
        ∷ (if high_weak then codes "]" else codes ")") ∷ [])
        (record {
          low = units_within scale low;
          low_weak = low_weak;
          high = Some (units_within scale high);
          high_weak = high_weak;
        })
    without_high : (low : List ℕ) (low_weak : Bool) → is_number low ≡ true →
        SpellsInterval ((if low_weak then codes "[" else codes "(") ∷ low ∷ codes ","
        ∷ codes "inf" ∷ codes ")" ∷ [])
        (record { low = units_within scale low; low_weak = low_weak; high = None; high_weak = false })

  pub data Spells : Rule → Words → PatternTree → Type 0 where
    -- expr: meet, then any number of `|` meet; meet: seq, then `&` seq; seq: post, then `;` post
    expr_meet : (xs : Words) (e : PatternTree) → Spells meet xs e → Spells expr xs e
    expr_bar : (xs ys : Words) (e f : PatternTree) → Spells expr xs e → Spells meet ys f →
        Spells expr (xs ++ codes "|" ∷ ys) (alternation e f)
    meet_seq : (xs : Words) (e : PatternTree) → Spells seq xs e → Spells meet xs e
    meet_ampersand : (xs ys : Words) (e f : PatternTree) → Spells meet xs e → Spells seq ys f →
        Spells meet (xs ++ codes "&" ∷ ys) (intersection e f)
    seq_post : (xs : Words) (e : PatternTree) → Spells post xs e → Spells seq xs e
    seq_semicolon : (xs ys : Words) (e f : PatternTree) → Spells seq xs e → Spells post ys f →
        Spells seq (xs ++ codes ";" ∷ ys) (sequence e f)
    -- post: primary, then any number of `*`, `+`, `?`, `%` interval; `+` is once and then any number
    -- of times, `?` that or nothing
    post_primary : (xs : Words) (e : PatternTree) → Spells primary xs e → Spells post xs e
    post_star : (xs : Words) (e : PatternTree) → Spells post xs e →
        Spells post (xs ++ codes "*" ∷ []) (repetition e)
    post_plus : (xs : Words) (e : PatternTree) → Spells post xs e →
        Spells post (xs ++ codes "+" ∷ []) (sequence e (repetition e))
    post_question : (xs : Words) (e : PatternTree) → Spells post xs e →
        Spells post (xs ++ codes "?" ∷ []) (alternation e (atom empty))
    post_percent : (xs ys : Words) (e : PatternTree) (ends : IntervalEnds) → Spells post xs e →
        SpellsInterval ys ends → Spells post (xs ++ codes "%" ∷ ys) (restriction e ends)
    -- primary: the empty stretch, parentheses, edges, an event by its name, literals
    primary_eps : Spells primary (codes "eps" ∷ []) (atom empty)
    primary_parens : (xs : Words) (e : PatternTree) → Spells expr xs e →
        Spells primary (codes "(" ∷ xs ++ codes ")" ∷ []) e
    primary_rise : (xs : Words) (s : StateTree) → SpellsState state xs s →
        Spells primary (codes "rise" ∷ codes "(" ∷ xs ++ codes ")" ∷ []) (atom (rise s))
    primary_fall : (xs : Words) (s : StateTree) → SpellsState state xs s →
        Spells primary (codes "fall" ∷ codes "(" ∷ xs ++ codes ")" ∷ []) (atom (fall s))
    primary_event : (text : List ℕ) → is_name text ≡ true →
        Spells primary (codes "event" ∷ codes "(" ∷ text ∷ codes ")" ∷ [])
        (atom (event (place_in known.events text)))
    primary_lit : (xs : Words) (s : StateTree) → SpellsState (unary false) xs s →
        Spells primary xs (atom (literal s))
    -- `<:` asks that the state rises where the literal begins, `:>` that it falls where it ends
    primary_begins : (xs : Words) (s : StateTree) → SpellsState (unary false) xs s →
        Spells primary (codes "<:" ∷ xs) (sequence (atom (rise s)) (atom (literal s)))
    primary_ends : (xs : Words) (s : StateTree) → SpellsState (unary false) xs s →
        Spells primary (xs ++ codes ":>" ∷ []) (sequence (atom (literal s)) (atom (fall s)))
    primary_begins_ends : (xs : Words) (s : StateTree) → SpellsState (unary false) xs s →
        Spells primary (codes "<:" ∷ xs ++ codes ":>" ∷ [])
        (sequence (sequence (atom (rise s)) (atom (literal s))) (atom (fall s)))
