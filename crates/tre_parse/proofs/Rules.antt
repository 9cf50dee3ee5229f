-- What each program takes is spelt by its rule, and where it halts the tokens begin the rule.
use Rattle.std.proofs.Common.{◌≡◌, ℕ, Bool, true, false, refl, Option, Some, None, List, [], ◌∷◌, ◌++◌, sym, subst, append_assoc, rules}
use Rattle.std.specs.Prelude.{if◌then◌else◌, is_some, codes}
use Rattle.std.proofs.lemmas.List.{append-nil}
use Rattle.tre_state.specs.StateTree.{StateTree, always, proposition, negation}
use Rattle.tre_zone.specs.Interval.{IntervalEnds, ends_of, kept_weak}
use Rattle.tre_syntax.specs.PatternTree.{PatternTree, rise, fall, event, atom, empty, sequence, alternation, repetition, restriction}
use Rattle.tre_parse.specs.declared.token.Token.{Token}
use Rattle.tre_parse.specs.declared.token.Token.TheVariants.{Name, Number, LeftParen, RightParen, LeftBracket, RightBracket, LeftBrace, RightBrace, Comma, Semicolon, Bar, DoubleBar, Ampersand, DoubleAmpersand, Bang, Star, Plus, Question, Percent, Begins as BeginsSign, Ends, Eps, Rise, Fall, Inf, True, Event, EventName}
use Rattle.tre_parse.specs.declared.connective.Connective.{Connective}
use Rattle.tre_parse.specs.declared.connective.Connective.TheVariants.{And, Or}
use Rattle.tre_parse.specs.declared.connective.Join.{Join}
use Rattle.tre_parse.specs.declared.connective.Join.TheVariants.{Sequence, Intersection, Alternation}
use Rattle.tre_parse.specs.TokenWords.{text_of, Stands, Piece}
use Rattle.tre_trace.specs.Reading.{Vocabulary}
use Rattle.tre_parse.specs.Grammar as grammar
use Rattle.tre_parse.specs.Grammar.{StateRule, state, conj, unary, Rule, expr, meet, seq, post, primary}
use Rattle.tre_parse.specs.Grammar.{SpellsState, SpellsInterval, with_high, without_high, Spells}
use Rattle.tre_parse.specs.Begins as begin
use Rattle.tre_parse.specs.Begins.{BeginsState, BeginsInterval, Begins}
use Rattle.tre_parse.specs.Joins.{connected, connective_sign, connected_rule, joined_by, join_sign, joined_rule, brackets_of, operand_in, edge_sign}
use Rattle.tre_parse.specs.Reader.{state_by, state_after, state_operand, expression_by, expression_after, operand, operand_after, unsigned, Task, of_state, of_pattern, of_interval, Program, give, halt, call, is_token, accept, expect, said, part, leaf_of, event_number_of, opened_by, low_end_of, high_end_of, closed_by, behind_high, behind_comma, behind_low, behind_opening, state_part, expression_part, go_on, sign_program, is_behind, edge_program, behind_event, event_program, literal_program, unsigned_program, is_before}
use Rattle.tre_parse.proofs.Says.{StateSpelt, PatternSpelt, StateBegun, PatternBegun, Holds, TaskSays, ProgramHolds, says_by}
use Rattle.tre_parse.specs.Words.{Words, is_number, units_within, place_in}

module _ (scale : ℕ) (known : Vocabulary) where
  -- ---- what is whole is begun

  pub begun_state : (r : StateRule) (xs : Words) (s : StateTree) → SpellsState scale known r xs s
      → BeginsState scale known r xs
  begun_state _ _ _ (grammar.state_conj xs s h) = begin.state_conj xs (begun_state conj xs s h)
  begun_state _ _ _ (grammar.state_bars xs ys s t h k) = begin.state_bars xs ys s h
      (begun_state conj ys t k)
  begun_state _ _ _ (grammar.conj_unary xs s h) = begin.conj_unary xs (begun_state (unary true) xs s h)
  begun_state _ _ _ (grammar.conj_ampersands xs ys s t h k) = begin.conj_ampersands xs ys s h
      (begun_state (unary true) ys t k)
  begun_state _ _ _ (grammar.unary_name inside i is) = begin.unary_whole inside _ _
      (grammar.unary_name inside i is)
  begun_state _ _ _ (grammar.unary_true inside) = begin.unary_whole inside _ _
      (grammar.unary_true inside)
  begun_state _ _ _ (grammar.unary_bang inside xs s h) = begin.unary_whole inside _ _
      (grammar.unary_bang inside xs s h)
  begun_state _ _ _ (grammar.braces xs s h) = begin.unary_whole false _ _ (grammar.braces xs s h)
  begun_state _ _ _ (grammar.parens xs s h) = begin.unary_whole true _ _ (grammar.parens xs s h)

  pub begun : (r : Rule) (xs : Words) (e : PatternTree) → Spells scale known r xs e → Begins scale known r xs
  begun _ _ _ (grammar.expr_meet xs e h) = begin.expr_meet xs (begun meet xs e h)
  begun _ _ _ (grammar.expr_bar xs ys e f h k) = begin.expr_bar xs ys e h (begun meet ys f k)
  begun _ _ _ (grammar.meet_seq xs e h) = begin.meet_seq xs (begun seq xs e h)
  begun _ _ _ (grammar.meet_ampersand xs ys e f h k) = begin.meet_ampersand xs ys e h
      (begun seq ys f k)
  begun _ _ _ (grammar.seq_post xs e h) = begin.seq_post xs (begun post xs e h)
  begun _ _ _ (grammar.seq_semicolon xs ys e f h k) = begin.seq_semicolon xs ys e h
      (begun post ys f k)
  begun _ _ _ (grammar.post_primary xs e h) = begin.post_whole _ _ (grammar.post_primary xs e h)
  begun _ _ _ (grammar.post_star xs e h) = begin.post_whole _ _ (grammar.post_star xs e h)
  begun _ _ _ (grammar.post_plus xs e h) = begin.post_whole _ _ (grammar.post_plus xs e h)
  begun _ _ _ (grammar.post_question xs e h) = begin.post_whole _ _ (grammar.post_question xs e h)
  begun _ _ _ (grammar.post_percent xs ys e ends h k) = begin.post_whole _ _
      (grammar.post_percent xs ys e ends h k)
  begun _ _ _ grammar.primary_eps = begin.primary_whole _ _ grammar.primary_eps
  begun _ _ _ (grammar.primary_parens xs e h) = begin.primary_whole _ _ (grammar.primary_parens _ _ h)
  begun _ _ _ (grammar.primary_rise xs s h) = begin.primary_whole _ _ (grammar.primary_rise xs s h)
  begun _ _ _ (grammar.primary_fall xs s h) = begin.primary_whole _ _ (grammar.primary_fall xs s h)
  begun _ _ _ (grammar.primary_event i is) = begin.primary_whole _ _ (grammar.primary_event i is)
  begun _ _ _ (grammar.primary_lit xs s h) = begin.primary_whole _ _ (grammar.primary_lit xs s h)
  begun _ _ _ (grammar.primary_begins xs s h) = begin.primary_whole _ _ (grammar.primary_begins _ s h)
  begun _ _ _ (grammar.primary_ends xs s h) = begin.primary_whole _ _ (grammar.primary_ends xs s h)
  begun _ _ _ (grammar.primary_begins_ends xs s h) = begin.primary_whole _ _
      (grammar.primary_begins_ends xs s h)

  -- ---- a sign that is asked for

  asked : (token next : Token) (word : List ℕ) → is_token token next ≡ true
      → Stands scale known word next → word ≡ text_of token
  asked LeftParen LeftParen word e stands = stands
  asked RightParen RightParen word e stands = stands
  asked LeftBrace LeftBrace word e stands = stands
  asked RightBrace RightBrace word e stands = stands
  asked Comma Comma word e stands = stands
  asked Semicolon Semicolon word e stands = stands
  asked Bar Bar word e stands = stands
  asked DoubleBar DoubleBar word e stands = stands
  asked Ampersand Ampersand word e stands = stands
  asked DoubleAmpersand DoubleAmpersand word e stands = stands
  asked Bang Bang word e stands = stands
  asked Ends Ends word e stands = stands
  asked _ _ word e stands = absurd (cc)

  -- A program behind a word, by what the word is.
  with_word : {A : Type 0} (Gives : Words → A → Type 0) (Halts : Words → Type 0) (p : Program A)
      (xs : Words) (word text : List ℕ) → word ≡ text → Holds scale known Gives Halts p (xs ++ text ∷ [])
      → Holds scale known Gives Halts p (xs ++ word ∷ [])
  with_word Gives Halts p xs word text e h =
      subst (λ (one : List ℕ). Holds scale known Gives Halts p (xs ++ one ∷ [])) (sym e) h

  accepts : {A : Type 0} (Gives : Words → A → Type 0) (Halts : Words → Type 0)
      (token : Token) (there other : Program A) (xs : Words) →
      Holds scale known Gives Halts there (xs ++ text_of token ∷ []) →
      Holds scale known Gives Halts other xs →
      Holds scale known Gives Halts (accept token there other) xs
  accepts Gives Halts token there other xs h k next word stands =
      by (is_token token next) (λ q. asked token next word q stands)
    where
      by : (yes : Bool) → (yes ≡ true → word ≡ text_of token)
          → Holds scale known Gives Halts (if yes then there else other)
          (if yes then xs ++ word ∷ [] else xs)
      by true same = with_word Gives Halts there xs word (text_of token) (same refl) h
      by false same = k

  -- ---- states

  first_state : (how : Connective) (xs : Words) (s : StateTree)
      → StateSpelt scale known (state_part how) xs s → SpellsState scale known (connected_rule how) xs s
  first_state And xs s h = grammar.conj_unary xs s h
  first_state Or xs s h = grammar.state_conj xs s h

  first_state_begun : (how : Connective) (xs : Words) → StateBegun scale known (state_part how) xs
      → BeginsState scale known (connected_rule how) xs
  first_state_begun And xs h = begin.conj_unary xs h
  first_state_begun Or xs h = begin.state_conj xs h

  more_state : (how : Connective) (xs ys : Words) (s t : StateTree)
      → SpellsState scale known (connected_rule how) xs s → StateSpelt scale known (state_part how) ys t
      → SpellsState scale known (connected_rule how) (xs ++ text_of (connective_sign how) ∷ ys) (connected how s t)
  more_state And xs ys s t h k = grammar.conj_ampersands xs ys s t h k
  more_state Or xs ys s t h k = grammar.state_bars xs ys s t h k

  more_state_begun : (how : Connective) (xs ys : Words) (s : StateTree)
      → SpellsState scale known (connected_rule how) xs s → StateBegun scale known (state_part how) ys
      → BeginsState scale known (connected_rule how) (xs ++ text_of (connective_sign how) ∷ ys)
  more_state_begun And xs ys s h k = begin.conj_ampersands xs ys s h k
  more_state_begun Or xs ys s h k = begin.state_bars xs ys s h k

  state_by_holds : (how : Connective) → ProgramHolds scale known (of_state (state_by how))
  state_by_holds how = search (rules, first_state, first_state_begun)

  state_after_holds : (how : Connective) (s : StateTree)
      → ProgramHolds scale known (of_state (state_after how s))
  state_after_holds how s =
      accepts (StateSpelt scale known (state_after how s)) (StateBegun scale known (state_after how s)) (connective_sign how)
      (call (of_state (state_part how))
      (λ t. call (of_state (state_after how (connected how s t))) (λ u. give u))) (give s) [] (
        (λ ys t k. (
          (λ zs u l xs h.
              let P = λ (ts : Words). SpellsState scale known (connected_rule how) ts u in
              subst P (append_assoc xs (text_of (connective_sign how) ∷ ys) zs)
              (l (xs ++ text_of (connective_sign how) ∷ ys) (more_state how xs ys s t h k))),
          (λ zs l xs h.
              let P = λ (ts : Words). BeginsState scale known (connected_rule how) ts in
              subst P (append_assoc xs (text_of (connective_sign how) ∷ ys) zs)
              (l (xs ++ text_of (connective_sign how) ∷ ys) (more_state how xs ys s t h k))),
        )),
        (λ ys k xs h. more_state_begun how xs ys s h k),
      )
      (λ xs h.
      let P = λ (ts : Words). SpellsState scale known (connected_rule how) ts s in
      subst P (sym (append-nil xs)) h)

  named_state : (inside : Bool) (word : List ℕ) (i : ℕ) → Stands scale known word (Name i)
      → SpellsState scale known (unary inside) (word ∷ []) (proposition i)
  named_state inside word i stands =
      subst (λ (n : ℕ). SpellsState scale known (unary inside) (word ∷ []) (proposition n))
      (sym stands.1) (grammar.unary_name inside word stands.0)

  true_state : (inside : Bool) (word : List ℕ) → word ≡ codes "true"
      → SpellsState scale known (unary inside) (word ∷ []) always
  true_state inside word e =
      subst (λ (one : List ℕ). SpellsState scale known (unary inside) (one ∷ []) always) (sym e)
      (grammar.unary_true inside)

  leaf_holds : (braces : Bool) (token : Token) (word : List ℕ) → Stands scale known word token
      → Holds scale known (SpellsState scale known (operand_in braces)) (BeginsState scale known (operand_in braces))
      (said (leaf_of token) (λ s. give s)) (if is_some (leaf_of token) then word ∷ [] else [])
  leaf_holds true (Name i) word stands = named_state false word i stands
  leaf_holds false (Name i) word stands = named_state true word i stands
  leaf_holds true True word stands = true_state false word stands
  leaf_holds false True word stands = true_state true word stands
  leaf_holds braces _ word stands = begin.none (operand_in braces)

  bang_state : (braces : Bool) (xs : Words) (s : StateTree)
      → SpellsState scale known (operand_in braces) xs s
      → SpellsState scale known (operand_in braces) (codes "!" ∷ xs) (negation s)
  bang_state true xs s h = grammar.unary_bang false xs s h
  bang_state false xs s h = grammar.unary_bang true xs s h

  bang_begun : (braces : Bool) (xs : Words) → BeginsState scale known (operand_in braces) xs
      → BeginsState scale known (operand_in braces) (codes "!" ∷ xs)
  bang_begun true xs h = begin.unary_bang false xs h
  bang_begun false xs h = begin.unary_bang true xs h

  bracket_state : (braces : Bool) (xs : Words) (s : StateTree) → SpellsState scale known state xs s
      → SpellsState scale known (operand_in braces)
      (text_of (brackets_of braces).0 ∷ xs ++ text_of (brackets_of braces).1 ∷ []) s
  bracket_state true xs s h = grammar.braces xs s h
  bracket_state false xs s h = grammar.parens xs s h

  bracket_begun : (braces : Bool) (xs : Words) → BeginsState scale known state xs
      → BeginsState scale known (operand_in braces) (text_of (brackets_of braces).0 ∷ xs)
  bracket_begun true xs h = begin.braces xs h
  bracket_begun false xs h = begin.parens xs h

  state_operand_holds : (braces : Bool) → ProgramHolds scale known (of_state (state_operand braces))
  state_operand_holds braces =
      let Gives = SpellsState scale known (operand_in braces) in
      let Halts = BeginsState scale known (operand_in braces) in
      let first = (brackets_of braces).0 in
      let last = (brackets_of braces).1 in
      let bracket = call (of_state (state_by Or)) (λ s. expect last (give s)) in
      accepts Gives Halts Bang
      (call (of_state (state_operand braces)) (λ s. give (negation s)))
      (accept first bracket (part leaf_of (λ s. give s))) []
      ((λ xs s h. bang_state braces xs s h), (λ xs h. bang_begun braces xs h))
      (accepts Gives Halts first bracket (part leaf_of (λ s. give s)) [] (
        (λ xs s h. accepts Gives Halts last (give s) halt (text_of first ∷ xs) (bracket_state braces xs s h)
            (bracket_begun braces xs (begun_state state xs s h))),
        (λ xs h. bracket_begun braces xs h),
      ) (leaf_holds braces))

  -- ---- expressions

  first_part : (how : Join) (xs : Words) (e : PatternTree)
      → PatternSpelt scale known (expression_part how) xs e → Spells scale known (joined_rule how) xs e
  first_part Sequence xs e h = grammar.seq_post xs e h
  first_part Intersection xs e h = grammar.meet_seq xs e h
  first_part Alternation xs e h = grammar.expr_meet xs e h

  first_part_begun : (how : Join) (xs : Words) → PatternBegun scale known (expression_part how) xs
      → Begins scale known (joined_rule how) xs
  first_part_begun Sequence xs h = begin.seq_post xs h
  first_part_begun Intersection xs h = begin.meet_seq xs h
  first_part_begun Alternation xs h = begin.expr_meet xs h

  more_parts : (how : Join) (xs ys : Words) (e f : PatternTree)
      → Spells scale known (joined_rule how) xs e → PatternSpelt scale known (expression_part how) ys f
      → Spells scale known (joined_rule how) (xs ++ text_of (join_sign how) ∷ ys) (joined_by how e f)
  more_parts Sequence xs ys e f h k = grammar.seq_semicolon xs ys e f h k
  more_parts Intersection xs ys e f h k = grammar.meet_ampersand xs ys e f h k
  more_parts Alternation xs ys e f h k = grammar.expr_bar xs ys e f h k

  more_parts_begun : (how : Join) (xs ys : Words) (e : PatternTree)
      → Spells scale known (joined_rule how) xs e → PatternBegun scale known (expression_part how) ys
      → Begins scale known (joined_rule how) (xs ++ text_of (join_sign how) ∷ ys)
  more_parts_begun Sequence xs ys e h k = begin.seq_semicolon xs ys e h k
  more_parts_begun Intersection xs ys e h k = begin.meet_ampersand xs ys e h k
  more_parts_begun Alternation xs ys e h k = begin.expr_bar xs ys e h k

  expression_by_holds : (how : Join) → ProgramHolds scale known (of_pattern (expression_by how))
  expression_by_holds how = search (rules, first_part, first_part_begun)

  expression_after_holds : (how : Join) (e : PatternTree)
      → ProgramHolds scale known (of_pattern (expression_after how e))
  expression_after_holds how e =
      accepts (PatternSpelt scale known (expression_after how e)) (PatternBegun scale known (expression_after how e))
      (join_sign how) (call (of_pattern (expression_part how))
      (λ f. call (of_pattern (expression_after how (joined_by how e f))) (λ g. give g))) (give e) [] (
        (λ ys f k. (
          (λ zs g l xs h.
              let P = λ (ts : Words). Spells scale known (joined_rule how) ts g in
              subst P (append_assoc xs (text_of (join_sign how) ∷ ys) zs)
              (l (xs ++ text_of (join_sign how) ∷ ys) (more_parts how xs ys e f h k))),
          (λ zs l xs h.
              let P = λ (ts : Words). Begins scale known (joined_rule how) ts in
              subst P (append_assoc xs (text_of (join_sign how) ∷ ys) zs)
              (l (xs ++ text_of (join_sign how) ∷ ys) (more_parts how xs ys e f h k))),
        )),
        (λ ys k xs h. more_parts_begun how xs ys e h k),
      )
      (λ xs h.
      let P = λ (ts : Words). Spells scale known (joined_rule how) ts e in
      subst P (sym (append-nil xs)) h)

  -- An operand, its signs, and what goes on behind them.
  signed : (e f : PatternTree) (ys : Words) → ((xs : Words) → Spells scale known post xs e
      → Spells scale known post (xs ++ ys) f) →
      Holds scale known (PatternSpelt scale known (operand_after e)) (PatternBegun scale known (operand_after e)) (go_on f) ys
  signed e f ys make = (
    (λ zs g k xs h.
        let P = λ (ts : Words). Spells scale known post ts g in
        subst P (append_assoc xs ys zs) (k (xs ++ ys) (make xs h))),
    (λ zs k xs h.
        let P = λ (ts : Words). Begins scale known post ts in
        subst P (append_assoc xs ys zs) (k (xs ++ ys) (make xs h))),
  )

  nothing_behind : (e : PatternTree) (xs : Words) → Spells scale known post xs e → Spells scale known post (xs ++ []) e
  nothing_behind e xs h = search rules

  sign_holds : (e : PatternTree) (token : Token) (word : List ℕ) → Stands scale known word token
      → Holds scale known (PatternSpelt scale known (operand_after e)) (PatternBegun scale known (operand_after e))
      (sign_program e token) (if is_behind token then word ∷ [] else [])
  sign_holds e Star word stands =
      with_word (PatternSpelt scale known (operand_after e)) (PatternBegun scale known (operand_after e))
      (go_on (repetition e)) [] word (codes "*") stands
      (signed e (repetition e) (codes "*" ∷ []) (λ xs h. grammar.post_star xs e h))
  sign_holds e Plus word stands =
      with_word (PatternSpelt scale known (operand_after e)) (PatternBegun scale known (operand_after e))
      (go_on (sequence e (repetition e))) [] word (codes "+") stands
      (signed e (sequence e (repetition e)) (codes "+" ∷ []) (λ xs h. grammar.post_plus xs e h))
  sign_holds e Question word stands =
      with_word (PatternSpelt scale known (operand_after e)) (PatternBegun scale known (operand_after e))
      (go_on (alternation e (atom empty))) [] word (codes "?") stands
      (signed e (alternation e (atom empty)) (codes "?" ∷ []) (λ xs h. grammar.post_question xs e h))
  sign_holds e Percent word stands =
      with_word (PatternSpelt scale known (operand_after e)) (PatternBegun scale known (operand_after e))
      (call of_interval (λ ends. go_on (restriction e ends))) [] word (codes "%") stands (
        (λ ys ends k. signed e (restriction e ends) (codes "%" ∷ ys)
            (λ xs h. grammar.post_percent xs ys e ends h k)),
        (λ ys k xs h. begin.post_percent xs ys e h k),
      )
  sign_holds e Ends word stands = λ xs h. begin.post_whole (xs ++ []) e (nothing_behind e xs h)
  sign_holds e _ word stands = nothing_behind e

  edge_holds : (rises : Bool) → Holds scale known (Spells scale known primary) (Begins scale known primary) (edge_program rises)
      (text_of (edge_sign rises) ∷ [])
  edge_holds true =
      accepts (Spells scale known primary) (Begins scale known primary) LeftParen
      (call (of_state (state_by Or)) (λ s. expect RightParen (give (atom (rise s))))) halt
      (codes "rise" ∷ []) (
        (λ xs s h. accepts (Spells scale known primary) (Begins scale known primary) RightParen (give (atom (rise s))) halt
            (codes "rise" ∷ codes "(" ∷ xs) (grammar.primary_rise xs s h)
            (begin.primary_rise_parens xs (begun_state state xs s h))),
        (λ xs h. begin.primary_rise_parens xs h),
      ) begin.primary_rise
  edge_holds false =
      accepts (Spells scale known primary) (Begins scale known primary) LeftParen
      (call (of_state (state_by Or)) (λ s. expect RightParen (give (atom (fall s))))) halt
      (codes "fall" ∷ []) (
        (λ xs s h. accepts (Spells scale known primary) (Begins scale known primary) RightParen (give (atom (fall s))) halt
            (codes "fall" ∷ codes "(" ∷ xs) (grammar.primary_fall xs s h)
            (begin.primary_fall_parens xs (begun_state state xs s h))),
        (λ xs h. begin.primary_fall_parens xs h),
      ) begin.primary_fall

  named_holds : (token : Token) (word : List ℕ) → Stands scale known word token
      → Holds scale known (Spells scale known primary) (Begins scale known primary)
      (said (event_number_of token) behind_event)
      (if is_some (event_number_of token) then codes "event" ∷ codes "(" ∷ word ∷ []
      else codes "event" ∷ codes "(" ∷ [])
  named_holds (EventName i) word stands =
      subst (λ (n : ℕ). Holds scale known (Spells scale known primary) (Begins scale known primary)
      (behind_event n) (codes "event" ∷ codes "(" ∷ word ∷ [])) (sym stands.1)
      (accepts (Spells scale known primary) (Begins scale known primary) RightParen
      (give (atom (event (place_in known.events word)))) halt
      (codes "event" ∷ codes "(" ∷ word ∷ []) (grammar.primary_event word stands.0)
      (begin.primary_event_name word stands.0))
  named_holds _ word stands = begin.primary_event_paren

  event_holds : Holds scale known (Spells scale known primary) (Begins scale known primary) event_program (codes "event" ∷ [])
  event_holds = accepts (Spells scale known primary) (Begins scale known primary) LeftParen
      (part event_number_of behind_event) halt (codes "event" ∷ []) named_holds
      begin.primary_event

  literal_holds : Holds scale known (Spells scale known primary) (Begins scale known primary) (literal_program false) []
  literal_holds = (
    (λ xs s h. accepts (Spells scale known primary) (Begins scale known primary) Ends _ _ xs (grammar.primary_ends xs s h)
        (grammar.primary_lit xs s h)),
    (λ xs h. begin.primary_lit xs h),
  )

  unsigned_holds : (token : Token) (word : List ℕ) → Stands scale known word token
      → Holds scale known (Spells scale known primary) (Begins scale known primary) (unsigned_program token)
      (if is_before token then word ∷ [] else [])
  unsigned_holds Eps word stands =
      with_word (Spells scale known primary) (Begins scale known primary) (give (atom empty)) [] word (codes "eps") stands
      grammar.primary_eps
  unsigned_holds LeftParen word stands =
      with_word (Spells scale known primary) (Begins scale known primary) (unsigned_program LeftParen) [] word (codes "(") stands (
        (λ xs e h. accepts (Spells scale known primary) (Begins scale known primary) RightParen (give e) halt (codes "(" ∷ xs)
            (grammar.primary_parens xs e h) (begin.primary_parens xs (begun expr xs e h))),
        (λ xs h. begin.primary_parens xs h),
      )
  unsigned_holds Rise word stands =
      with_word (Spells scale known primary) (Begins scale known primary) (edge_program true) [] word (codes "rise") stands
      (edge_holds true)
  unsigned_holds Fall word stands =
      with_word (Spells scale known primary) (Begins scale known primary) (edge_program false) [] word (codes "fall") stands
      (edge_holds false)
  unsigned_holds Event word stands =
      with_word (Spells scale known primary) (Begins scale known primary) (event_program) [] word (codes "event") stands
      event_holds
  unsigned_holds BeginsSign word stands =
      with_word (Spells scale known primary) (Begins scale known primary) (literal_program true) [] word (codes "<:") stands (
        (λ xs s h. accepts (Spells scale known primary) (Begins scale known primary) Ends _ _ (codes "<:" ∷ xs)
            (grammar.primary_begins_ends xs s h) (grammar.primary_begins xs s h)),
        (λ xs h. begin.primary_begins xs h),
      )
  unsigned_holds _ word stands = literal_holds

  -- ---- intervals

  -- the bracket that opens an interval
  abbrev opening : Bool → List ℕ
  opening weak = if weak then codes "[" else codes "("

  abbrev closing : Bool → List ℕ
  closing weak = if weak then codes "]" else codes ")"

  -- The high end by its word, or `inf`.
  abbrev high_word : Option (List ℕ) → List ℕ
  high_word (Some high) = high
  high_word None = codes "inf"

  abbrev high_number : Option (List ℕ) → Option ℕ
  high_number (Some high) = Some (units_within scale high)
  high_number None = None

  abbrev IsHigh : Option (List ℕ) → Type 0
  IsHigh (Some high) = is_number high ≡ true
  IsHigh None = Unit {0}

  abbrev ends_from : List ℕ → Bool → Option (List ℕ) → Bool → IntervalEnds
  ends_from low weak high high_weak =
      ends_of (units_within scale low) weak (high_number high) (kept_weak (high_number high) high_weak)

  interval_ends : (low : List ℕ) (weak : Bool) (high : Option (List ℕ)) (high_weak : Bool)
      → is_number low ≡ true → IsHigh high
      → SpellsInterval scale known (opening weak ∷ low ∷ codes "," ∷ high_word high
      ∷ closing (kept_weak (high_number high) high_weak) ∷ []) (ends_from low weak high high_weak)
  interval_ends low weak (Some high) high_weak l h = with_high low high weak high_weak l h
  interval_ends low weak None high_weak l h = without_high low weak l

  closed : (low : List ℕ) (weak : Bool) (high : Option (List ℕ)) → is_number low ≡ true → IsHigh high
      → (token : Token) (word : List ℕ) → Stands scale known word token
      → Holds scale known (SpellsInterval scale known) (BeginsInterval scale known)
      (said (closed_by (high_number high) token)
      (λ high_weak. give (ends_of (units_within scale low) weak (high_number high) (kept_weak (high_number high) high_weak))))
      (if is_some (closed_by (high_number high) token)
      then opening weak ∷ low ∷ codes "," ∷ high_word high ∷ word ∷ []
      else opening weak ∷ low ∷ codes "," ∷ high_word high ∷ [])
  closed low weak (Some high) l h RightBracket word stands =
      subst (λ (one : List ℕ). SpellsInterval scale known (opening weak ∷ low ∷ codes "," ∷ high ∷ one ∷ [])
      (ends_from low weak (Some high) true)) (sym stands) (with_high low high weak true l h)
  closed low weak (Some high) l h RightParen word stands =
      subst (λ (one : List ℕ). SpellsInterval scale known (opening weak ∷ low ∷ codes "," ∷ high ∷ one ∷ [])
      (ends_from low weak (Some high) false)) (sym stands) (with_high low high weak false l h)
  closed low weak None l h RightParen word stands =
      subst (λ (one : List ℕ). SpellsInterval scale known (opening weak ∷ low ∷ codes "," ∷ codes "inf" ∷ one ∷ [])
      (ends_from low weak None false)) (sym stands) (without_high low weak l)
  closed low weak (Some high) l h _ word stands = record {
    more = codes ")" ∷ [];
    ends = ends_from low weak (Some high) false;
    spells = with_high low high weak false l h;
  }
  closed low weak None l h _ word stands = record {
    more = codes ")" ∷ [];
    ends = ends_from low weak None false;
    spells = without_high low weak l;
  }

  high_end : (low : List ℕ) (weak : Bool) → is_number low ≡ true → (token : Token) (word : List ℕ)
      → Stands scale known word token
      → Holds scale known (SpellsInterval scale known) (BeginsInterval scale known)
      (said (high_end_of token) (λ high. behind_high weak (units_within scale low) high))
      (if is_some (high_end_of token) then opening weak ∷ low ∷ codes "," ∷ word ∷ []
      else opening weak ∷ low ∷ codes "," ∷ [])
  high_end low weak l (Number high) word stands =
      subst (λ (n : ℕ). Holds scale known (SpellsInterval scale known) (BeginsInterval scale known)
      (behind_high weak (units_within scale low) (Some n)) (opening weak ∷ low ∷ codes "," ∷ word ∷ []))
      (sym stands.1) (closed low weak (Some word) l stands.0)
  high_end low weak l Inf word stands =
      subst (λ (one : List ℕ). Holds scale known (SpellsInterval scale known) (BeginsInterval scale known)
      (behind_high weak (units_within scale low) None) (opening weak ∷ low ∷ codes "," ∷ one ∷ []))
      (sym stands) (closed low weak None l tt)
  high_end low weak l _ word stands = record {
    more = codes "inf" ∷ codes ")" ∷ [];
    ends = ends_from low weak None false;
    spells = without_high low weak l;
  }

  low_end : (weak : Bool) (token : Token) (word : List ℕ) → Stands scale known word token
      → Holds scale known (SpellsInterval scale known) (BeginsInterval scale known)
      (said (low_end_of token) (λ low. behind_low weak low))
      (if is_some (low_end_of token) then opening weak ∷ word ∷ [] else opening weak ∷ [])
  low_end weak (Number low) word stands =
      subst (λ (n : ℕ). Holds scale known (SpellsInterval scale known) (BeginsInterval scale known)
      (behind_low weak n) (opening weak ∷ word ∷ [])) (sym stands.1)
      (accepts (SpellsInterval scale known) (BeginsInterval scale known) Comma
      (behind_comma weak (units_within scale word)) halt
      (opening weak ∷ word ∷ []) (high_end word weak stands.0) (record {
        more = codes "," ∷ codes "inf" ∷ codes ")" ∷ [];
        ends = ends_from word weak None false;
        spells = without_high word weak stands.0;
      }))
  low_end weak _ word stands = record {
    more = codes "0" ∷ codes "," ∷ codes "inf" ∷ codes ")" ∷ [];
    ends = ends_from (codes "0") weak None false;
    spells = without_high (codes "0") weak refl;
  }

  interval_holds : (token : Token) (word : List ℕ) → Stands scale known word token
      → Holds scale known (SpellsInterval scale known) (BeginsInterval scale known)
      (said (opened_by token) (λ weak. behind_opening weak))
      (if is_some (opened_by token) then word ∷ [] else [])
  interval_holds LeftBracket word stands =
      with_word (SpellsInterval scale known) (BeginsInterval scale known) (behind_opening true) [] word
      (codes "[") stands (low_end true)
  interval_holds LeftParen word stands =
      with_word (SpellsInterval scale known) (BeginsInterval scale known) (behind_opening false) [] word
      (codes "(") stands (low_end false)
  interval_holds _ word stands = record {
    more = codes "[" ∷ codes "0" ∷ codes "," ∷ codes "inf" ∷ codes ")" ∷ [];
    ends = ends_from (codes "0") true None false;
    spells = without_high (codes "0") true refl;
  }

  -- ---- each task

  holds : (task : Task) → ProgramHolds scale known task
  holds (of_state (state_by how)) = state_by_holds how
  holds (of_state (state_after how s)) = state_after_holds how s
  holds (of_state (state_operand braces)) = state_operand_holds braces
  holds (of_pattern (expression_by how)) = expression_by_holds how
  holds (of_pattern (expression_after how e)) = expression_after_holds how e
  holds (of_pattern operand) = (
    (λ xs e h. (
      (λ ys f k. k xs (grammar.post_primary xs e h)),
      (λ ys k. k xs (grammar.post_primary xs e h)),
    )),
    (λ xs h. begin.post_primary xs h),
  )
  holds (of_pattern (operand_after e)) = sign_holds e
  holds (of_pattern unsigned) = unsigned_holds
  holds of_interval = interval_holds

  -- What each task says.
  pub task_says : (task : Task) (pieces : List (Piece scale known)) → TaskSays scale known task pieces
  task_says = says_by scale known holds
