-- What is spelt is read: by induction on how the words are spelt, before any rest of the tokens
-- that doesn't go on with it.
use Rattle.std.proofs.Common.{◌≡◌, ℕ, ◌<◌, ◌≤◌, Bool, true, false, List, [], ◌∷◌, ◌++◌, refl, sym, ◌∙◌, ap, arith, rules}
use Rattle.std.specs.Prelude.{codes, not, ◌&&◌, if◌then◌else◌}
use Rattle.std.specs.List.{list_all}
use Rattle.std.specs.Char.{is_ascii_digit}
use Rattle.std.proofs.lemmas.Bool.Decides.{nat_tests}
use Rattle.tre_state.specs.Name.{starts_name, continues_name, is_reserved}
use Rattle.tre_syntax.specs.PatternTree.{PatternTree, atom, rise, fall, sequence, alternation, restriction, repetition, empty}
use Rattle.tre_parse.specs.declared.connective.Join.{Join}
use Rattle.tre_parse.specs.declared.connective.Join.TheVariants.{Sequence, Intersection, Alternation}
use Rattle.std.proofs.lemmas.List.{append-nil}
use Rattle.tre_trace.specs.Reading.{Vocabulary}
use Rattle.tre_state.specs.StateTree.{StateTree, negation}
use Rattle.tre_zone.specs.Interval.{IntervalEnds}
use Rattle.tre_parse.specs.declared.token.Token.{Token}
use Rattle.tre_parse.specs.declared.token.Token.TheVariants.{Name, EventName, Number, LeftParen, RightParen, LeftBracket, RightBracket, Comma, Inf, LeftBrace, RightBrace, Semicolon, Bar, DoubleBar, Ampersand, DoubleAmpersand, Star, Plus, Question, Percent, Begins, Ends, Rise, Fall, Event}
use Rattle.tre_parse.specs.declared.before.Before.{Before}
use Rattle.tre_parse.specs.declared.before.Before.TheVariants.{Other, EventParen}
use Rattle.tre_parse.specs.declared.connective.Connective.{Connective}
use Rattle.tre_parse.specs.declared.connective.Connective.TheVariants.{And, Or}
use Rattle.tre_parse.specs.Front.{front}
use Rattle.tre_parse.specs.Joins.{connected, connective_sign, joined_by, join_sign, edged_literal}
use Rattle.tre_parse.specs.TokenWords.{text_of, token_as, before_word, tokens_for, tokens_as, known_as}
use Rattle.tre_parse.specs.Reader.{Reading, got, and_then, state_by, state_after, state_operand, expression_by, expression_after, operand, operand_after, unsigned, of_interval, give, is_token, accept, expect, state_part, expression_part, sign_program, is_behind, past, run, read, read_state, read_pattern}
use Rattle.tre_parse.proofs.Fixpoint.{state_fixed, pattern_fixed, interval_fixed}
use Rattle.tre_parse.proofs.Equations.{along, then_got, state_begins, state_goes_on, state_ends, expression_begins, expression_goes_on, expression_ends, operand_begins}
use Rattle.tre_parse.specs.Grammar.{SpellsState, unary_name, unary_true, unary_bang, braces, parens, state_conj, state_bars, conj_unary, conj_ampersands, SpellsInterval, with_high, without_high, Spells, expr_meet, expr_bar, meet_seq, meet_ampersand, seq_post, seq_semicolon, post_primary, post_star, post_plus, post_question, post_percent, primary_eps, primary_parens, primary_rise, primary_fall, primary_event, primary_lit, primary_begins, primary_ends, primary_begins_ends}
use Rattle.tre_parse.specs.Grammar.{StateRule, state, conj, unary, Rule, expr, meet, seq, post, primary}
use Rattle.tre_parse.specs.Words.{Words, is_name, is_number, units_within, place_in}

-- How strongly a token goes on with what stands before it: the operators, then the signs behind an
-- operand, then the `:>` of a literal.
abbrev pub binds : Token → ℕ
binds Bar = 1
binds Ampersand = 2
binds Semicolon = 3
binds Star = 4
binds Plus = 4
binds Question = 4
binds Percent = 4
binds Ends = 5
binds _ = 0

abbrev pub strength : Join → ℕ
strength Alternation = 1
strength Intersection = 2
strength Sequence = 3

-- The same inside a state.
abbrev pub state_binds : Token → ℕ
state_binds DoubleBar = 1
state_binds DoubleAmpersand = 2
state_binds _ = 0

abbrev pub state_strength : Connective → ℕ
state_strength Or = 1
state_strength And = 2

-- ---- states

no_connective : (how : Connective) (token : Token) → state_binds token < state_strength how
    → is_token (connective_sign how) token ≡ false
no_connective And DoubleAmpersand h = absurd (omega arith)
no_connective And _ h = refl
no_connective Or DoubleBar h = absurd (omega arith)
no_connective Or DoubleAmpersand h = absurd (omega arith)
no_connective Or _ h = refl

-- What a weaker sign, or none, follows is whole.
pub whole_state : (how : Connective) (s : StateTree) (rest : List Token)
    → state_binds (front rest) < state_strength how
    → read_state (state_after how s) rest ≡ got s rest
whole_state how s rest h = state_ends how s rest (no_connective how (front rest) h)

no_join : (how : Join) (token : Token) → binds token < strength how
    → is_token (join_sign how) token ≡ false
no_join Sequence Semicolon h = absurd (omega arith)
no_join Sequence _ h = refl
no_join Intersection Ampersand h = absurd (omega arith)
no_join Intersection _ h = refl
no_join Alternation Bar h = absurd (omega arith)
no_join Alternation _ h = refl

pub whole_expression : (how : Join) (e : PatternTree) (rest : List Token)
    → binds (front rest) < strength how → read_pattern (expression_after how e) rest ≡ got e rest
whole_expression how e rest h = expression_ends how e rest (no_join how (front rest) h)

-- The same of an operand that no sign follows.
pub whole_operand : (e : PatternTree) (rest : List Token) → binds (front rest) < 4
    → read_pattern (operand_after e) rest ≡ got e rest
whole_operand e rest h = pattern_fixed _ _ ∙ by (front rest) h rest
  where
    by : (token : Token) → binds token < 4 → (ts : List Token)
        → run read (sign_program e token) (past (is_behind token) ts) ≡ got e ts
    by Star h ts = absurd (omega arith)
    by Plus h ts = absurd (omega arith)
    by Question h ts = absurd (omega arith)
    by Percent h ts = absurd (omega arith)
    by Ends h ts = absurd (omega arith)
    by _ h ts = refl

module _ (scale : ℕ) (known : Vocabulary) where
  abbrev tokens : Words → List Token
  tokens words = tokens_as scale known words

  -- what stands before the words behind these
  abbrev pub after : Before → Words → Before
  after before [] = before
  after before (text ∷ rest) = after (before_word before text) rest

  from_append : (b : Before) (xs ys : Words) (rest : List Token)
      → tokens_for scale known b (xs ++ ys) ++ rest
      ≡ tokens_for scale known b xs ++ (tokens_for scale known (after b xs) ys ++ rest)
  from_append b [] ys rest = refl
  from_append b (x ∷ xs) ys rest =
      ap (λ ts. token_as scale known b x ∷ ts) (from_append (before_word b x) xs ys rest)

  pub spread : (xs ys : Words) (rest : List Token) → tokens (xs ++ ys) ++ rest
      ≡ tokens xs ++ (tokens_for scale known (after Other xs) ys ++ rest)
  spread xs ys rest = from_append Other xs ys rest

  pub named : (text : List ℕ) → is_name text ≡ true
      → token_as scale known Other text ≡ Name (place_in known.names text)
  named text is =
      ap (λ (yes : Bool). if yes then Name (place_in known.names text)
      else (if is_number text then Number (units_within scale text) else known_as text)) is

  abbrev StatePartIsRead : Connective → Words → StateTree → Type 0
  StatePartIsRead how xs s = (rest : List Token) → state_binds (front rest) ≤ state_strength how
      → read_state (state_part how) (tokens xs ++ rest) ≡ got s rest

  abbrev StateByIsRead : Connective → Words → StateTree → Type 0
  StateByIsRead how xs s = (rest : List Token) → state_binds (front rest) ≤ state_strength how
      → read_state (state_by how) (tokens xs ++ rest) ≡ read_state (state_after how s) rest

  abbrev pub StateIsRead : StateRule → Words → StateTree → Type 0
  StateIsRead state xs s = StateByIsRead Or xs s
  StateIsRead conj xs s = StateByIsRead And xs s
  StateIsRead (unary inside) xs s = (rest : List Token)
      → read_state (state_operand (not inside)) (tokens xs ++ rest) ≡ got s rest

  first_state : (how : Connective) (xs : Words) (s : StateTree) → StatePartIsRead how xs s
      → StateByIsRead how xs s
  first_state how xs s h rest le = state_begins how (tokens xs ++ rest)
      ∙ along (λ t ts. read_state (state_after how t) ts) (h rest le)

  connective_binds : (how : Connective) → state_binds (connective_sign how) ≤ state_strength how
  connective_binds And = omega arith
  connective_binds Or = omega arith

  -- behind a connective stand its words by themselves
  connective_token : (how : Connective) (b : Before) (ys : Words) (rest : List Token)
      → tokens_for scale known b (text_of (connective_sign how) ∷ ys) ++ rest
      ≡ connective_sign how ∷ (tokens ys ++ rest)
  connective_token And b ys rest = refl
  connective_token Or b ys rest = refl

  more_state : (how : Connective) (xs ys : Words) (s t : StateTree) → StateByIsRead how xs s
      → StatePartIsRead how ys t → StateByIsRead how (xs ++ text_of (connective_sign how) ∷ ys)
      (connected how s t)
  more_state how xs ys s t h k rest le =
      ap (λ ts. read_state (state_by how) ts) (spread xs (text_of (connective_sign how) ∷ ys) rest)
      ∙ ap (λ ts. read_state (state_by how) (tokens xs ++ ts))
      (connective_token how (after Other xs) ys rest)
      ∙ h (connective_sign how ∷ (tokens ys ++ rest)) (connective_binds how)
      ∙ state_goes_on how s (tokens ys ++ rest)
      ∙ along (λ u us. read_state (state_after how (connected how s u)) us) (k rest le)

  -- A state in brackets.
  in_brackets : (literal : Bool) (opening closing : Token) (xs : Words) (s : StateTree) →
      StateIsRead state xs s → state_binds closing ≡ 0 →
      ((b : Before) (rest : List Token)
      → tokens_for scale known b (text_of closing ∷ []) ++ rest ≡ closing ∷ rest) →
      ((ts : List Token) → read_state (state_operand literal) (opening ∷ ts)
      ≡ and_then (read_state (state_by Or) ts) (λ t us. run read (expect closing (give t)) us)) →
      ((rest : List Token) → run read (expect closing (give s)) (closing ∷ rest) ≡ got s rest) →
      (rest : List Token) → read_state (state_operand literal)
      (opening ∷ (tokens (xs ++ text_of closing ∷ []) ++ rest)) ≡ got s rest
  in_brackets literal opening closing xs s h e last opens closes rest =
      ap (λ ts. read_state (state_operand literal) (opening ∷ ts))
      (spread xs (text_of closing ∷ []) rest
      ∙ ap (λ ts. tokens xs ++ ts) (last (after Other xs) rest))
      ∙ opens (tokens xs ++ closing ∷ rest)
      ∙ along (λ t us. run read (expect closing (give t)) us)
      (h (closing ∷ rest) (omega (arith, e)) ∙ whole_state Or s (closing ∷ rest) (omega (arith, e)))
      ∙ closes rest

  pub state_is_read : (r : StateRule) (xs : Words) (s : StateTree) → SpellsState scale known r xs s
      → StateIsRead r xs s
  state_is_read _ _ _ (unary_name true text is) = λ rest.
      ap (λ t. read_state (state_operand false) (t ∷ rest)) (named text is) ∙ state_fixed _ _
  state_is_read _ _ _ (unary_name false text is) = λ rest.
      ap (λ t. read_state (state_operand true) (t ∷ rest)) (named text is) ∙ state_fixed _ _
  state_is_read _ _ _ (unary_true true) = λ rest. state_fixed _ _
  state_is_read _ _ _ (unary_true false) = λ rest. state_fixed _ _
  state_is_read _ _ _ (unary_bang inside xs s h) = λ rest. state_fixed _ _
      ∙ along (λ t ts. got (negation t) ts) (state_is_read (unary inside) xs s h rest)
  state_is_read _ _ _ (braces xs s h) = in_brackets true LeftBrace RightBrace xs s
      (state_is_read state xs s h) refl (λ b rest. refl) (λ ts. state_fixed _ _) (λ rest. refl)
  state_is_read _ _ _ (parens xs s h) = in_brackets false LeftParen RightParen xs s
      (state_is_read state xs s h) refl (λ b rest. refl) (λ ts. state_fixed _ _) (λ rest. refl)
  state_is_read _ _ _ (conj_unary xs s h) = first_state And xs s
      (λ rest le. state_is_read (unary true) xs s h rest)
  state_is_read _ _ _ (conj_ampersands xs ys s t h k) = more_state And xs ys s t
      (state_is_read conj xs s h) (λ rest le. state_is_read (unary true) ys t k rest)
  state_is_read _ _ _ (state_conj xs s h) = first_state Or xs s
      (λ rest le. state_is_read conj xs s h rest (omega (arith, le))
      ∙ whole_state And s rest (omega (arith, le)))
  state_is_read _ _ _ (state_bars xs ys s t h k) = more_state Or xs ys s t
      (state_is_read state xs s h) (λ rest le. state_is_read conj ys t k rest (omega (arith, le))
      ∙ whole_state And t rest (omega (arith, le)))

  -- ---- intervals

  digit_starts_none : (b : ℕ) → is_ascii_digit b ≡ true → starts_name b ≡ false
  digit_starts_none b h = grind (arith, nat_tests)

  first_digit : (byte : ℕ) (rest : List ℕ) → is_number (byte ∷ rest) ≡ true
      → is_ascii_digit byte ≡ true
  first_digit byte rest is = grind (arith, nat_tests)

  pub number_no_name : (text : List ℕ) → is_number text ≡ true → is_name text ≡ false
  number_no_name [] is = refl
  number_no_name (byte ∷ rest) is =
      ap (λ yes. yes && list_all continues_name rest && not (is_reserved (byte ∷ rest)))
      (digit_starts_none byte (first_digit byte rest is))

  pub counted : (text : List ℕ) → is_number text ≡ true
      → token_as scale known Other text ≡ Number (units_within scale text)
  counted text is =
      ap (λ (yes : Bool). if yes then Name (place_in known.names text)
      else (if is_number text then Number (units_within scale text) else known_as text))
      (number_no_name text is)
      ∙ ap (λ (yes : Bool). if yes then Number (units_within scale text) else known_as text) is

  pub event_named : (text : List ℕ) → is_name text ≡ true
      → token_as scale known EventParen text ≡ EventName (place_in known.events text)
  event_named text is =
      ap (λ (yes : Bool). if yes then EventName (place_in known.events text)
      else (if is_number text then Number (units_within scale text) else known_as text)) is

  two_numbers : (opening closing : Token) (low high : List ℕ) → is_number low ≡ true
      → is_number high ≡ true → (rest : List Token) →
      read of_interval (opening ∷ token_as scale known Other low ∷ Comma
      ∷ token_as scale known Other high ∷ closing ∷ rest)
      ≡ read of_interval (opening ∷ Number (units_within scale low) ∷ Comma
      ∷ Number (units_within scale high) ∷ closing ∷ rest)
  two_numbers opening closing low high l h rest =
      ap (λ t. read of_interval (opening ∷ t ∷ Comma ∷ token_as scale known Other high ∷ closing ∷ rest))
      (counted low l)
      ∙ ap (λ t. read of_interval (opening ∷ Number (units_within scale low) ∷ Comma ∷ t ∷ closing ∷ rest))
      (counted high h)

  one_number : (opening : Token) (low : List ℕ) → is_number low ≡ true → (rest : List Token)
      → read of_interval (opening ∷ token_as scale known Other low ∷ Comma ∷ Inf ∷ RightParen ∷ rest)
      ≡ read of_interval (opening ∷ Number (units_within scale low) ∷ Comma ∷ Inf ∷ RightParen ∷ rest)
  one_number opening low l rest =
      ap (λ t. read of_interval (opening ∷ t ∷ Comma ∷ Inf ∷ RightParen ∷ rest)) (counted low l)

  pub interval_is_read : (xs : Words) (ends : IntervalEnds) → SpellsInterval scale known xs ends
      → (rest : List Token) → read of_interval (tokens xs ++ rest) ≡ got ends rest
  interval_is_read _ _ (with_high low high true true l h) rest =
      two_numbers LeftBracket RightBracket low high l h rest ∙ interval_fixed _
  interval_is_read _ _ (with_high low high true false l h) rest =
      two_numbers LeftBracket RightParen low high l h rest ∙ interval_fixed _
  interval_is_read _ _ (with_high low high false true l h) rest =
      two_numbers LeftParen RightBracket low high l h rest ∙ interval_fixed _
  interval_is_read _ _ (with_high low high false false l h) rest =
      two_numbers LeftParen RightParen low high l h rest ∙ interval_fixed _
  interval_is_read _ _ (without_high low true l) rest = one_number LeftBracket low l rest ∙ interval_fixed _
  interval_is_read _ _ (without_high low false l) rest = one_number LeftParen low l rest ∙ interval_fixed _

  -- ---- expressions

  abbrev PartIsRead : Join → Words → PatternTree → Type 0
  PartIsRead how xs e = (rest : List Token) → binds (front rest) ≤ strength how
      → read_pattern (expression_part how) (tokens xs ++ rest) ≡ got e rest

  abbrev ByIsRead : Join → Words → PatternTree → Type 0
  ByIsRead how xs e = (rest : List Token) → binds (front rest) ≤ strength how
      → read_pattern (expression_by how) (tokens xs ++ rest) ≡ read_pattern (expression_after how e) rest

  abbrev pub IsRead : Rule → Words → PatternTree → Type 0
  IsRead expr xs e = ByIsRead Alternation xs e
  IsRead meet xs e = ByIsRead Intersection xs e
  IsRead seq xs e = ByIsRead Sequence xs e
  IsRead post xs e = (rest : List Token) → binds (front rest) ≤ 4
      → read_pattern operand (tokens xs ++ rest) ≡ read_pattern (operand_after e) rest
  IsRead primary xs e = (rest : List Token) → binds (front rest) ≤ 4
      → read_pattern unsigned (tokens xs ++ rest) ≡ got e rest

  first_expression : (how : Join) (xs : Words) (e : PatternTree) → PartIsRead how xs e
      → ByIsRead how xs e
  first_expression how xs e h rest le = expression_begins how (tokens xs ++ rest)
      ∙ along (λ f ts. read_pattern (expression_after how f) ts) (h rest le)

  join_binds : (how : Join) → binds (join_sign how) ≤ strength how
  join_binds Sequence = omega arith
  join_binds Intersection = omega arith
  join_binds Alternation = omega arith

  join_token : (how : Join) (b : Before) (ys : Words) (rest : List Token)
      → tokens_for scale known b (text_of (join_sign how) ∷ ys) ++ rest
      ≡ join_sign how ∷ (tokens ys ++ rest)
  join_token Sequence b ys rest = refl
  join_token Intersection b ys rest = refl
  join_token Alternation b ys rest = refl

  more_expression : (how : Join) (xs ys : Words) (e f : PatternTree) → ByIsRead how xs e
      → PartIsRead how ys f → ByIsRead how (xs ++ text_of (join_sign how) ∷ ys) (joined_by how e f)
  more_expression how xs ys e f h k rest le =
      ap (λ ts. read_pattern (expression_by how) ts) (spread xs (text_of (join_sign how) ∷ ys) rest)
      ∙ ap (λ ts. read_pattern (expression_by how) (tokens xs ++ ts))
      (join_token how (after Other xs) ys rest)
      ∙ h (join_sign how ∷ (tokens ys ++ rest)) (join_binds how)
      ∙ expression_goes_on how e (tokens ys ++ rest)
      ∙ along (λ g us. read_pattern (expression_after how (joined_by how e g)) us) (k rest le)

  -- An operand with one more sign.
  signed : (xs ys : Words) (token : Token) (e f : PatternTree)
      → ((b : Before) (rest : List Token)
      → tokens_for scale known b (text_of token ∷ ys) ++ rest ≡ token ∷ (tokens ys ++ rest))
      → IsRead post xs e → binds token ≤ 4 →
      ((rest : List Token) → binds (front rest) ≤ 4
      → read_pattern (operand_after e) (token ∷ (tokens ys ++ rest))
      ≡ read_pattern (operand_after f) rest)
      → IsRead post (xs ++ text_of token ∷ ys) f
  signed xs ys token e f is h le next rest lt =
      ap (λ ts. read_pattern operand ts) (spread xs (text_of token ∷ ys) rest
      ∙ ap (λ ts. tokens xs ++ ts) (is (after Other xs) rest))
      ∙ h (token ∷ (tokens ys ++ rest)) le ∙ next rest lt

  edge_is_read : (edge : Token) (xs : Words) (s : StateTree) (e : StateTree → PatternTree)
      → StateIsRead state xs s → ((ts : List Token) → read_pattern unsigned (edge ∷ LeftParen ∷ ts)
      ≡ and_then (read_state (state_by Or) ts)
      (λ t us. run read (expect RightParen (give (e t))) us)) →
      (rest : List Token) → read_pattern unsigned
      (edge ∷ LeftParen ∷ (tokens (xs ++ codes ")" ∷ []) ++ rest)) ≡ got (e s) rest
  edge_is_read edge xs s e h opens rest =
      ap (λ ts. read_pattern unsigned (edge ∷ LeftParen ∷ ts))
      (spread xs (codes ")" ∷ []) rest) ∙ opens (tokens xs ++ RightParen ∷ rest)
      ∙ along (λ t us. run read (expect RightParen (give (e t))) us)
      (h (RightParen ∷ rest) (omega arith)
      ∙ whole_state Or s (RightParen ∷ rest) (omega arith))

  -- What a literal's program reads behind its state.
  abbrev literal_end : Bool → StateTree → List Token → Reading PatternTree
  literal_end begins s rest =
      run read (accept Ends (give (edged_literal begins true s))
      (give (edged_literal begins false s))) rest

  no_ends : (begins : Bool) (s : StateTree) (rest : List Token) → binds (front rest) ≤ 4
      → literal_end begins s rest ≡ got (edged_literal begins false s) rest
  no_ends begins s rest h = search rules

  -- A literal is read where an operand is.
  unsigned_literal : (xs : Words) (s : StateTree) → SpellsState scale known (unary false) xs s → (rest : List Token)
      → read_pattern unsigned (tokens xs ++ rest)
      ≡ and_then (read_state (state_operand true) (tokens xs ++ rest)) (λ t us. literal_end false t us)
  unsigned_literal _ _ (unary_name _ text is) rest =
      ap (λ t. read_pattern unsigned (t ∷ rest)) (named text is) ∙ pattern_fixed _ _
      ∙ ap (λ t. and_then (read_state (state_operand true) (t ∷ rest))
      (λ t us. literal_end false t us)) (sym (named text is))
  unsigned_literal _ _ (unary_true _) rest = pattern_fixed _ _
  unsigned_literal _ _ (braces xs s h) rest = pattern_fixed _ _
  unsigned_literal _ _ (unary_bang _ xs s h) rest = pattern_fixed _ _

  literal_read : (xs : Words) (s : StateTree) → SpellsState scale known (unary false) xs s → (rest : List Token)
      → read_pattern unsigned (tokens xs ++ rest) ≡ literal_end false s rest
  literal_read xs s h rest = unsigned_literal xs s h rest
      ∙ along (λ t us. literal_end false t us) (state_is_read (unary false) xs s h rest)

  begun_read : (xs : Words) (s : StateTree) → SpellsState scale known (unary false) xs s → (rest : List Token)
      → read_pattern unsigned (Begins ∷ (tokens xs ++ rest)) ≡ literal_end true s rest
  begun_read xs s h rest = pattern_fixed _ _
      ∙ along (λ t us. literal_end true t us) (state_is_read (unary false) xs s h rest)

  pub is_read : (r : Rule) (xs : Words) (e : PatternTree) → Spells scale known r xs e → IsRead r xs e
  is_read _ _ _ (expr_meet xs e h) = first_expression Alternation xs e
      (λ rest le. is_read meet xs e h rest (omega (arith, le))
      ∙ whole_expression Intersection e rest (omega (arith, le)))
  is_read _ _ _ (expr_bar xs ys e f h k) = more_expression Alternation xs ys e f
      (is_read expr xs e h) (λ rest le. is_read meet ys f k rest (omega (arith, le))
      ∙ whole_expression Intersection f rest (omega (arith, le)))
  is_read _ _ _ (meet_seq xs e h) = first_expression Intersection xs e
      (λ rest le. is_read seq xs e h rest (omega (arith, le))
      ∙ whole_expression Sequence e rest (omega (arith, le)))
  is_read _ _ _ (meet_ampersand xs ys e f h k) = more_expression Intersection xs ys e f
      (is_read meet xs e h) (λ rest le. is_read seq ys f k rest (omega (arith, le))
      ∙ whole_expression Sequence f rest (omega (arith, le)))
  is_read _ _ _ (seq_post xs e h) = first_expression Sequence xs e
      (λ rest le. is_read post xs e h rest (omega (arith, le))
      ∙ whole_operand e rest (omega (arith, le)))
  is_read _ _ _ (seq_semicolon xs ys e f h k) = more_expression Sequence xs ys e f
      (is_read seq xs e h) (λ rest le. is_read post ys f k rest (omega (arith, le))
      ∙ whole_operand f rest (omega (arith, le)))
  is_read _ _ _ (post_primary xs e h) = λ rest le. operand_begins (tokens xs ++ rest)
      ∙ along (λ f ts. read_pattern (operand_after f) ts) (is_read primary xs e h rest le)
  is_read _ _ _ (post_star xs e h) = signed xs [] Star e (repetition e) (λ b rest. refl) (is_read post xs e h)
      (omega arith) (λ rest le. pattern_fixed _ _ ∙ then_got _)
  is_read _ _ _ (post_plus xs e h) = signed xs [] Plus e (sequence e (repetition e)) (λ b rest. refl)
      (is_read post xs e h) (omega arith) (λ rest le. pattern_fixed _ _ ∙ then_got _)
  is_read _ _ _ (post_question xs e h) = signed xs [] Question e (alternation e (atom empty)) (λ b rest. refl)
      (is_read post xs e h) (omega arith) (λ rest le. pattern_fixed _ _ ∙ then_got _)
  is_read _ _ _ (post_percent xs ys e ends h k) = signed xs ys Percent e (restriction e ends) (λ b rest. refl)
      (is_read post xs e h) (omega arith)
      (λ rest le. pattern_fixed _ _
      ∙ along (λ i us. and_then (read_pattern (operand_after (restriction e i)) us)
      (λ g vs. got g vs)) (interval_is_read ys ends k rest)
      ∙ then_got (read_pattern (operand_after (restriction e ends)) rest))
  is_read _ _ _ primary_eps = λ rest le. pattern_fixed _ _
  is_read _ _ _ (primary_parens xs e h) = λ rest le.
      ap (λ ts. read_pattern unsigned (LeftParen ∷ ts)) (spread xs (codes ")" ∷ []) rest)
      ∙ pattern_fixed _ _
      ∙ along (λ f us. run read (expect RightParen (give f)) us)
      (is_read expr xs e h (RightParen ∷ rest) (omega arith)
      ∙ whole_expression Alternation e (RightParen ∷ rest) (omega arith))
  is_read _ _ _ (primary_rise xs s h) = λ rest le. edge_is_read Rise xs s (λ t. atom (rise t))
      (state_is_read state xs s h) (λ ts. pattern_fixed _ _) rest
  is_read _ _ _ (primary_fall xs s h) = λ rest le. edge_is_read Fall xs s (λ t. atom (fall t))
      (state_is_read state xs s h) (λ ts. pattern_fixed _ _) rest
  is_read _ _ _ (primary_event text is) = λ rest le.
      ap (λ t. read_pattern unsigned (Event ∷ LeftParen ∷ t ∷ RightParen ∷ rest))
      (event_named text is) ∙ pattern_fixed _ _
  is_read _ _ _ (primary_lit xs s h) = λ rest le. literal_read xs s h rest ∙ no_ends false s rest le
  is_read _ _ _ (primary_begins xs s h) = λ rest le. begun_read xs s h rest ∙ no_ends true s rest le
  is_read _ _ _ (primary_ends xs s h) = λ rest le.
      ap (λ ts. read_pattern unsigned ts) (spread xs (codes ":>" ∷ []) rest)
      ∙ literal_read xs s h (Ends ∷ rest)
  is_read _ _ _ (primary_begins_ends xs s h) = λ rest le.
      ap (λ ts. read_pattern unsigned (Begins ∷ ts)) (spread xs (codes ":>" ∷ []) rest)
      ∙ begun_read xs s h (Ends ∷ rest)

  pub primary_read : (xs : Words) (e : PatternTree) → Spells scale known primary xs e
      → read_pattern unsigned (tokens xs) ≡ got e []
  primary_read xs e h = ap (read_pattern unsigned) (sym (append-nil (tokens xs)))
      ∙ is_read primary xs e h [] (omega arith)
