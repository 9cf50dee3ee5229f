-- The tokens of an expression: they spell it, its text is theirs, one after the other, and behind
-- each of them stands what can stand there.
use Rattle.std.proofs.Common.{◌≡◌, ℕ, ◌≤◌, ◌^◌, Bool, true, false, Option, Some, None, zero, suc, ◌+◌, ◌-◌, List, [], ◌∷◌, ◌++◌, flat_map, refl, sym, ap, ◌∙◌, subst, append_assoc, append-nil, arith, rules}
use Rattle.std.specs.Prelude.{map, nat_lt, codes, MatchOption}
use Rattle.std.proofs.lemmas.Bool.Decides.{nat_tests}
use Rattle.std.proofs.lemmas.Grind.{flat_map-append}
use Rattle.tre_state.specs.Name.{continues_name}
use Rattle.tre_state.specs.StateTree.{StateTree, always, proposition, negation, conjunction, disjunction}
use Rattle.tre_trace.specs.Reading.{Vocabulary}
use Rattle.tre_zone.specs.Interval.{IntervalEnds, IsInterval, HasNoDuration, kept_weak}
use Rattle.tre_syntax.specs.declared.name_kind.NameKind.{NameKind}
use Rattle.tre_syntax.specs.declared.name_kind.NameKind.TheVariants.{Proposition, Event as EventKind}
use Rattle.tre_syntax.specs.PatternTree.{Atom, empty, literal, rise, fall, event, PatternTree, atom, sequence, alternation, intersection, repetition, restriction, numbers_of, numbers_of_atom, numbers_of_state}
use Rattle.tre_parse.specs.declared.token.Token.{Token}
use Rattle.tre_parse.specs.declared.token.Token.TheVariants.{Name, EventName, Number, LeftParen, RightParen, LeftBracket, RightBracket, LeftBrace, RightBrace, Comma, Semicolon, Bar, DoubleBar, Ampersand, DoubleAmpersand, Bang, Star, Plus, Question, Percent, Begins, Ends, Eps, Rise, Fall, Inf, True, Event, EndOfText}
use Rattle.tre_parse.specs.declared.sign.TheConstants.{LEFT_PAREN, RIGHT_PAREN, LEFT_BRACKET, RIGHT_BRACKET, LEFT_BRACE, RIGHT_BRACE, COMMA, SEMICOLON, BAR, DOUBLE_BAR, AMPERSAND, DOUBLE_AMPERSAND, BANG, STAR, PLUS, QUESTION, PERCENT, BEGINS, ENDS}
use Rattle.tre_parse.specs.Words.{Words, is_name, is_number, place_in, units_within}
use Rattle.tre_parse.specs.TokenWords.{text_of as sign_text}
use Rattle.tre_parse.specs.Reader.{got, of_interval, read}
use Rattle.tre_parse.specs.Parts.{IsFineInterval}
use Rattle.tre_parse.specs.Unkept.{interval_of, BeginsUnkept}
use Rattle.tre_parse.proofs.Fixpoint.{interval_fixed}
use Rattle.tre_parse.specs.Grammar.{StateRule, SpellsState, state as any_state, conj, unary, unary_name, unary_true, unary_bang, braces, parens, state_conj, state_bars, conj_unary, conj_ampersands, SpellsInterval, with_high, without_high, Rule, Spells, expr, meet, seq, post, primary, expr_meet, expr_bar, meet_seq, meet_ampersand, seq_post, seq_semicolon, post_primary, post_star, post_percent, primary_eps, primary_parens, primary_rise, primary_fall, primary_event, primary_lit}
use Rattle.std.proofs.lemmas.List.{map-append}
use Rattle.tre_parse.specs.declared.before.Before.{Before}
use Rattle.tre_parse.specs.declared.before.Before.TheVariants.{Other}
use Rattle.tre_parse.specs.Numbering.{numbers_at, numbers_in}
use Rattle.tre_parse.specs.Known.{kind_behind, before_sign}
use Rattle.tre_decimal.specs.Decimal.{number_text}
use Rattle.tre_show.specs.Interval.{lower_text, upper_text}
use Rattle.tre_show.specs.Intervals.{HasIntervals}
use Rattle.tre_show.specs.StateText.{in_parens, name_text, state_operand_text, state_text, literal_text}
use Rattle.tre_show.specs.PatternText.{atom_text, operand_text}

-- ---- the text of tokens

-- What is printed of a token: a sign or a word, some of them between blanks, the bytes of a name,
-- or a number at the scale.
abbrev pub printed : ℕ → Vocabulary → Token → List ℕ
printed scale names (Name i) = name_text names.names i
printed scale names (EventName i) = name_text names.events i
printed scale names (Number n) = number_text scale n
printed scale names LeftParen = LEFT_PAREN.now
printed scale names RightParen = RIGHT_PAREN.now
printed scale names LeftBracket = LEFT_BRACKET.now
printed scale names RightBracket = RIGHT_BRACKET.now
printed scale names LeftBrace = LEFT_BRACE.now
printed scale names RightBrace = RIGHT_BRACE.now
printed scale names Comma = COMMA.now
printed scale names Semicolon = SEMICOLON.now
printed scale names Bar = codes " " ++ BAR.now ++ codes " "
printed scale names DoubleBar = codes " " ++ DOUBLE_BAR.now ++ codes " "
printed scale names Ampersand = codes " " ++ AMPERSAND.now ++ codes " "
printed scale names DoubleAmpersand = codes " " ++ DOUBLE_AMPERSAND.now ++ codes " "
printed scale names Bang = BANG.now
printed scale names Star = STAR.now
printed scale names Plus = PLUS.now
printed scale names Question = QUESTION.now
printed scale names Percent = codes " " ++ PERCENT.now ++ codes " "
printed scale names Begins = BEGINS.now
printed scale names Ends = ENDS.now
printed scale names Eps = codes "eps"
printed scale names Rise = codes "rise"
printed scale names Fall = codes "fall"
printed scale names Inf = codes "inf"
printed scale names True = codes "true"
printed scale names Event = codes "event"
printed scale names EndOfText = []

abbrev pub text_of : ℕ → Vocabulary → List Token → List ℕ
text_of scale names tokens = flat_map (printed scale names) tokens

-- The word of a token.
abbrev pub written : ℕ → Vocabulary → Token → List ℕ
written scale names (Name i) = name_text names.names i
written scale names (EventName i) = name_text names.events i
written scale names (Number n) = number_text scale n
written scale names token = sign_text token

abbrev pub words_for : ℕ → Vocabulary → List Token → Words
words_for scale names tokens = map (written scale names) tokens

-- The number has a name in the list, and the name has this number.
abbrev pub IsOwn : List (List ℕ) → ℕ → Type 0
IsOwn names i = (is_name (name_text names i) ≡ true) × (place_in names (name_text names i) ≡ i)

-- Numbers up to the latest time are written as numbers that are read back.
abbrev pub AreCounted : ℕ → Type 0
AreCounted scale = (n : ℕ) → n ≤ 2 ^ 40 → (is_number (number_text scale n) ≡ true)
    × (units_within scale (number_text scale n) ≡ n)

-- The text doesn't go on with a word or a number.
abbrev pub IsCut : List ℕ → Type 0
IsCut [] = Unit {0}
IsCut (byte ∷ rest) = continues_name byte ≡ false

-- The token can stand here: a word or a number isn't gone on with, a number isn't above the latest
-- time, behind `%` stands an interval that can be kept, and a name is an event's just behind `event(`.
abbrev pub StandsHere : ℕ → Vocabulary → Before → List Token → Token → Type 0
StandsHere scale names before rest (Name i) =
    IsCut (text_of scale names rest) × (kind_behind before ≡ Proposition) × IsOwn names.names i
StandsHere scale names before rest (EventName i) =
    IsCut (text_of scale names rest) × (kind_behind before ≡ EventKind) × IsOwn names.events i
StandsHere scale names before rest (Number n) = (n ≤ 2 ^ 40) × IsCut (text_of scale names rest)
StandsHere scale names before rest Eps = IsCut (text_of scale names rest)
StandsHere scale names before rest Rise = IsCut (text_of scale names rest)
StandsHere scale names before rest Fall = IsCut (text_of scale names rest)
StandsHere scale names before rest Inf = IsCut (text_of scale names rest)
StandsHere scale names before rest True = IsCut (text_of scale names rest)
StandsHere scale names before rest Event = IsCut (text_of scale names rest)
StandsHere scale names before rest Percent = BeginsUnkept rest → ⊥
StandsHere scale names before rest EndOfText = ⊥
StandsHere scale names before rest _ = Unit {0}

abbrev pub StandFrom : ℕ → Vocabulary → Before → List Token → Type 0
StandFrom scale names before [] = Unit {0}
StandFrom scale names before (token ∷ rest) =
    StandsHere scale names before rest token × StandFrom scale names (before_sign before token) rest

abbrev pub Stand : ℕ → Vocabulary → List Token → Type 0
Stand scale names tokens = StandFrom scale names Other tokens

-- ---- intervals

-- the brackets of an interval
abbrev opening : Bool → Token
opening true = LeftBracket
opening false = LeftParen

abbrev closing : Bool → Token
closing true = RightBracket
closing false = RightParen

abbrev end_tokens : Option ℕ → Bool → List Token
end_tokens None weak = Inf ∷ RightParen ∷ []
end_tokens (Some high) weak = Number high ∷ closing weak ∷ []

abbrev interval_tokens : IntervalEnds → List Token
interval_tokens ends =
    opening ends.low_weak ∷ Number ends.low ∷ Comma ∷ end_tokens ends.high ends.high_weak

-- with its ends
abbrev ends_with : ℕ → Bool → Option ℕ → Bool → IntervalEnds
ends_with low low_weak high high_weak =
    record { low = low; low_weak = low_weak; high = high; high_weak = high_weak }

interval_spelt : (scale : ℕ) (names : Vocabulary) → AreCounted scale → (ends : IntervalEnds)
    → IsInterval ends → SpellsInterval scale names (words_for scale names (interval_tokens ends)) ends
interval_spelt scale names counts ends is =
    by ends.low ends.low_weak ends.high ends.high_weak is.kept is.within.low is.within.high
  where
    two : (low high : ℕ) (low_weak high_weak : Bool) → low ≤ 2 ^ 40 → high ≤ 2 ^ 40 → (xs : Words)
        → ((l : is_number (number_text scale low) ≡ true)
        → (h : is_number (number_text scale high) ≡ true) → SpellsInterval scale names xs
        (ends_with (units_within scale (number_text scale low)) low_weak
        (Some (units_within scale (number_text scale high))) high_weak))
        → SpellsInterval scale names xs (ends_with low low_weak (Some high) high_weak)
    two low high low_weak high_weak a b xs made =
        let l = counts low a in
        let h = counts high b in
        subst (λ n. SpellsInterval scale names xs (ends_with low low_weak (Some n) high_weak)) h.1
        (subst (λ n. SpellsInterval scale names xs (ends_with n low_weak
        (Some (units_within scale (number_text scale high))) high_weak)) l.1 (made l.0 h.0))

    one : (low : ℕ) (low_weak : Bool) → low ≤ 2 ^ 40 → (xs : Words)
        → (is_number (number_text scale low) ≡ true → SpellsInterval scale names xs
        (ends_with (units_within scale (number_text scale low)) low_weak None false))
        → SpellsInterval scale names xs (ends_with low low_weak None false)
    one low low_weak a xs made =
        let l = counts low a in
        subst (λ n. SpellsInterval scale names xs (ends_with n low_weak None false)) l.1 (made l.0)

    by : (low : ℕ) (low_weak : Bool) (high : Option ℕ) (high_weak : Bool)
        → kept_weak high high_weak ≡ high_weak → low ≤ 2 ^ 40
        → MatchOption high (Unit {0}) (λ h. h ≤ 2 ^ 40)
        → SpellsInterval scale names (words_for scale names
        (opening low_weak ∷ Number low ∷ Comma ∷ end_tokens high high_weak))
        (ends_with low low_weak high high_weak)
    by low true (Some high) true kept a b = two low high true true a b _ (with_high _ _ true true)
    by low true (Some high) false kept a b = two low high true false a b _ (with_high _ _ true false)
    by low false (Some high) true kept a b = two low high false true a b _ (with_high _ _ false true)
    by low false (Some high) false kept a b =
        two low high false false a b _ (with_high _ _ false false)
    by low low_weak None true kept a b = absurd (cc)
    by low true None false kept a b = one low true a _ (without_high _ true)
    by low false None false kept a b = one low false a _ (without_high _ false)

interval_read : (ends : IntervalEnds) (more : List Token) → IsInterval ends
    → read of_interval (interval_tokens ends ++ more) ≡ got ends more
interval_read ends more is = by ends.low ends.low_weak ends.high ends.high_weak is.kept
  where
    by : (low : ℕ) (low_weak : Bool) (high : Option ℕ) (high_weak : Bool)
        → kept_weak high high_weak ≡ high_weak
        → read of_interval
        ((opening low_weak ∷ Number low ∷ Comma ∷ end_tokens high high_weak) ++ more)
        ≡ got (ends_with low low_weak high high_weak) more
    by low true (Some high) true kept = interval_fixed _
    by low true (Some high) false kept = interval_fixed _
    by low false (Some high) true kept = interval_fixed _
    by low false (Some high) false kept = interval_fixed _
    by low low_weak None true kept = absurd (cc)
    by low true None false kept = interval_fixed _
    by low false None false kept = interval_fixed _

begins_well : (ends : IntervalEnds) (more : List Token) → IsInterval ends
    → BeginsUnkept (interval_tokens ends ++ more) → ⊥
begins_well ends more is u =
    u.unkept (subst IsFineInterval (same ends u.ends
    (sym (ap interval_of (interval_read ends more is)) ∙ u.reads))
    (record { lasts = is.some; within = is.within }))
  where
    same : (one other : IntervalEnds) → Some one ≡ Some other → one ≡ other
    same one other e = cc

-- ---- what tokens say

numbers_join : (kind : NameKind) (xs ys : List Token)
    → numbers_in kind (xs ++ ys) ≡ numbers_in kind xs ++ numbers_in kind ys
numbers_join kind [] ys = refl
numbers_join kind (x ∷ xs) ys =
    ap (λ l. numbers_at x kind ++ l) (numbers_join kind xs ys)
    ∙ sym (append_assoc (numbers_at x kind) (numbers_in kind xs) (numbers_in kind ys))

-- Numbers of names, of each kind.
abbrev Numbers : Type 0
Numbers = NameKind → List ℕ

abbrev no_numbers : Numbers
no_numbers kind = []

abbrev joined_numbers : Numbers → Numbers → Numbers
joined_numbers numbers others kind = numbers kind ++ others kind

-- Those of a state, and what they are by its form.
abbrev numbers_at_state : StateTree → Numbers
numbers_at_state s kind = numbers_of_state kind s

none_at_always : (kind : NameKind) → [] ≡ numbers_of_state kind always
none_at_always Proposition = refl
none_at_always EventKind = refl

those_of_negated : (s : StateTree) (kind : NameKind)
    → numbers_of_state kind s ≡ numbers_of_state kind (negation s)
those_of_negated s Proposition = refl
those_of_negated s EventKind = refl

those_of_both : (s t : StateTree) (kind : NameKind)
    → numbers_of_state kind s ++ numbers_of_state kind t
    ≡ numbers_of_state kind (conjunction s t)
those_of_both s t Proposition = refl
those_of_both s t EventKind = refl

those_of_either : (s t : StateTree) (kind : NameKind)
    → numbers_of_state kind s ++ numbers_of_state kind t
    ≡ numbers_of_state kind (disjunction s t)
those_of_either s t Proposition = refl
those_of_either s t EventKind = refl

-- The tokens have this text and these numbers of names, and stand as they can before any that go on
-- with no word.
pub record Say (scale : ℕ) (names : Vocabulary) (tokens : List Token) (text : List ℕ)
    (numbers : Numbers) : Type 0 where
  pub text_same : text_of scale names tokens ≡ text
  pub numbers_same : (kind : NameKind) → numbers_in kind tokens ≡ numbers kind
  pub stand : (more : List Token) → IsCut (text_of scale names more) → Stand scale names more
      → Stand scale names (tokens ++ more)

-- Some tokens that are of this kind say the text.
pub record Prints (scale : ℕ) (names : Vocabulary) (Spelt : Words → Type 0) (text : List ℕ)
    (numbers : Numbers) : Type 0 where
  pub tokens : List Token
  pub spells : Spelt (words_for scale names tokens)
  pub says : Say scale names tokens text numbers

-- The sum in unary, which computes over a variable.
abbrev raised : ℕ → ℕ → ℕ
raised zero k = k
raised (suc n) k = suc (raised n k)

raised_sum : (n k : ℕ) → n + k ≡ raised n k
raised_sum zero k = omega arith
raised_sum (suc n) k = let more = raised_sum n k in omega (arith, more)

-- What a tighter rule spells does a looser one, so many rules down.
down : (Spelt : ℕ → Words → Type 0)
    → ((k : ℕ) (xs : Words) → Spelt (suc k) xs → Spelt k xs) → (n k : ℕ) (xs : Words)
    → Spelt (raised n k) xs → Spelt k xs
down Spelt looser zero k xs h = h
down Spelt looser (suc n) k xs h = down Spelt looser n k xs (looser (raised n k) xs h)

-- The rules by how strongly they bind.
abbrev state_rule : ℕ → StateRule
state_rule zero = any_state
state_rule (suc zero) = conj
state_rule (suc (suc k)) = unary true

abbrev rule_of : ℕ → Rule
rule_of zero = expr
rule_of (suc zero) = meet
rule_of (suc (suc zero)) = seq
rule_of (suc (suc (suc k))) = post

-- The names of a state, of an atom and of an expression have their numbers.
abbrev pub NamedState : Vocabulary → StateTree → Type 0
NamedState names always = Unit {0}
NamedState names (proposition i) = IsOwn names.names i
NamedState names (negation s) = NamedState names s
NamedState names (conjunction s t) = NamedState names s × NamedState names t
NamedState names (disjunction s t) = NamedState names s × NamedState names t

abbrev pub NamedAtom : Vocabulary → Atom → Type 0
NamedAtom names empty = Unit {0}
NamedAtom names (literal s) = NamedState names s
NamedAtom names (rise s) = NamedState names s
NamedAtom names (fall s) = NamedState names s
NamedAtom names (event i) = IsOwn names.events i

abbrev pub NamedTree : Vocabulary → PatternTree → Type 0
NamedTree names (atom x) = NamedAtom names x
NamedTree names (sequence e f) = NamedTree names e × NamedTree names f
NamedTree names (alternation e f) = NamedTree names e × NamedTree names f
NamedTree names (intersection e f) = NamedTree names e × NamedTree names f
NamedTree names (repetition e) = NamedTree names e
NamedTree names (restriction e ends) = NamedTree names e

module _ (scale : ℕ) (names : Vocabulary) (counts : AreCounted scale) where
  abbrev StateSpelt : StateTree → ℕ → Words → Type 0
  StateSpelt s k xs = SpellsState scale names (state_rule k) xs s

  state_looser : (s : StateTree) (k : ℕ) (xs : Words) → StateSpelt s (suc k) xs
      → StateSpelt s k xs
  state_looser s zero xs h = state_conj xs s h
  state_looser s (suc zero) xs h = conj_unary xs s h
  state_looser s (suc (suc k)) xs h = h

  state_tight : (s : StateTree) (k : ℕ) (xs : Words) → SpellsState scale names (unary true) xs s → StateSpelt s k xs
  state_tight s k xs h = down (StateSpelt s) (state_looser s) 2 k xs h

  abbrev TreeSpelt : PatternTree → ℕ → Words → Type 0
  TreeSpelt e k xs = Spells scale names (rule_of k) xs e

  looser : (e : PatternTree) (k : ℕ) (xs : Words) → TreeSpelt e (suc k) xs → TreeSpelt e k xs
  looser e zero xs h = expr_meet xs e h
  looser e (suc zero) xs h = meet_seq xs e h
  looser e (suc (suc zero)) xs h = seq_post xs e h
  looser e (suc (suc (suc k))) xs h = h

  tight : (e : PatternTree) (k : ℕ) (xs : Words) → Spells scale names post xs e → TreeSpelt e k xs
  tight e k xs h = down (TreeSpelt e) (looser e) 3 k xs h

  prints : {Spelt : Words → Type 0} {text : List ℕ} {numbers : Numbers}
      (tokens : List Token) → Spelt (words_for scale names tokens) → Say scale names tokens text numbers
      → Prints scale names Spelt text numbers
  prints tokens spells says = record { tokens = tokens; spells = spells; says = says }

  -- What the words of two lists spell side by side.
  side : (Spelt : Words → Type 0) (xs ys : List Token) → Spelt (words_for scale names xs ++ words_for scale names ys)
      → Spelt (words_for scale names (xs ++ ys))
  side Spelt xs ys h = subst Spelt (sym (map-append (written scale names) xs ys)) h

  -- The same numbers in another form.
  renumbered : {tokens : List Token} {text : List ℕ} {numbers others : Numbers}
      → ((kind : NameKind) → numbers kind ≡ others kind) → Say scale names tokens text numbers
      → Say scale names tokens text others
  renumbered same is = search rules

  reprinted : {Spelt : Words → Type 0} {text : List ℕ} {numbers others : Numbers}
      → ((kind : NameKind) → numbers kind ≡ others kind) → Prints scale names Spelt text numbers
      → Prints scale names Spelt text others
  reprinted same is = prints _ is.spells (renumbered same is.says)

  -- A token by itself.
  one : (token : Token) → ((more : List Token) → IsCut (text_of scale names more)
      → Stand scale names more → Stand scale names (token ∷ more))
      → Say scale names (token ∷ []) (printed scale names token)
      (λ kind. numbers_in kind (token ∷ []))
  one token stands = search rules

  nothing : Say scale names [] [] no_numbers
  nothing = search rules

  -- Two lists of tokens with a sign between them.
  between : (mark : Token) (xs ys : List Token) {text other : List ℕ} {numbers others : Numbers}
      → ((kind : NameKind) → numbers_at mark kind ≡ [])
      → ((rest : List ℕ) → IsCut (printed scale names mark ++ rest))
      → ((more : List Token) → Stand scale names (ys ++ more)
      → Stand scale names (mark ∷ (ys ++ more)))
      → Say scale names xs text numbers → Say scale names ys other others
      → Say scale names (xs ++ mark ∷ ys) (text ++ printed scale names mark ++ other)
      (joined_numbers numbers others)
  between mark xs ys {text} {other} {numbers} {others} none cut stands is its = record {
    text_same = flat_map-append (printed scale names) xs (mark ∷ ys)
        ∙ ap (λ t. t ++ (printed scale names mark ++ text_of scale names ys)) is.text_same
        ∙ ap (λ t. text ++ (printed scale names mark ++ t)) its.text_same
        ∙ sym (append_assoc text (printed scale names mark) other);
    numbers_same = λ kind. numbers_join kind xs (mark ∷ ys)
        ∙ ap (λ l. l ++ numbers_in kind (mark ∷ ys)) (is.numbers_same kind)
        ∙ ap (λ l. numbers kind ++ (l ++ numbers_in kind ys)) (none kind)
        ∙ ap (λ l. numbers kind ++ l) (its.numbers_same kind);
    stand = λ more ends rest.
        subst (Stand scale names) (sym (append_assoc xs (mark ∷ ys) more))
        (is.stand (mark ∷ (ys ++ more)) (cut (text_of scale names (ys ++ more)))
        (stands more (its.stand more ends rest)));
  }

  -- Tokens with a sign behind them.
  behind : (mark : Token) (xs : List Token) {text : List ℕ} {numbers : Numbers}
      → ((kind : NameKind) → numbers_at mark kind ≡ [])
      → ((rest : List ℕ) → IsCut (printed scale names mark ++ rest))
      → ((more : List Token) → Stand scale names more → Stand scale names (mark ∷ more))
      → Say scale names xs text numbers
      → Say scale names (xs ++ mark ∷ []) (text ++ printed scale names mark) numbers
  behind mark xs {text} {numbers} none cut stands is =
      subst (λ t. Say scale names (xs ++ mark ∷ []) t numbers)
      (append-nil (text ++ printed scale names mark))
      (renumbered (λ kind. append-nil (numbers kind))
      (between mark xs [] none cut stands is nothing))

  -- Two that are printed with a sign between them, which together are of this kind.
  both : (mark : Token) {One Other Spelt : Words → Type 0} {text other : List ℕ}
      {numbers others : Numbers}
      → ((kind : NameKind) → numbers_at mark kind ≡ [])
      → ((rest : List ℕ) → IsCut (printed scale names mark ++ rest))
      → ((rest : List Token) → Stand scale names rest → Stand scale names (mark ∷ rest))
      → ((xs ys : Words) → One xs → Other ys → Spelt (xs ++ written scale names mark ∷ ys))
      → Prints scale names One text numbers → Prints scale names Other other others
      → Prints scale names Spelt (text ++ printed scale names mark ++ other)
      (joined_numbers numbers others)
  both mark {Spelt = Spelt} none cut stands joined is its =
      prints _ (side Spelt is.tokens (mark ∷ its.tokens)
      (joined (words_for scale names is.tokens) (words_for scale names its.tokens) is.spells its.spells))
      (between mark is.tokens its.tokens none cut (λ more. stands (its.tokens ++ more)) is.says
      its.says)

  -- A word, and tokens in parentheses.
  edge_says : {words xs : List Token} {word text : List ℕ} {numbers : Numbers}
      → Say scale names words word no_numbers → Say scale names xs text numbers
      → Say scale names (words ++ (LeftParen ∷ (xs ++ RightParen ∷ [])))
      (word ++ codes "(" ++ (text ++ codes ")")) numbers
  edge_says is its = between LeftParen _ _ (λ _. refl) (λ _. refl) (λ _ rest. (tt, rest)) is
      (behind RightParen _ (λ _. refl) (λ _. refl) (λ _ rest. (tt, rest)) its)

  -- An operand of another strength than is asked for, in parentheses where it binds less.
  bound : (Spelt : ℕ → Words → Type 0)
      → ((k : ℕ) (xs : Words) → Spelt (suc k) xs → Spelt k xs)
      → ((k : ℕ) (xs : Words) → Spelt 0 xs
      → Spelt k (codes "(" ∷ xs ++ codes ")" ∷ []))
      → (k least : ℕ) {text : List ℕ} {numbers : Numbers}
      → Prints scale names (Spelt k) text numbers
      → Prints scale names (Spelt least) (in_parens (nat_lt k least) text) numbers
  bound Spelt looser closed k least {text} {numbers} is = by (nat_lt k least) refl
    where
      loosen : (low : ℕ) → low ≤ k → Spelt low (words_for scale names is.tokens)
      loosen low within =
          let sum = raised_sum (k - low) low in
          let same : k ≡ raised (k - low) low = omega (arith, within, sum) in
          down Spelt looser (k - low) low (words_for scale names is.tokens)
          (subst (λ n. Spelt n (words_for scale names is.tokens)) same is.spells)

      by : (asked : Bool) → nat_lt k least ≡ asked
          → Prints scale names (Spelt least) (in_parens asked text) numbers
      by true e =
          prints _ (side (λ ws. Spelt least (codes "(" ∷ ws)) is.tokens (RightParen ∷ [])
          (closed least (words_for scale names is.tokens) (loosen 0 (omega arith))))
          (edge_says nothing is.says)
      by false e =
          let within : least ≤ k = grind (arith, nat_tests) in
          prints _ (loosen least within) is.says

  state_bound : (s : StateTree) (k least : ℕ) {text : List ℕ} {numbers : Numbers}
      → Prints scale names (StateSpelt s k) text numbers
      → Prints scale names (StateSpelt s least) (in_parens (nat_lt k least) text) numbers
  state_bound s k least is = bound (StateSpelt s) (state_looser s)
      (λ k xs h. state_tight s k _ (parens xs s h)) k least is

  tree_bound : (e : PatternTree) (k least : ℕ) {text : List ℕ} {numbers : Numbers}
      → Prints scale names (TreeSpelt e k) text numbers
      → Prints scale names (TreeSpelt e least) (in_parens (nat_lt k least) text) numbers
  tree_bound e k least is = bound (TreeSpelt e) (looser e)
      (λ k xs h. tight e k _ (post_primary _ e (primary_parens xs e h))) k least is

  name_says : (i : ℕ) → IsOwn names.names i
      → Say scale names (Name i ∷ []) (name_text names.names i) (numbers_at_state (proposition i))
  name_says i own = record {
    text_same = append-nil (name_text names.names i);
    numbers_same = λ kind. name_numbers kind;
    stand = λ more cut rest. ((cut, refl, own), rest);
  }
    where
      name_numbers : (kind : NameKind) → numbers_in kind (Name i ∷ [])
          ≡ numbers_of_state kind (proposition i)
      name_numbers Proposition = refl
      name_numbers EventKind = refl

  name_spelt : (inside : Bool) (i : ℕ) → IsOwn names.names i
      → SpellsState scale names (unary inside) (name_text names.names i ∷ []) (proposition i)
  name_spelt inside i own = subst (λ n. SpellsState scale names (unary inside)
      (name_text names.names i ∷ []) (proposition n)) own.1 (unary_name inside _ own.0)

  true_says : Say scale names (True ∷ []) (codes "true") (numbers_at_state always)
  true_says = renumbered none_at_always (one True (λ more cut rest. (cut, rest)))

  state_prints : (s : StateTree) → NamedState names s → (least : ℕ)
      → Prints scale names (StateSpelt s least) (state_operand_text least names.names s)
      (numbers_at_state s)
  state_prints always own least = prints _ (state_tight always least _ (unary_true true)) true_says
  state_prints (proposition i) own least =
      prints _ (state_tight _ _ _ (name_spelt true i own)) (name_says i own)
  state_prints (negation s) own least =
      let is = state_prints s own 2 in
      prints _ (state_tight _ least _ (unary_bang true _ s is.spells))
      (renumbered (those_of_negated s)
      (between Bang [] _ (λ _. refl) (λ _. refl) (λ _ rest. (tt, rest)) nothing is.says))
  state_prints (conjunction s t) own least =
      state_bound (conjunction s t) 1 least (reprinted (those_of_both s t) (both DoubleAmpersand
      (λ _. refl) (λ _. refl) (λ _ rest. (tt, rest)) (λ xs ys. conj_ampersands xs ys s t)
      (state_prints s own.0 1) (state_prints t own.1 2)))
  state_prints (disjunction s t) own least =
      state_bound (disjunction s t) 0 least (reprinted (those_of_either s t) (both DoubleBar
      (λ _. refl) (λ _. refl) (λ _ rest. (tt, rest)) (λ xs ys. state_bars xs ys s t)
      (state_prints s own.0 0) (state_prints t own.1 1)))

  braces_print : (s : StateTree) → NamedState names s
      → Prints scale names (λ xs. SpellsState scale names (unary false) xs s)
      (codes "{" ++ state_text names.names s ++ codes "}") (numbers_at_state s)
  braces_print s own =
      let is = state_prints s own 0 in
      prints _ (side (λ ws. SpellsState scale names (unary false) (codes "{" ∷ ws) s) is.tokens
      (RightBrace ∷ []) (braces _ s is.spells))
      (between LeftBrace [] _ (λ _. refl) (λ _. refl) (λ _ rest. (tt, rest)) nothing
      (behind RightBrace _ (λ _. refl) (λ _. refl) (λ _ rest. (tt, rest)) is.says))

  literal_prints : (s : StateTree) → NamedState names s
      → Prints scale names (λ xs. SpellsState scale names (unary false) xs s) (literal_text names.names s)
      (numbers_at_state s)
  literal_prints always own = prints _ (unary_true false) true_says
  literal_prints (proposition i) own = prints _ (name_spelt false i own) (name_says i own)
  literal_prints (negation s) own =
      let is = literal_prints s own in
      prints _ (unary_bang false _ s is.spells)
      (renumbered (those_of_negated s)
      (between Bang [] _ (λ _. refl) (λ _. refl) (λ _ rest. (tt, rest)) nothing is.says))
  literal_prints (conjunction s t) own = braces_print (conjunction s t) own
  literal_prints (disjunction s t) own = braces_print (disjunction s t) own

  -- The name of an event in its place.
  event_says : (i : ℕ) → IsOwn names.events i
      → Say scale names (Event ∷ LeftParen ∷ EventName i ∷ RightParen ∷ [])
      (atom_text names (event i))
      (λ kind. numbers_of_atom kind (event i))
  event_says i own = search (rules, own)

  event_spelt : (i : ℕ) → IsOwn names.events i → Spells scale names primary
      (codes "event" ∷ codes "(" ∷ name_text names.events i ∷ codes ")" ∷ []) (atom (event i))
  event_spelt i own = subst (λ n. Spells scale names primary
      (codes "event" ∷ codes "(" ∷ name_text names.events i ∷ codes ")" ∷ []) (atom (event n)))
      own.1 (primary_event _ own.0)

  atom_prints : (x : Atom) → NamedAtom names x
      → Prints scale names (λ xs. Spells scale names primary xs (atom x)) (atom_text names x)
      (λ kind. numbers_of_atom kind x)
  atom_prints empty own = prints _ primary_eps (one Eps (λ more cut rest. (cut, rest)))
  atom_prints (literal s) own =
      let is = literal_prints s own in prints _ (primary_lit _ s is.spells) is.says
  atom_prints (rise s) own =
      let is = state_prints s own 0 in
      prints _ (side (λ ws. Spells scale names primary (codes "rise" ∷ codes "(" ∷ ws)
      (atom (rise s))) is.tokens (RightParen ∷ []) (primary_rise _ s is.spells))
      (edge_says (one Rise (λ more cut rest. (cut, rest))) is.says)
  atom_prints (fall s) own =
      let is = state_prints s own 0 in
      prints _ (side (λ ws. Spells scale names primary (codes "fall" ∷ codes "(" ∷ ws)
      (atom (fall s))) is.tokens (RightParen ∷ []) (primary_fall _ s is.spells))
      (edge_says (one Fall (λ more cut rest. (cut, rest))) is.says)
  atom_prints (event i) own = prints _ (event_spelt i own) (event_says i own)

  number_says : (n : ℕ) → n ≤ 2 ^ 40
      → Say scale names (Number n ∷ []) (number_text scale n) no_numbers
  number_says n small = one (Number n) (λ more cut rest. ((small, cut), rest))

  end_says : (high : Option ℕ) (weak : Bool) → MatchOption high (Unit {0}) (λ h. h ≤ 2 ^ 40)
      → Say scale names (end_tokens high weak) (upper_text scale high weak) no_numbers
  end_says None weak small = search rules
  end_says (Some high) true small = search rules
  end_says (Some high) false small = search rules

  interval_by : (low : ℕ) (weak : Bool) (xs : List Token) (text : List ℕ) → low ≤ 2 ^ 40
      → Say scale names xs text no_numbers
      → Say scale names (opening weak ∷ Number low ∷ Comma ∷ xs)
      (lower_text scale low weak ++ text) no_numbers
  interval_by low true xs text small end =
      between LeftBracket [] _ (λ _. refl) (λ _. refl) (λ _ rest. (tt, rest)) nothing
      (between Comma _ _ (λ _. refl) (λ _. refl) (λ _ rest. (tt, rest)) (number_says low small) end)
  interval_by low false xs text small end =
      between LeftParen [] _ (λ _. refl) (λ _. refl) (λ _ rest. (tt, rest)) nothing
      (between Comma _ _ (λ _. refl) (λ _. refl) (λ _ rest. (tt, rest)) (number_says low small) end)

  pub tree_prints : (e : PatternTree) → HasIntervals e → NamedTree names e → (least : ℕ)
      → Prints scale names (TreeSpelt e least) (operand_text scale least names e)
      (λ kind. numbers_of kind e)
  tree_prints (atom x) fine own least =
      let is = atom_prints x own in prints _ (tight _ least _ (post_primary _ _ is.spells)) is.says
  tree_prints (sequence e f) fine own least =
      tree_bound (sequence e f) 2 least
      (both Semicolon (λ _. refl) (λ _. refl) (λ _ rest. (tt, rest))
      (λ xs ys. seq_semicolon xs ys e f) (tree_prints e fine.0 own.0 2) (tree_prints f fine.1 own.1 3))
  tree_prints (intersection e f) fine own least =
      tree_bound (intersection e f) 1 least
      (both Ampersand (λ _. refl) (λ _. refl) (λ _ rest. (tt, rest))
      (λ xs ys. meet_ampersand xs ys e f) (tree_prints e fine.0 own.0 1) (tree_prints f fine.1 own.1 2))
  tree_prints (alternation e f) fine own least =
      tree_bound (alternation e f) 0 least (both Bar (λ _. refl) (λ _. refl) (λ _ rest. (tt, rest))
      (λ xs ys. expr_bar xs ys e f) (tree_prints e fine.0 own.0 0) (tree_prints f fine.1 own.1 1))
  tree_prints (repetition e) fine own least =
      let is = tree_prints e fine own 3 in
      prints _ (tight _ least _ (side (λ ws. Spells scale names post ws (repetition e)) is.tokens (Star ∷ [])
      (post_star _ e is.spells)))
      (behind Star _ (λ _. refl) (λ _. refl) (λ _ rest. (tt, rest)) is.says)
  tree_prints (restriction e ends) fine own least =
      let is = tree_prints e fine.0 own 3 in
      let interval = interval_by ends.low ends.low_weak _ _ fine.1.within.low
      (end_says ends.high ends.high_weak fine.1.within.high) in
      prints _
      (tight _ least _ (side (λ ws. Spells scale names post ws (restriction e ends)) is.tokens
      (Percent ∷ interval_tokens ends)
      (post_percent _ _ e ends is.spells (interval_spelt scale names counts ends fine.1))))
      (renumbered (λ kind. append-nil (numbers_of kind e))
      (between Percent _ _ (λ _. refl) (λ _. refl)
      (λ more rest. (begins_well ends more fine.1, rest)) is.says interval))
