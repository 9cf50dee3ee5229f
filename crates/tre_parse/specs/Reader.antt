-- The grammar's own function: how the rules are read, once and from the left. A task is a rule, or
-- what goes on behind a part of one that is read already: one for each function and each loop of
-- the parser. Its program says which tokens it looks at and which other tasks it calls.
use Rattle.std.specs.Prelude.{ℕ, ◌+◌, ◌*◌, zero, suc, Bool, true, false, if◌then◌else◌, Option, Some, None, is_some, List, length}
use Rattle.tre_state.specs.StateTree.{StateTree, always, proposition, negation}
use Rattle.tre_zone.specs.Interval.{IntervalEnds, ends_of, kept_weak}
use Rattle.tre_syntax.specs.PatternTree.{PatternTree, empty, event, atom, sequence, alternation, repetition, restriction}
use Rattle.tre_parse.specs.declared.token.Token.{Token}
use Rattle.tre_parse.specs.declared.token.Token.TheVariants.{Name, EventName, Number, LeftParen, RightParen, LeftBracket, RightBracket, LeftBrace, RightBrace, Comma, Semicolon, Bar, DoubleBar, Ampersand, DoubleAmpersand, Bang, Star, Plus, Question, Percent, Begins, Ends, Eps, Rise, Fall, Inf, True, Event}
use Rattle.tre_parse.specs.declared.connective.Connective.{Connective}
use Rattle.tre_parse.specs.declared.connective.Connective.TheVariants.{And, Or}
use Rattle.tre_parse.specs.declared.connective.Join.{Join}
use Rattle.tre_parse.specs.declared.connective.Join.TheVariants.{Sequence, Intersection, Alternation}
use Rattle.tre_parse.specs.Front.{front, tail}
use Rattle.tre_parse.specs.Joins.{connected, connective_sign, joined_by, join_sign, edge_of, edged_literal, brackets_of}

-- What is read and the tokens left behind it, or the tokens left where it stops.
pub data Reading (A : Type 0) : Type 0 where
  got : A → List Token → Reading A
  stop : List Token → Reading A

abbrev pub and_then : {A B : Type 0} → Reading A → (A → List Token → Reading B) → Reading B
and_then (got x rest) next = next x rest
and_then (stop rest) next = stop rest

-- A state: operands that are joined in one way, what goes on behind some of them, and one operand,
-- in braces a literal.
pub data StateTask : Type 0 where
  state_by : Connective → StateTask
  state_after : Connective → StateTree → StateTask
  state_operand : Bool → StateTask

-- An expression: operands that are joined in one way, what goes on behind some of them, one
-- operand, the signs behind one, and an operand without signs.
pub data PatternTask : Type 0 where
  expression_by : Join → PatternTask
  expression_after : Join → PatternTree → PatternTask
  operand : PatternTask
  operand_after : PatternTree → PatternTask
  unsigned : PatternTask

pub data Task : Type 0 where
  of_state : StateTask → Task
  of_pattern : PatternTask → Task
  of_interval : Task

-- What a task reads.
abbrev pub Made : Task → Type 0
Made (of_state task) = StateTree
Made (of_pattern task) = PatternTree
Made of_interval = IntervalEnds

-- How a task goes on: it gives what it has read, or halts where it stands; or it looks at the next
-- token, goes past it or not, and goes on by what it is; or it calls a task.
pub data Program (A : Type 0) : Type 0 where
  give : A → Program A
  halt : Program A
  look : (Token → Bool) → (Token → Program A) → Program A
  call : (task : Task) → (Made task → Program A) → Program A

-- The token is this sign, one of those that may be asked for.
abbrev pub is_token : Token → Token → Bool
is_token LeftParen LeftParen = true
is_token RightParen RightParen = true
is_token LeftBrace LeftBrace = true
is_token RightBrace RightBrace = true
is_token Comma Comma = true
is_token Semicolon Semicolon = true
is_token Bar Bar = true
is_token DoubleBar DoubleBar = true
is_token Ampersand Ampersand = true
is_token DoubleAmpersand DoubleAmpersand = true
is_token Bang Bang = true
is_token Ends Ends = true
is_token _ _ = false

-- Past the sign where it is next, or else without it.
abbrev pub accept : {A : Type 0} → Token → Program A → Program A → Program A
accept sign there other =
    look (is_token sign) (λ token. if is_token sign token then there else other)

abbrev pub expect : {A : Type 0} → Token → Program A → Program A
expect sign next = accept sign next halt

-- Past a token that says something.
abbrev pub said : {A B : Type 0} → Option A → (A → Program B) → Program B
said (Some x) next = next x
said None next = halt

abbrev pub part : {A B : Type 0} → (Token → Option A) → (A → Program B) → Program B
part says next = look (λ token. is_some (says token)) (λ token. said (says token) next)

-- What the next token says: a state, an event, or a part of an interval.
abbrev pub leaf_of : Token → Option StateTree
leaf_of (Name i) = Some (proposition i)
leaf_of True = Some always
leaf_of _ = None

abbrev pub event_number_of : Token → Option ℕ
event_number_of (EventName i) = Some i
event_number_of _ = None

abbrev pub opened_by : Token → Option Bool
opened_by LeftBracket = Some true
opened_by LeftParen = Some false
opened_by _ = None

abbrev pub low_end_of : Token → Option ℕ
low_end_of (Number n) = Some n
low_end_of _ = None

abbrev pub high_end_of : Token → Option (Option ℕ)
high_end_of (Number n) = Some (Some n)
high_end_of Inf = Some None
high_end_of _ = None

abbrev pub closed_by : Option ℕ → Token → Option Bool
closed_by (Some high) RightBracket = Some true
closed_by high RightParen = Some false
closed_by high _ = None

-- What goes on inside an interval: behind its high end, its comma, its low end, its bracket.
abbrev pub behind_high : Bool → ℕ → Option ℕ → Program IntervalEnds
behind_high low_weak low high = part (closed_by high)
    (λ high_weak. give (ends_of low low_weak high (kept_weak high high_weak)))

abbrev pub behind_comma : Bool → ℕ → Program IntervalEnds
behind_comma low_weak low = part high_end_of (λ high. behind_high low_weak low high)

abbrev pub behind_low : Bool → ℕ → Program IntervalEnds
behind_low low_weak low = expect Comma (behind_comma low_weak low)

abbrev pub behind_opening : Bool → Program IntervalEnds
behind_opening low_weak = part low_end_of (λ low. behind_low low_weak low)

abbrev pub interval_program : Program IntervalEnds
interval_program = part opened_by (λ low_weak. behind_opening low_weak)

-- The operands of what is joined so.
abbrev pub state_part : Connective → StateTask
state_part And = state_operand false
state_part Or = state_by And

abbrev pub state_program : StateTask → Program StateTree
state_program (state_by how) =
    call (of_state (state_part how)) (λ s. call (of_state (state_after how s)) (λ t. give t))
state_program (state_after how s) =
    accept (connective_sign how)
    (call (of_state (state_part how))
    (λ t. call (of_state (state_after how (connected how s t))) (λ u. give u))) (give s)
state_program (state_operand braces) =
    accept Bang (call (of_state (state_operand braces)) (λ s. give (negation s)))
    (accept (brackets_of braces).0
    (call (of_state (state_by Or)) (λ s. expect (brackets_of braces).1 (give s)))
    (part leaf_of (λ s. give s)))

abbrev pub expression_part : Join → PatternTask
expression_part Sequence = operand
expression_part Intersection = expression_by Sequence
expression_part Alternation = expression_by Intersection

-- A sign behind an operand. A `:>` stands behind none: that of a literal is a part of the literal.
abbrev pub is_behind : Token → Bool
is_behind Star = true
is_behind Plus = true
is_behind Question = true
is_behind Percent = true
is_behind _ = false

abbrev pub go_on : PatternTree → Program PatternTree
go_on e = call (of_pattern (operand_after e)) (λ f. give f)

abbrev pub sign_program : PatternTree → Token → Program PatternTree
sign_program e Star = go_on (repetition e)
sign_program e Plus = go_on (sequence e (repetition e))
sign_program e Question = go_on (alternation e (atom empty))
sign_program e Percent = call of_interval (λ ends. go_on (restriction e ends))
sign_program e Ends = halt
sign_program e _ = give e

-- A token that begins an operand and is no part of a literal's state.
abbrev pub is_before : Token → Bool
is_before Eps = true
is_before LeftParen = true
is_before Rise = true
is_before Fall = true
is_before Event = true
is_before Begins = true
is_before _ = false

abbrev pub edge_program : Bool → Program PatternTree
edge_program rises =
    expect LeftParen (call (of_state (state_by Or))
    (λ s. expect RightParen (give (edge_of rises s))))

-- What goes on behind the name of an event.
abbrev pub behind_event : ℕ → Program PatternTree
behind_event number = expect RightParen (give (atom (event number)))

abbrev pub event_program : Program PatternTree
event_program = expect LeftParen (part event_number_of behind_event)

abbrev pub literal_program : Bool → Program PatternTree
literal_program begins =
    call (of_state (state_operand true))
    (λ s. accept Ends (give (edged_literal begins true s)) (give (edged_literal begins false s)))

abbrev pub unsigned_program : Token → Program PatternTree
unsigned_program Eps = give (atom empty)
unsigned_program LeftParen =
    call (of_pattern (expression_by Alternation)) (λ e. expect RightParen (give e))
unsigned_program Rise = edge_program true
unsigned_program Fall = edge_program false
unsigned_program Event = event_program
unsigned_program Begins = literal_program true
unsigned_program _ = literal_program false

abbrev pub pattern_program : PatternTask → Program PatternTree
pattern_program (expression_by how) =
    call (of_pattern (expression_part how))
    (λ e. call (of_pattern (expression_after how e)) (λ f. give f))
pattern_program (expression_after how e) =
    accept (join_sign how)
    (call (of_pattern (expression_part how))
    (λ f. call (of_pattern (expression_after how (joined_by how e f))) (λ g. give g))) (give e)
pattern_program operand = call (of_pattern unsigned) (λ e. go_on e)
pattern_program (operand_after e) = look is_behind (sign_program e)
pattern_program unsigned = look is_before unsigned_program

abbrev pub program : (task : Task) → Program (Made task)
program (of_state task) = state_program task
program (of_pattern task) = pattern_program task
program of_interval = interval_program

abbrev pub past : Bool → List Token → List Token
past true tokens = tail tokens
past false tokens = tokens

-- What a program reads, by what the tasks read that it calls.
abbrev pub run : {A : Type 0} → ((task : Task) → List Token → Reading (Made task)) → Program A →
    List Token → Reading A
run reads (give x) tokens = got x tokens
run reads halt tokens = stop tokens
run reads (look takes next) tokens =
    run reads (next (front tokens)) (past (takes (front tokens)) tokens)
run reads (call task next) tokens =
    and_then (reads task tokens) (λ x rest. run reads (next x) rest)

-- The same with no more than so many calls inside one another.
abbrev pub deep : ℕ → (task : Task) → List Token → Reading (Made task)
deep zero task tokens = stop tokens
deep (suc n) task tokens = run (deep n) (program task) tokens

-- How far a task is from the innermost.
abbrev pub height : Task → ℕ
height (of_state (state_by And)) = 2
height (of_state (state_by Or)) = 3
height (of_state (state_after how s)) = 0
height (of_state (state_operand braces)) = 1
height (of_pattern (expression_by Sequence)) = 4
height (of_pattern (expression_by Intersection)) = 5
height (of_pattern (expression_by Alternation)) = 6
height (of_pattern (expression_after how e)) = 0
height (of_pattern operand) = 3
height (of_pattern (operand_after e)) = 0
height (of_pattern unsigned) = 2
height of_interval = 0

-- What a task reads: as many calls as there can be.
unfoldable pub read : (task : Task) → List Token → Reading (Made task)
read task tokens = deep (suc (8 * length tokens + height task)) task tokens

abbrev pub read_state : StateTask → List Token → Reading StateTree
read_state task tokens = read (of_state task) tokens

abbrev pub read_pattern : PatternTask → List Token → Reading PatternTree
read_pattern task tokens = read (of_pattern task) tokens
