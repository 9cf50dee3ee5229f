-- The equations of the tasks, each with the task that it calls. What a function of the parser does
-- is read off them.
use Rattle.std.proofs.Common.{◌≡◌, ◌≢◌, ℕ, zero, suc, Bool, true, false, Option, Some, None, List, ◌∷◌, ◌++◌, length, replicate, refl, sym, ◌∙◌, ap, rules}
use Rattle.std.specs.Prelude.{if◌then◌else◌}
use Rattle.tre_state.specs.StateTree.{StateTree, negation}
use Rattle.tre_syntax.specs.PatternTree.{PatternTree, sequence, alternation, atom, empty, repetition, restriction}
use Rattle.tre_parse.specs.declared.token.Token.{Token}
use Rattle.tre_parse.specs.declared.token.Token.TheVariants.{Name, True, LeftParen, RightParen, Bang, Star, Plus, Question, Percent, Begins, Ends, Eps, Rise, Fall, Event, EndOfText}
use Rattle.tre_parse.specs.declared.connective.Connective.{Connective}
use Rattle.tre_parse.specs.declared.connective.Connective.TheVariants.{Or}
use Rattle.tre_parse.specs.declared.connective.Join.{Join}
use Rattle.tre_parse.specs.declared.connective.Join.TheVariants.{Sequence, Intersection, Alternation}
use Rattle.tre_parse.specs.declared.cursor.Stop.{Stop}
use Rattle.tre_parse.specs.declared.cursor.Stop.TheVariants.{Syntax}
use Rattle.tre_parse.specs.Front.{front, tail}
use Rattle.tre_parse.specs.Joins.{negated, connected, connective_sign, joined_by, join_sign, brackets_of, edge_of, edge_sign, edged_literal}
use Rattle.tre_parse.specs.Reader.{Reading, got, stop, and_then, state_by, state_after, state_operand, expression_by, expression_after, operand, operand_after, unsigned, of_state, of_pattern, of_interval, Program, give, halt, call, is_token, accept, expect, part, leaf_of, state_part, expression_part, edge_program, event_program, literal_program, unsigned_program, is_before, sign_program, is_behind, past, run, read, read_state, read_pattern}
use Rattle.tre_parse.specs.Reading.{BeginsLiteral, Accepts}
use Rattle.tre_parse.proofs.Fixpoint.{state_fixed, pattern_fixed}

-- A reading that goes on as another does.
pub along : {A B : Type 0} {o q : Reading A} (next : A → List Token → Reading B) → o ≡ q
    → and_then o next ≡ and_then q next
along next e = ap (λ r. and_then r next) e

pub then_got : {A : Type 0} (o : Reading A) → and_then o (λ x rest. got x rest) ≡ o
then_got (got x rest) = refl
then_got (stop rest) = refl

-- What is read and given is read.
then_given : {A B : Type 0} (o : Reading A) (next : A → List Token → Reading B)
    → and_then o (λ x rest. and_then (next x rest) (λ y us. got y us)) ≡ and_then o next
then_given (got x rest) next = then_got (next x rest)
then_given (stop rest) next = refl

-- ---- a sign that is asked for

pub not_sign : (sign token : Token) → token ≢ sign → is_token sign token ≡ false
not_sign sign token n = search rules

-- A sign that may be next is passed or not.
pub accepted : {A : Type 0} (sign : Token) (there other : Program A) (is : Bool)
    (old new : List Token) → is_token sign sign ≡ true → Accepts sign is old new →
    run read (accept sign there other) old ≡ run read (if is then there else other) new
accepted sign there other true old new e k = search rules
accepted sign there other false old new e k = search rules

pub unaccepted : {A : Type 0} (sign : Token) (there other : Program A) (ts : List Token)
    → is_token sign (front ts) ≡ false → run read (accept sign there other) ts ≡ run read other ts
unaccepted sign there other ts e = search rules

-- ---- a token that is expected, or that says something

pub passed : {A : Type 0} (sign : Token) (next : Program A) (old new : List Token)
    → is_token sign sign ≡ true → old ≡ sign ∷ new → run read (expect sign next) old
    ≡ run read next new
passed sign next old new e h = accepted sign next halt true old new e h

pub unpassed : {A : Type 0} (sign : Token) (next : Program A) (fault : Stop) (old new : List Token)
    → (fault ≡ Syntax (length old)) × (new ≡ old) × (front old ≢ sign) →
    (fault ≡ Syntax (length new)) × (run read (expect sign next) old ≡ stop new)
unpassed sign next fault old new h = search rules

pub part_said : {A B : Type 0} (says : Token → Option A) (next : A → Program B) (x : A)
    (old new : List Token) → (says (front old) ≡ Some x) × (new ≡ tail old) →
    run read (part says next) old ≡ run read (next x) new
part_said {A = A} says next x old new h = search rules

pub part_unsaid : {A B : Type 0} (says : Token → Option A) (next : A → Program B) (fault : Stop)
    (old new : List Token) → (says (front old) ≡ None) × (new ≡ old)
    × (fault ≡ Syntax (length old)) →
    (fault ≡ Syntax (length new)) × (run read (part says next) old ≡ stop new)
part_unsaid {A = A} says next fault old new h = search rules

-- ---- states

pub state_begins : (how : Connective) (ts : List Token) → read_state (state_by how) ts
    ≡ and_then (read_state (state_part how) ts) (λ s us. read_state (state_after how s) us)
state_begins how ts = state_fixed _ _
    ∙ then_given (read_state (state_part how) ts) (λ s us. read_state (state_after how s) us)

pub state_goes_on : (how : Connective) (s : StateTree) (ts : List Token)
    → read_state (state_after how s) (connective_sign how ∷ ts)
    ≡ and_then (read_state (state_part how) ts)
    (λ t us. read_state (state_after how (connected how s t)) us)
state_goes_on how s ts =
    search (rules, state_fixed, accepted, connective_sign, call, of_state, state_part, state_after)

pub state_ends : (how : Connective) (s : StateTree) (ts : List Token)
    → is_token (connective_sign how) (front ts) ≡ false
    → read_state (state_after how s) ts ≡ got s ts
state_ends how s ts e =
    state_fixed _ _ ∙ unaccepted (connective_sign how) (call (of_state (state_part how))
    (λ t. call (of_state (state_after how (connected how s t))) (λ u. give u))) (give s) ts e

pub bangs_read : (braces : Bool) (n : ℕ) (ts : List Token)
    → read_state (state_operand braces) (replicate n Bang ++ ts)
    ≡ and_then (read_state (state_operand braces) ts) (λ s us. got (negated n s) us)
bangs_read braces zero ts = sym (then_got (read_state (state_operand braces) ts))
bangs_read braces (suc n) ts =
    state_fixed (state_operand braces) (Bang ∷ (replicate n Bang ++ ts))
    ∙ along (λ s us. got (negation s) us) (bangs_read braces n ts)
    ∙ twice (read_state (state_operand braces) ts)
  where
    twice : (o : Reading StateTree) → and_then (and_then o (λ s us. got (negated n s) us))
        (λ s us. got (negation s) us) ≡ and_then o (λ s us. got (negation (negated n s)) us)
    twice (got s us) = refl
    twice (stop us) = refl

pub closing_same : (braces : Bool) → is_token (brackets_of braces).1 (brackets_of braces).1 ≡ true
closing_same true = refl
closing_same false = refl

-- An operand that begins with no `!`: behind its bracket, or a leaf.
abbrev in_brackets : Bool → Program StateTree
in_brackets braces =
    call (of_state (state_by Or)) (λ s. expect (brackets_of braces).1 (give s))

pub bracket_read : (braces : Bool) (ts : List Token)
    → read_state (state_operand braces) ((brackets_of braces).0 ∷ ts)
    ≡ and_then (read_state (state_by Or) ts)
    (λ s us. run read (expect (brackets_of braces).1 (give s)) us)
bracket_read braces ts =
    search (rules, brackets_of, state_fixed, state_operand, unaccepted, call, of_state, give)

pub leaf_read : (braces : Bool) (ts : List Token) → front ts ≢ Bang
    → front ts ≢ (brackets_of braces).0 → read_state (state_operand braces) ts
    ≡ run read (part leaf_of (λ s. give s)) ts
leaf_read braces ts n m =
    search (rules, state_fixed, state_operand, unaccepted, call, of_state, give, negation, not_sign)

pub no_leaf : (token : Token) → ((i : ℕ) → token ≢ Name i) → token ≢ True → leaf_of token ≡ None
no_leaf (Name i) h k = absurd (h i refl)
no_leaf True h k = absurd (k refl)
no_leaf _ h k = refl

-- ---- expressions

join_same : (how : Join) → is_token (join_sign how) (join_sign how) ≡ true
join_same Sequence = refl
join_same Intersection = refl
join_same Alternation = refl

pub expression_begins : (how : Join) (ts : List Token) → read_pattern (expression_by how) ts
    ≡ and_then (read_pattern (expression_part how) ts)
    (λ e us. read_pattern (expression_after how e) us)
expression_begins how ts =
    search (rules, pattern_fixed, then_given, read_pattern, expression_part, expression_after)

pub expression_goes_on : (how : Join) (e : PatternTree) (ts : List Token)
    → read_pattern (expression_after how e) (join_sign how ∷ ts)
    ≡ and_then (read_pattern (expression_part how) ts)
    (λ f us. read_pattern (expression_after how (joined_by how e f)) us)
expression_goes_on how e ts =
    pattern_fixed _ _ ∙ accepted (join_sign how) (call (of_pattern (expression_part how))
    (λ f. call (of_pattern (expression_after how (joined_by how e f))) (λ g. give g))) (give e) true
    (join_sign how ∷ ts) ts (join_same how) refl
    ∙ then_given (read_pattern (expression_part how) ts)
    (λ f us. read_pattern (expression_after how (joined_by how e f)) us)

pub expression_ends : (how : Join) (e : PatternTree) (ts : List Token)
    → is_token (join_sign how) (front ts) ≡ false → read_pattern (expression_after how e) ts
    ≡ got e ts
expression_ends how e ts h =
    pattern_fixed _ _ ∙ unaccepted (join_sign how) (call (of_pattern (expression_part how))
    (λ f. call (of_pattern (expression_after how (joined_by how e f))) (λ g. give g))) (give e) ts h

pub operand_begins : (ts : List Token) → read_pattern operand ts
    ≡ and_then (read_pattern unsigned ts) (λ e us. read_pattern (operand_after e) us)
operand_begins ts = pattern_fixed _ _
    ∙ then_given (read_pattern unsigned ts) (λ e us. read_pattern (operand_after e) us)

pub star_read : (e : PatternTree) (ts : List Token) → read_pattern (operand_after e) (Star ∷ ts)
    ≡ read_pattern (operand_after (repetition e)) ts
star_read e ts = pattern_fixed _ _ ∙ then_got (read_pattern (operand_after (repetition e)) ts)

pub plus_read : (e : PatternTree) (ts : List Token) → read_pattern (operand_after e) (Plus ∷ ts)
    ≡ read_pattern (operand_after (sequence e (repetition e))) ts
plus_read e ts = pattern_fixed _ _
    ∙ then_got (read_pattern (operand_after (sequence e (repetition e))) ts)

pub question_read : (e : PatternTree) (ts : List Token)
    → read_pattern (operand_after e) (Question ∷ ts)
    ≡ read_pattern (operand_after (alternation e (atom empty))) ts
question_read e ts = pattern_fixed _ _
    ∙ then_got (read_pattern (operand_after (alternation e (atom empty))) ts)

pub percent_read : (e : PatternTree) (ts : List Token)
    → read_pattern (operand_after e) (Percent ∷ ts) ≡ and_then (read of_interval ts)
    (λ ends us. read_pattern (operand_after (restriction e ends)) us)
percent_read e ts = pattern_fixed _ _ ∙ then_given (read of_interval ts)
    (λ ends us. read_pattern (operand_after (restriction e ends)) us)

-- What no sign follows, and where a `:>` does.
pub operand_ends : (e : PatternTree) (ts : List Token) → is_behind (front ts) ≡ false
    → front ts ≢ Ends → read_pattern (operand_after e) ts ≡ got e ts
operand_ends e ts h n = pattern_fixed _ _ ∙ by (front ts) h n
  where
    by : (token : Token) → is_behind token ≡ false → token ≢ Ends
        → run read (sign_program e token) (past (is_behind token) ts) ≡ got e ts
    by Star h n = absurd (cc)
    by Plus h n = absurd (cc)
    by Question h n = absurd (cc)
    by Percent h n = absurd (cc)
    by Ends h n = absurd (n refl)
    by _ h n = refl

pub ends_stop : (e : PatternTree) (ts : List Token) → front ts ≡ Ends
    → read_pattern (operand_after e) ts ≡ stop ts
ends_stop e ts h = pattern_fixed _ _
    ∙ ap (λ (token : Token). run read (sign_program e token) (past (is_behind token) ts)) h

pub edge_read : (rises : Bool) (ts : List Token) → read_pattern unsigned (edge_sign rises ∷ ts)
    ≡ run read (edge_program rises) ts
edge_read true ts = pattern_fixed _ _
edge_read false ts = pattern_fixed _ _

-- A literal, behind `<:` or not.
pub literal_read : (begins : Bool) (old new : List Token) → BeginsLiteral (front old)
    → Accepts Begins begins old new → read_pattern unsigned old
    ≡ run read (literal_program begins) new
literal_read true old new h k = ap (λ ts. read_pattern unsigned ts) k ∙ pattern_fixed _ _
literal_read false old new h k =
    pattern_fixed _ _ ∙ by (front old) h k.1
    ∙ ap (λ ts. run read (literal_program false) ts) (sym k.0)
  where
    by : (token : Token) → BeginsLiteral token → token ≢ Begins
        → run read (unsigned_program token) (past (is_before token) old)
        ≡ run read (literal_program false) old
    by Eps h n = absurd h
    by LeftParen h n = absurd h
    by Rise h n = absurd h
    by Fall h n = absurd h
    by Event h n = absurd h
    by Begins h n = absurd (n refl)
    by _ h n = refl

pub literal_ends : (begins ends : Bool) (s : StateTree) (old new : List Token)
    → Accepts Ends ends old new →
    run read (accept Ends (give (edged_literal begins true s))
    (give (edged_literal begins false s))) old ≡ got (edged_literal begins ends s) new
literal_ends begins true s old new h = search rules
literal_ends begins false s old new h = search rules

pub eps_read : (ts : List Token) → read_pattern unsigned (Eps ∷ ts) ≡ got (atom empty) ts
eps_read ts = pattern_fixed _ _

pub parens_read : (ts : List Token) → read_pattern unsigned (LeftParen ∷ ts)
    ≡ and_then (read_pattern (expression_by Alternation) ts)
    (λ e us. run read (expect RightParen (give e)) us)
parens_read ts = pattern_fixed _ _

pub edge_some : (rises : Bool) → edge_sign rises ≢ EndOfText
edge_some true e = cc
edge_some false e = cc

-- An edge behind its bracket.
pub opened_edge : (rises : Bool) (old us new : List Token) → old ≡ edge_sign rises ∷ us → us
    ≡ LeftParen ∷ new → read_pattern unsigned old
    ≡ and_then (read_state (state_by Or) new)
    (λ s vs. run read (expect RightParen (give (edge_of rises s))) vs)
opened_edge rises old us new e f =
    search (rules, read_pattern, unsigned, edge_read, passed, call, of_state, state_by, expect)

pub event_read : (ts : List Token) → read_pattern unsigned (Event ∷ ts)
    ≡ run read event_program ts
event_read ts = pattern_fixed _ _

pub no_sign_behind : (token : Token) → token ≢ Star → token ≢ Plus → token ≢ Question
    → token ≢ Percent → is_behind token ≡ false
no_sign_behind Star a b c d = absurd (a refl)
no_sign_behind Plus a b c d = absurd (b refl)
no_sign_behind Question a b c d = absurd (c refl)
no_sign_behind Percent a b c d = absurd (d refl)
no_sign_behind _ a b c d = refl
