-- What a task reads is what its program reads: as many calls inside one another as there are tokens
-- and ranks are enough.
use Rattle.std.proofs.Common.{◌≡◌, ℕ, ◌+◌, ◌*◌, ◌<◌, ◌≤◌, zero, suc, Bool, true, false, Option, Some, None, List, [], ◌∷◌, length, refl, arith, rules}
use Rattle.std.specs.Prelude.{if◌then◌else◌}
use Rattle.tre_syntax.specs.PatternTree.{PatternTree}
use Rattle.tre_parse.specs.declared.token.Token.{Token}
use Rattle.tre_parse.specs.declared.token.Token.TheVariants.{LeftParen, RightParen, Comma, Bang, Star, Plus, Question, Percent, Begins, Ends, Eps, Rise, Fall, Event, EndOfText}
use Rattle.tre_parse.specs.Front.{front, tail}
use Rattle.tre_parse.specs.Joins.{brackets_of}
use Rattle.tre_parse.specs.Reader.{Reading, got, stop, and_then, StateTask, state_by, state_after, state_operand, PatternTask, expression_by, expression_after, operand, operand_after, unsigned, Task, of_state, of_pattern, of_interval, Made, Program, give, halt, look, call, accept, part, leaf_of, opened_by, low_end_of, high_end_of, closed_by, sign_program, is_behind, edge_program, event_program, literal_program, unsigned_program, is_before, interval_program, state_program, pattern_program, program, past, run, deep, height, read, read_state, read_pattern}

-- The tokens that a reading leaves.
abbrev pub left : {A : Type 0} → Reading A → List Token
left (got x rest) = rest
left (stop rest) = rest

-- How much there is to read by a task.
abbrev pub size : Task → List Token → ℕ
size task tokens = 8 * length tokens + height task

-- Before it goes past a token, a program calls tasks below this height alone. It goes past no end.
abbrev pub IsGuarded : {A : Type 0} → ℕ → Program A → Type 0
IsGuarded bound (give x) = Unit {0}
IsGuarded bound halt = Unit {0}
IsGuarded bound (look takes next) = (takes EndOfText ≡ false)
    × ((token : Token) → IsGuarded (if takes token then 8 else bound) (next token))
IsGuarded bound (call task next) = (height task < bound)
    × ((x : Made task) → IsGuarded bound (next x))

-- ---- each program is guarded

accept_guarded : {A : Type 0} (sign : Token) (there other : Program A) (bound : ℕ)
    → IsGuarded 8 there
    → IsGuarded bound other → IsGuarded bound (accept sign there other)
accept_guarded sign there other bound h k = search rules

part_guarded : {A B : Type 0} (says : Token → Option A) (next : A → Program B) (bound : ℕ)
    → says EndOfText ≡ None → ((x : A) → IsGuarded 8 (next x)) → IsGuarded bound (part says next)
part_guarded {A = A} says next bound e h = search rules

sign_guarded : (e : PatternTree) (token : Token)
    → IsGuarded (if is_behind token then 8 else 0) (sign_program e token)
sign_guarded e Star = (omega arith, λ f. tt)
sign_guarded e Plus = (omega arith, λ f. tt)
sign_guarded e Question = (omega arith, λ f. tt)
sign_guarded e Percent = (omega arith, λ ends. (omega arith, λ f. tt))
sign_guarded e _ = tt

literal_guarded : (begins : Bool) (bound : ℕ) → 1 < bound
    → IsGuarded bound (literal_program begins)
literal_guarded begins bound more = (more, λ s. accept_guarded Ends _ _ bound tt tt)

edge_guarded : (rises : Bool) → IsGuarded 8 (edge_program rises)
edge_guarded rises = search rules

event_guarded : IsGuarded 8 event_program
event_guarded = search rules

unsigned_guarded : (token : Token)
    → IsGuarded (if is_before token then 8 else 2) (unsigned_program token)
unsigned_guarded Eps = tt
unsigned_guarded LeftParen = (omega arith, λ e. accept_guarded RightParen _ halt 8 tt tt)
unsigned_guarded Rise = edge_guarded true
unsigned_guarded Fall = edge_guarded false
unsigned_guarded Event = event_guarded
unsigned_guarded Begins = literal_guarded true 8 (omega arith)
unsigned_guarded _ = literal_guarded false 2 (omega arith)

no_close : (high : Option ℕ) → closed_by high EndOfText ≡ None
no_close None = refl
no_close (Some high) = refl

pub guarded : (task : Task) → IsGuarded (height task) (program task)
guarded (of_state (state_by how)) = search rules
guarded (of_state (state_after how s)) = search rules
guarded (of_state (state_operand braces)) =
    accept_guarded Bang _ _ 1 (omega arith, λ s. tt)
    (accept_guarded (brackets_of braces).0 _ _ 1
    (omega arith, λ s. accept_guarded (brackets_of braces).1 _ halt 8 tt tt)
    (part_guarded leaf_of _ 1 refl (λ s. tt)))
guarded (of_pattern (expression_by how)) = search rules
guarded (of_pattern (expression_after how e)) = search rules
guarded (of_pattern operand) = (omega arith, λ e. (omega arith, λ f. tt))
guarded (of_pattern (operand_after e)) = (refl, sign_guarded e)
guarded (of_pattern unsigned) = (refl, unsigned_guarded)
guarded of_interval =
    part_guarded opened_by _ 0 refl
    (λ low_weak. part_guarded low_end_of _ 8 refl
    (λ low. accept_guarded Comma _ halt 8 (part_guarded high_end_of _ 8 refl
    (λ high. part_guarded (closed_by high) _ 8 (no_close high) (λ high_weak. tt))) tt))

-- ---- two ways that agree below a bound agree there

abbrev Reads : Type 0
Reads = (task : Task) → List Token → Reading (Made task)

-- The readings are the same, and leave no more than there was.
record Agree {A : Type 0} (tokens : List Token) (o q : Reading A) : Type 0 where
  same : o ≡ q
  shorter : length (left o) ≤ length tokens

abbrev AgreeBelow : ℕ → Reads → Reads → Type 0
AgreeBelow bound f g = (task : Task) (tokens : List Token) → size task tokens < bound
    → Agree tokens (f task tokens) (g task tokens)

pub some_next : (takes : Token → Bool) (tokens : List Token) → takes EndOfText ≡ false
    → takes (front tokens) ≡ true → tokens ≡ front tokens ∷ tail tokens
some_next takes [] e q = absurd (cc)
some_next takes (t ∷ rest) e q = refl

look_agrees : {A : Type 0} (f g : Reads) (m : ℕ) (q : Program A) (bound : ℕ) (is : Bool)
    (tokens : List Token) → (is ≡ true → tokens ≡ front tokens ∷ tail tokens) →
    IsGuarded (if is then 8 else bound) q → 8 * length tokens + bound ≤ m →
    ((b : ℕ) → IsGuarded b q → (ts : List Token) → 8 * length ts + b ≤ m
    → Agree ts (run f q ts) (run g q ts)) →
    Agree tokens (run f q (past is tokens)) (run g q (past is tokens))
look_agrees f g m q bound false tokens some k le go = go bound k tokens le
look_agrees f g m q bound true tokens some k le go = search rules

then_agrees : {A B : Type 0} (next other : A → List Token → Reading B) (tokens : List Token)
    (o q : Reading A) → o ≡ q → length (left o) ≤ length tokens →
    ((x : A) (rest : List Token) → length rest ≤ length tokens
    → Agree rest (next x rest) (other x rest)) → Agree tokens (and_then o next) (and_then q other)
then_agrees {A = A} {B = B} next other tokens o q e le go = search rules

run_agrees : {A : Type 0} (f g : Reads) (m : ℕ) → AgreeBelow m f g → (p : Program A) (bound : ℕ)
    → IsGuarded bound p → (tokens : List Token) → 8 * length tokens + bound ≤ m →
    Agree tokens (run f p tokens) (run g p tokens)
run_agrees f g m h (give x) bound k tokens le = record { same = refl; shorter = omega arith }
run_agrees f g m h halt bound k tokens le = record { same = refl; shorter = omega arith }
run_agrees f g m h (look takes next) bound k tokens le =
    look_agrees f g m (next (front tokens)) bound (takes (front tokens)) tokens
    (some_next takes tokens k.0) (k.1 (front tokens)) le
    (λ b i ts lt. run_agrees f g m h (next (front tokens)) b i ts lt)
run_agrees f g m h (call task next) bound k tokens le =
    let a = h task tokens (omega (arith, k.0, le)) in
    then_agrees (λ x rest. run f (next x) rest) (λ x rest. run g (next x) rest) tokens
    (f task tokens) (g task tokens) a.same a.shorter
    (λ x rest lt. run_agrees f g m h (next x) bound (k.1 x) rest (omega (arith, le, lt)))

deep_agrees : (n m : ℕ) (task : Task) (tokens : List Token) → size task tokens < n
    → size task tokens < m → Agree tokens (deep n task tokens) (deep m task tokens)
deep_agrees zero m task tokens h k = absurd (omega arith)
deep_agrees (suc n) zero task tokens h k = absurd (omega arith)
deep_agrees (suc n) (suc m) task tokens h k =
    run_agrees (deep n) (deep m) (size task tokens)
    (λ t ts lt. deep_agrees n m t ts (omega (arith, h, lt)) (omega (arith, k, lt)))
    (program task) (height task) (guarded task) tokens (omega arith)

-- What a task reads is what its program reads.
pub read_fixed : (task : Task) (tokens : List Token) → read task tokens
    ≡ run read (program task) tokens
unfolding read
read_fixed task tokens =
    (run_agrees (deep (size task tokens)) (λ t ts. read t ts) (size task tokens)
    (λ t ts lt. deep_agrees (size task tokens) (suc (size t ts)) t ts lt (omega arith))
    (program task) (height task) (guarded task) tokens (omega arith)).same

-- It leaves no more than there was.
pub no_longer : (task : Task) (tokens : List Token) → length (left (read task tokens))
    ≤ length tokens
unfolding read
no_longer task tokens = (deep_agrees (suc (size task tokens)) (suc (size task tokens)) task tokens
    (omega arith) (omega arith)).shorter

-- The same of each kind of task.
pub state_fixed : (task : StateTask) (tokens : List Token) → read_state task tokens
    ≡ run read (state_program task) tokens
state_fixed task tokens = read_fixed (of_state task) tokens

pub pattern_fixed : (task : PatternTask) (tokens : List Token) → read_pattern task tokens
    ≡ run read (pattern_program task) tokens
pattern_fixed task tokens = read_fixed (of_pattern task) tokens

pub interval_fixed : (tokens : List Token) → read of_interval tokens
    ≡ run read interval_program tokens
interval_fixed tokens = read_fixed of_interval tokens
