-- What reads a state or an interval goes past no `%`.
use Rattle.std.proofs.Common.{◌≡◌, ◌≢◌, ℕ, ◌+◌, ◌*◌, ◌<◌, ◌≤◌, zero, suc, Bool, true, false, Option, Some, None, List, [], ◌∷◌, length, refl, sym, ◌∙◌, ap, subst, arith}
use Rattle.std.specs.Prelude.{if◌then◌else◌, is_some}
use Rattle.tre_parse.specs.declared.token.Token.{Token}
use Rattle.tre_parse.specs.declared.token.Token.TheVariants.{Comma, Bang, Percent}
use Rattle.tre_parse.specs.Front.{front, tail}
use Rattle.tre_parse.specs.Joins.{connective_sign, brackets_of}
use Rattle.tre_parse.specs.Reader.{Reading, got, stop, and_then, state_by, state_after, state_operand, Task, of_state, of_pattern, of_interval, Made, Program, give, halt, look, call, is_token, accept, said, part, leaf_of, opened_by, low_end_of, high_end_of, closed_by, program, past, run, height, read}
use Rattle.tre_parse.specs.Unkept.{Finds}
use Rattle.tre_parse.proofs.Fixpoint.{left, size, IsGuarded, guarded, read_fixed, some_next, no_longer}

abbrev pub IsCalm : Task → Type 0
IsCalm (of_pattern task) = ⊥
IsCalm task = Unit {0}

-- It goes past no `%`, and calls nothing that does.
abbrev NoPercent : {A : Type 0} → Program A → Type 0
NoPercent (give x) = Unit {0}
NoPercent halt = Unit {0}
NoPercent (look takes next) = (takes Percent ≡ false) × ((token : Token) → NoPercent (next token))
NoPercent (call task next) = IsCalm task × ((x : Made task) → NoPercent (next x))

no_percent : (sign : Token) → is_token sign Percent ≡ false
no_percent Comma = refl
no_percent _ = refl

accept_calm : {A : Type 0} (sign : Token) (there other : Program A) → NoPercent there
    → NoPercent other → NoPercent (accept sign there other)
accept_calm sign there other h k = (no_percent sign, λ token. by (is_token sign token))
  where
    by : (is : Bool) → NoPercent (if is then there else other)
    by true = h
    by false = k

part_calm : {A B : Type 0} (says : Token → Option A) (next : A → Program B) → says Percent ≡ None
    → ((x : A) → NoPercent (next x)) → NoPercent (part says next)
part_calm {A = A} says next e h = (ap is_some e, λ token. by (says token))
  where
    by : (one : Option A) → NoPercent (said one next)
    by (Some x) = h x
    by None = tt

no_close : (high : Option ℕ) → closed_by high Percent ≡ None
no_close None = refl
no_close (Some high) = refl

calm : (task : Task) → IsCalm task → NoPercent (program task)
calm (of_state (state_by how)) is = (tt, λ s. (tt, λ t. tt))
calm (of_state (state_after how s)) is =
    accept_calm (connective_sign how) _ _ (tt, λ t. (tt, λ u. tt)) tt
calm (of_state (state_operand braces)) is =
    accept_calm Bang _ _ (tt, λ s. tt) (accept_calm (brackets_of braces).0 _ _
    (tt, λ s. accept_calm (brackets_of braces).1 _ halt tt tt) (part_calm leaf_of _ refl (λ s. tt)))
calm (of_pattern task) is = absurd is
calm of_interval is = part_calm opened_by _ refl (λ low_weak. part_calm low_end_of _ refl
    (λ low. accept_calm Comma _ halt (part_calm high_end_of _ refl
    (λ high. part_calm (closed_by high) _ (no_close high) (λ high_weak. tt))) tt))

-- What is found in what it leaves is found where it begins.
abbrev pub Skips : {A : Type 0} → List Token → Reading A → Type 0
Skips tokens o = (found : Option ℕ) → Finds (left o) found → Finds tokens found

one_more : (t : Token) (ts : List Token) (found : Option ℕ) → t ≢ Percent → Finds ts found
    → Finds (t ∷ ts) found
one_more Percent ts found n h = absurd (n refl)
one_more _ ts found n h = h

look_skips : {A : Type 0} (takes : Token → Bool) (next : Token → Program A) (m bound : ℕ)
    (tokens : List Token) (is : Bool) → takes Percent ≡ false → takes (front tokens) ≡ is →
    (is ≡ true → tokens ≡ front tokens ∷ tail tokens) →
    IsGuarded (if is then 8 else bound) (next (front tokens)) → 8 * length tokens + bound ≤ m →
    ((b : ℕ) → IsGuarded b (next (front tokens)) → (ts : List Token) → 8 * length ts + b ≤ m
    → Skips ts (run read (next (front tokens)) ts)) →
    Skips tokens (run read (next (front tokens)) (past is tokens))
look_skips takes next m bound tokens false c e some g le go = go bound g tokens le
look_skips takes next m bound [] true c e some g le go = let none = some refl in absurd (cc)
look_skips takes next m bound (t ∷ ts) true c e some g le go = λ found h.
    one_more t ts found (λ q. let same = ap takes q in (cc)) (go 8 g ts (omega (arith, le)) found h)

call_skips : {A B : Type 0} (next : B → List Token → Reading A) (tokens : List Token)
    (o : Reading B) → Skips tokens o → length (left o) ≤ length tokens →
    ((x : B) (rest : List Token) → length rest ≤ length tokens → Skips rest (next x rest))
    → Skips tokens (and_then o next)
call_skips next tokens (stop rest) h le go = h
call_skips next tokens (got x rest) h le go = λ found k. h found (go x rest le found k)

program_skips : {A : Type 0} (m : ℕ) → ((task : Task) (ts : List Token) → IsCalm task
    → size task ts < m → Skips ts (read task ts)) → (p : Program A) (bound : ℕ) →
    IsGuarded bound p → NoPercent p → (tokens : List Token) → 8 * length tokens + bound ≤ m
    → Skips tokens (run read p tokens)
program_skips m below (give x) bound g c tokens le = λ found h. h
program_skips m below halt bound g c tokens le = λ found h. h
program_skips m below (look takes next) bound g c tokens le =
    look_skips takes next m bound tokens (takes (front tokens)) c.0 refl
    (some_next takes tokens g.0) (g.1 (front tokens)) le
    (λ b k ts lt. program_skips m below (next (front tokens)) b k (c.1 (front tokens)) ts lt)
program_skips m below (call task next) bound g c tokens le =
    call_skips (λ x rest. run read (next x) rest) tokens (read task tokens)
    (below task tokens c.0 (omega (arith, g.0, le))) (no_longer task tokens)
    (λ x rest lt. program_skips m below (next x) bound (g.1 x) (c.1 x) rest (omega (arith, le, lt)))

deep_skips : (n : ℕ) (task : Task) (tokens : List Token) → IsCalm task → size task tokens < n
    → Skips tokens (read task tokens)
deep_skips zero task tokens is lt = absurd (omega arith)
deep_skips (suc n) task tokens is lt =
    subst (Skips tokens) (sym (read_fixed task tokens))
    (program_skips (size task tokens) (λ t ts k less. deep_skips n t ts k (omega (arith, lt, less)))
    (program task) (height task) (guarded task) (calm task is) tokens (omega arith))

pub skips : (task : Task) (tokens : List Token) → IsCalm task → Skips tokens (read task tokens)
skips task tokens is = deep_skips (suc (size task tokens)) task tokens is (omega arith)
