-- What stands in a token.
use Rattle.std.proofs.Common.{◌≡◌, ℕ, ◌<◌, ◌≤◌, nat_lt, Bool, true, false, List, [], ◌∷◌, length, map, get_or, take, Result, refl, sym, ap, ◌∙◌, arith, if◌then◌else◌, rules}
use Rattle.std.proofs.lemmas.List.{get_or-map, length-map}
use Rattle.std.proofs.lemmas.Bool.Decides.{nat_tests}
use Rattle.tre_vcd.specs.VcdReading.{Statement, Place, scope, upscope, var, timescale, definitions, nothing, path, is_signal, is_event, goes_to, scope_says, declaration_says, section_says}
use Rattle.tre_vcd.specs.Sections.{command_of}
use Rattle.tre_vcd.specs.Timescale.{tick_of}
use Rattle.tre_vcd.specs.declared.command.Command.{Command}
use Rattle.tre_vcd.specs.declared.command.Command.TheVariants.{Scope, Upscope, Var, Timescale, EndDefinitions, Other}
use Rattle.tre_parts.specs.Format.{Step}
use Rattle.tre_trace.specs.declared.fault.TraceKind.{TraceKind}
use Rattle.tre_vcd.specs.Kept.{Declares, DeclaresNone, DeclaresNoneWithin}

-- ---- sections, by their first six tokens

less : (a b : ℕ) → a < b → nat_lt a b ≡ true
less a b h = grind (arith, nat_tests)

more : (a b : ℕ) → b ≤ a → nat_lt a b ≡ false
more a b h = grind (arith, nat_tests)

pub declaration-long : (past : List Statement) (tokens : List (List ℕ))
    → 4 ≤ length (take 6 tokens)
    → declaration_says past tokens ≡ goes_to (var tokens ∷ past) nothing
declaration-long past tokens long = search rules

pub scope-long : (past : List Statement) (tokens : List (List ℕ)) (name : List ℕ)
    → 2 ≤ length (take 6 tokens) → name ≡ get_or (take 6 tokens) 1 []
    → scope_says past tokens ≡ goes_to (scope name ∷ past) nothing
scope-long past [] name long is = absurd (omega (arith, long))
scope-long past (kind ∷ []) name long is = absurd (omega (arith, long))
scope-long past (kind ∷ own ∷ tokens) name long is = search rules

pub declares-none : (test : List ℕ → List ℕ → Bool) (scopes tokens : List (List ℕ))
    → (length (take 6 tokens) ≡ 4
    → test (get_or (take 6 tokens) 0 []) (get_or (take 6 tokens) 1 []) ≡ false)
    → DeclaresNone test scopes tokens
declares-none test scopes tokens other = search rules

-- nor do four tokens whose path is longer
pub declares-longer : (longest : ℕ) (test : List ℕ → List ℕ → Bool)
    (scopes tokens : List (List ℕ)) (reference : List ℕ) → length (take 6 tokens) ≡ 4
    → reference ≡ get_or (take 6 tokens) 3 [] → longest < length (path scopes reference)
    → DeclaresNoneWithin longest test scopes tokens
declares-longer longest test scopes [] reference four is long = absurd (omega (arith, four))
declares-longer longest test scopes (a ∷ []) reference four is long = search rules
declares-longer longest test scopes (a ∷ b ∷ []) reference four is long = search rules
declares-longer longest test scopes (a ∷ b ∷ c ∷ []) reference four is long = search rules
declares-longer longest test scopes (a ∷ b ∷ c ∷ d ∷ []) reference four is long = search rules
declares-longer longest test scopes (a ∷ b ∷ c ∷ d ∷ e ∷ tokens) reference four is long =
    absurd (omega (arith, four))

pub none-within : (longest : ℕ) (test : List ℕ → List ℕ → Bool) (scopes tokens : List (List ℕ))
    → DeclaresNone test scopes tokens → DeclaresNoneWithin longest test scopes tokens
none-within longest test scopes tokens none = record { is = λ name within. none.is name }

-- a proposition is no event
pub signal-no_event : (kind size : List ℕ) → is_signal kind size ≡ true
    → is_event kind size ≡ false
signal-no_event kind size is = search rules

-- ---- the end of a section, by its command

abbrev pub ended_by : Command → List Statement → List (List ℕ) → Result (Step Place) TraceKind
ended_by Scope past tokens = scope_says past tokens
ended_by Upscope past tokens = goes_to (upscope ∷ past) nothing
ended_by Var past tokens = declaration_says past tokens
ended_by Timescale past tokens = goes_to (timescale tokens ∷ past) nothing
ended_by EndDefinitions past tokens = goes_to (definitions ∷ past) nothing
ended_by Other past tokens = goes_to past nothing

picked : (a b c d e : Bool) (past : List Statement) (tokens : List (List ℕ))
    → (if a then scope_says past tokens else (if b then goes_to (upscope ∷ past) nothing
    else (if c then declaration_says past tokens
    else (if d then goes_to (timescale tokens ∷ past) nothing
    else (if e then goes_to (definitions ∷ past) nothing else goes_to past nothing)))))
    ≡ ended_by (if a then Scope else (if b then Upscope else (if c then Var else (if d then
    Timescale else (if e then EndDefinitions else Other))))) past tokens
picked true b c d e past tokens = refl
picked false true c d e past tokens = refl
picked false false true d e past tokens = refl
picked false false false true e past tokens = refl
picked false false false false true past tokens = refl
picked false false false false false past tokens = refl

pub section-ended : (past : List Statement) (word : List ℕ) (tokens : List (List ℕ))
    (command : Command) → command ≡ command_of word
    → section_says past word tokens ≡ ended_by command past tokens
section-ended past word tokens command is = search rules

-- a `$timescale` has two tokens at most that say a tick
pub tick-kept : (tokens : List (List ℕ)) → tick_of (take 6 tokens) ≡ tick_of tokens
tick-kept [] = refl
tick-kept (both ∷ []) = refl
tick-kept (number ∷ unit ∷ []) = refl
tick-kept (a ∷ b ∷ c ∷ tokens) = refl

-- an element of a list that is kept in another form
pub kept-at : {X : Type 0} (f : X → List ℕ) (items : List X) (kept : List (List ℕ)) (i : ℕ)
    (d item : X) (bytes : List ℕ) → map f items ≡ kept → i < length items → item ≡ get_or items i d
    → bytes ≡ f item → bytes ≡ get_or kept i []
kept-at f items kept i d item bytes same below is read =
    read ∙ ap f is ∙ sym (get_or-map f items i d [] below) ∙ ap (λ all. get_or all i []) same

-- the tokens that a reader keeps, as a list that is the same
pub kept-tokens : {X : Type 0} {all items : List X} (f : X → List ℕ) (tokens : List (List ℕ))
    → all ≡ items → map f items ≡ take 6 tokens → map f all ≡ take 6 tokens
kept-tokens f tokens are kept = ap (map f) are ∙ kept

pub kept-count : {X : Type 0} (f : X → List ℕ) (all : List X) (tokens : List (List ℕ))
    → map f all ≡ take 6 tokens → length all ≡ length (take 6 tokens)
kept-count f all tokens kept = sym (length-map all f) ∙ ap length kept

-- one of four tokens
pub token-at : {X : Type 0} {item : X} {bytes : List ℕ} (f : X → List ℕ) (all : List X)
    (tokens : List (List ℕ)) (i : ℕ) → i < 4 → map f all ≡ take 6 tokens → length all ≡ 4
    → item ≡ get_or all i item → bytes ≡ f item → bytes ≡ get_or (take 6 tokens) i []
token-at {item = item} {bytes = bytes} f all tokens i below kept four is read =
    kept-at f all (take 6 tokens) i item item bytes kept (omega (arith, below, four)) is read

-- whether type and size pass the test is told by the first two of the tokens that are kept
pub same-test : (test : List ℕ → List ℕ → Bool) (kept : List (List ℕ)) (kind size : List ℕ)
    (value : Bool) → kind ≡ get_or kept 0 [] → size ≡ get_or kept 1 [] → test kind size ≡ value
    → test (get_or kept 0 []) (get_or kept 1 []) ≡ value
same-test test kept kind size value first second is = search rules

-- the same of four tokens
pub test-at : {X : Type 0} {first second : X} {kind size : List ℕ} (f : X → List ℕ) (all : List X)
    (tokens : List (List ℕ)) (test : List ℕ → List ℕ → Bool) (value : Bool)
    → map f all ≡ take 6 tokens → length all ≡ 4
    → first ≡ get_or all 0 first → kind ≡ f first → second ≡ get_or all 1 second
    → size ≡ f second → test kind size ≡ value
    → test (get_or (take 6 tokens) 0 []) (get_or (take 6 tokens) 1 []) ≡ value
test-at {kind = kind} {size = size} f all tokens test value kept four one kind_is two size_is is =
    same-test test (take 6 tokens) kind size value
    (token-at f all tokens 0 (omega arith) kept four one kind_is)
    (token-at f all tokens 1 (omega arith) kept four two size_is) is

pub declares-kept : (test : List ℕ → List ℕ → Bool) (scopes tokens : List (List ℕ))
    (identifier reference name : List ℕ) → identifier ≡ get_or (take 6 tokens) 2 []
    → reference ≡ get_or (take 6 tokens) 3 [] → name ≡ path scopes reference
    → length (take 6 tokens) ≡ 4
    → test (get_or (take 6 tokens) 0 []) (get_or (take 6 tokens) 1 []) ≡ true
    → Declares test scopes tokens identifier name
declares-kept test scopes tokens identifier reference name third fourth named four passed =
    search rules
