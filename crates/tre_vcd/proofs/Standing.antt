-- Statements that say nothing of definitions.
use Rattle.std.proofs.Common.{◌≡◌, ℕ, List, ◌∷◌, None, rules}
use Rattle.tre_vcd.specs.VcdReading.{Statement, scope, upscope, var, timescale, dump, dump_end, definitions, time, change, time_at, scopes_at, offer_in}
use Rattle.tre_vcd.proofs.Staying.{ReadsSame, StaysSame}

-- it is no declaration
abbrev pub IsNoVar : Statement → Type 0
IsNoVar (var tokens) = ⊥
IsNoVar _ = Unit {0}

pub reads-no_var : (statement : Statement) (past : List Statement) → IsNoVar statement
    → ReadsSame past (statement ∷ past)
reads-no_var statement past is = search rules

-- it is none of times, changes and values either
abbrev pub IsStill : Statement → Type 0
IsStill (scope name) = Unit {0}
IsStill upscope = Unit {0}
IsStill (timescale tokens) = Unit {0}
IsStill dump = Unit {0}
IsStill dump_end = Unit {0}
IsStill _ = ⊥

pub stays : (statement : Statement) (past : List Statement) → IsStill statement
    → StaysSame past (statement ∷ past)
stays (scope name) past is = search rules
stays upscope past is = search rules
stays (timescale tokens) past is = search rules
stays dump past is = search rules
stays dump_end past is = search rules
stays (var tokens) past is = absurd is
stays definitions past is = absurd is
stays (time ticks) past is = absurd is
stays (change form identifier letters) past is = absurd is

-- the same time again
pub stays-time : (past : List Statement) (ticks : ℕ) → ticks ≡ time_at past
    → StaysSame past (time ticks ∷ past)
stays-time past ticks again = search rules

-- a declaration that offers nothing
pub stays-unoffered : (past : List Statement) (tokens : List (List ℕ))
    → offer_in (scopes_at past) tokens ≡ None → StaysSame past (var tokens ∷ past)
stays-unoffered past tokens none = search rules
