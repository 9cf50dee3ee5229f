-- What is known behind a declaration.
use Rattle.std.proofs.Common.{◌≡◌, ◌<◌, ◌≤◌, ℕ, List, [], ◌∷◌, ◌++◌, length, map, get_or, take, None, refl, arith, if◌then◌else◌, rules}
use Rattle.std.specs.Global.{Vec}
use Rattle.tre_vcd.specs.VcdReading.{Statement, var, offer_in, offer_of, path}
use Rattle.tre_vcd.specs.Kept.{IsQuiet, KnowsOfPast}
use Rattle.tre_vcd.specs.Defined.{KnowsSignals}
use Rattle.tre_vcd.specs.Signals.{begins_range}
use Rattle.tre_vcd.specs.declared.past.Past.{Past}
use Rattle.tre_vcd.specs.declared.signals.Signals.{Signals}

pub signals-moved : (names own_names events own_events : List (List ℕ)) (kept own : Signals)
    (past : List Statement) → own_names ≡ names → own_events ≡ events → own ≡ kept
    → KnowsSignals names events kept past → KnowsSignals own_names own_events own past
signals-moved names own_names events own_events kept own past n e k knows = search rules

pub knows-moved : (names own_names events own_events : List (List ℕ)) (kept own : Past)
    (past : List Statement) → own_names ≡ names → own_events ≡ events → own ≡ kept
    → KnowsOfPast names events kept past → KnowsOfPast own_names own_events own past
knows-moved names own_names events own_events kept own past n e k knows = search rules

pub quiet-before : (past : List Statement) (tokens : List (List ℕ)) → IsQuiet (var tokens ∷ past)
    → IsQuiet past
quiet-before past tokens quiet = record { values = quiet.values; events = quiet.events }

-- no more than six tokens count
pub offer-six : (scopes tokens : List (List ℕ))
    → offer_in scopes (take 6 tokens) ≡ offer_in scopes tokens
offer-six scopes [] = refl
offer-six scopes (a ∷ []) = refl
offer-six scopes (a ∷ b ∷ []) = refl
offer-six scopes (a ∷ b ∷ c ∷ []) = refl
offer-six scopes (a ∷ b ∷ c ∷ d ∷ []) = refl
offer-six scopes (a ∷ b ∷ c ∷ d ∷ e ∷ []) = refl
offer-six scopes (a ∷ b ∷ c ∷ d ∷ e ∷ f ∷ tokens) = refl

-- ---- what a declaration of four or five tokens offers, by each of them

pub offered-four : (scopes : List (List ℕ)) (tokens : List (Vec ℕ))
    (kind size identifier reference : Vec ℕ) (k s i r : List ℕ)
    → 4 ≤ length tokens → length tokens < 5
    → kind ≡ get_or tokens 0 kind → size ≡ get_or tokens 1 size
    → identifier ≡ get_or tokens 2 identifier → reference ≡ get_or tokens 3 reference
    → k ≡ kind.items → s ≡ size.items → i ≡ identifier.items → r ≡ reference.items
    → offer_of k s i (path scopes r) ≡ offer_in scopes (map (λ (token : Vec ℕ). token.items) tokens)
offered-four _ [] _ _ _ _ _ _ _ _ least _ _ _ _ _ _ _ _ _ = search rules
offered-four _ (a ∷ []) _ _ _ _ _ _ _ _ least _ _ _ _ _ _ _ _ _ = search rules
offered-four _ (a ∷ b ∷ []) _ _ _ _ _ _ _ _ least _ _ _ _ _ _ _ _ _ = search rules
offered-four _ (a ∷ b ∷ c ∷ []) _ _ _ _ _ _ _ _ least _ _ _ _ _ _ _ _ _ = search rules
offered-four scopes (a ∷ b ∷ c ∷ d ∷ []) _ _ _ _ k s i r _ _ one two three four ka sb ic rd =
    search rules
offered-four _ (a ∷ b ∷ c ∷ d ∷ e ∷ more) _ _ _ _ _ _ _ _ _ below _ _ _ _ _ _ _ _ = search rules

pub offered-five : (scopes : List (List ℕ)) (tokens : List (Vec ℕ))
    (kind size identifier reference range : Vec ℕ) (k s i r g : List ℕ)
    → 5 ≤ length tokens → length tokens < 6
    → kind ≡ get_or tokens 0 kind → size ≡ get_or tokens 1 size
    → identifier ≡ get_or tokens 2 identifier → reference ≡ get_or tokens 3 reference
    → range ≡ get_or tokens 4 range
    → k ≡ kind.items → s ≡ size.items → i ≡ identifier.items → r ≡ reference.items
    → g ≡ range.items
    → (if begins_range g then offer_of k s i (path scopes (r ++ g)) else None)
    ≡ offer_in scopes (map (λ (token : Vec ℕ). token.items) tokens)
offered-five _ [] _ _ _ _ _ _ _ _ _ _ least _ _ _ _ _ _ _ _ _ _ _ = search rules
offered-five _ (a ∷ []) _ _ _ _ _ _ _ _ _ _ least _ _ _ _ _ _ _ _ _ _ _ = search rules
offered-five _ (a ∷ b ∷ []) _ _ _ _ _ _ _ _ _ _ least _ _ _ _ _ _ _ _ _ _ _ = search rules
offered-five _ (a ∷ b ∷ c ∷ []) _ _ _ _ _ _ _ _ _ _ least _ _ _ _ _ _ _ _ _ _ _ = search rules
offered-five _ (a ∷ b ∷ c ∷ d ∷ []) _ _ _ _ _ _ _ _ _ _ least _ _ _ _ _ _ _ _ _ _ _ = search rules
offered-five scopes (a ∷ b ∷ c ∷ d ∷ e ∷ []) _ _ _ _ _ k s i r g _ _ one two three four five ka sb ic rd ge =
    search rules
offered-five _ (a ∷ b ∷ c ∷ d ∷ e ∷ f ∷ more) _ _ _ _ _ _ _ _ _ _ _ below _ _ _ _ _ _ _ _ _ _ =
    absurd (omega (arith, below))
