-- Where a range may begin in a name.
use Rattle.std.proofs.Common.{◌≡◌, ◌≢◌, ℕ, zero, suc, ◌<◌, ◌≤◌, ◌-◌, ◌⊎◌, Bool, true, false, List, [], ◌∷◌, length, take, drop, get_or, Option, None, Some, option_map, inl, inr, refl, sym, ap, ◌∙◌, arith, rules}
use Rattle.std.specs.Prelude.{◌&&◌, ◌==◌, option_and_then, if◌then◌else◌}
use Rattle.std.specs.Option.{option_or}
use Rattle.std.proofs.lemmas.Bool.{cases_lt}
use Rattle.std.proofs.lemmas.Bool.Decides.{nat_tests}
use Rattle.std.proofs.lemmas.List.{get_or-take, get_or_past, length-take}
use Rattle.tre_define.specs.Named.{longer, range_between, range_in, ranged_in}
use Rattle.tre_define.specs.declared.named.Range.{Range}
use Rattle.tre_define.proofs.Colons.{bracket-inside}

-- The bytes stand in brackets, and are no range.
no-range : (opens closes : Bool) (inner : List ℕ)
    → (opens ≡ false) ⊎ ((closes ≡ false) ⊎ (range_between inner ≡ None))
    → option_and_then range_between (if opens && closes then Some inner else None) ≡ None
no-range true true inner (inr (inr none)) = none
no-range true true inner (inl e) = cc
no-range true true inner (inr (inl e)) = cc
no-range true false inner why = refl
no-range false closes inner why = refl

-- A range begins with a bracket.
pub no-opening : (name : List ℕ) (k : ℕ) → get_or name k 0 ≢ 91 → range_in (drop k name) ≡ None
no-opening [] zero apart = refl
no-opening [] (suc k) apart = refl
no-opening (byte ∷ bytes) zero apart = search rules
no-opening (byte ∷ bytes) (suc k) apart = no-opening bytes k apart

same-last : (byte next : ℕ) (bytes : List ℕ)
    → get_or (byte ∷ next ∷ bytes) (length (byte ∷ next ∷ bytes) - 1) 0
    ≡ get_or (next ∷ bytes) (length (next ∷ bytes) - 1) 0
same-last byte next bytes = search rules

-- It ends with one.
pub no-closing : (name : List ℕ) (k : ℕ) → get_or name (length name - 1) 0 ≢ 93
    → range_in (drop k name) ≡ None
no-closing [] zero apart = refl
no-closing [] (suc k) apart = refl
no-closing (byte ∷ []) zero apart = no-range (byte == 91) false [] (inr (inl refl))
no-closing (byte ∷ []) (suc zero) apart = refl
no-closing (byte ∷ []) (suc (suc k)) apart = refl
no-closing (byte ∷ next ∷ bytes) zero apart =
    let last = get_or (next ∷ bytes) (length (next ∷ bytes) - 1) 0 in
    let not_it : last ≢ 93 = λ e. apart (same-last byte next bytes ∙ e) in
    let other : (last == 93) ≡ false = grind (arith, nat_tests) in
    no-range (byte == 91) (last == 93) (take (length (next ∷ bytes) - 1) (next ∷ bytes))
    (inr (inl other))
no-closing (byte ∷ next ∷ bytes) (suc k) apart =
    no-closing (next ∷ bytes) k (λ e. apart (same-last byte next bytes ∙ e))

-- No bracket stands inside it.
pub bracket-behind : (name : List ℕ) (k place : ℕ) → k < place → get_or name place 0 ≡ 91
    → range_in (drop k name) ≡ None
bracket-behind [] zero place before bracket = refl
bracket-behind [] (suc k) place before bracket = refl
bracket-behind name k zero before bracket = absurd (omega (arith, before))
bracket-behind (byte ∷ bytes) (suc k) (suc place) before bracket =
    bracket-behind bytes k place (omega (arith, before)) bracket
bracket-behind (byte ∷ bytes) zero (suc place) before bracket =
    no-range (byte == 91) (get_or bytes last 0 == 93) (take last bytes)
    (inr (by (cases_lt place last)))
  where
    last : ℕ
    last = length bytes - 1

    within : place < length bytes
    within = elim (cases_lt place (length bytes)) [
      | inl inside ↦ inside
      | inr past ↦ absurd (omega (arith, sym (get_or_past bytes place 0 past) ∙ bracket))
    ]

    by : (place < last) ⊎ (last ≤ place)
        → ((get_or bytes last 0 == 93) ≡ false) ⊎ (range_between (take last bytes) ≡ None)
    by (inl inside) =
        let long : place < length (take last bytes) =
        omega (arith, inside, within, length-take last bytes) in
        inr (bracket-inside (take last bytes) place long
        (get_or-take last bytes place 0 inside ∙ bracket))
    by (inr at_end) =
        let same : last ≡ place = omega (arith, at_end, within) in
        inl (ap (λ n. get_or bytes n 0 == 93) same ∙ ap (λ b. b == 93) bracket)

-- A name has the range that begins at the only place where one may.
pub only-at : (name : List ℕ) (place : ℕ)
    → ((k : ℕ) → k ≢ place → range_in (drop k name) ≡ None)
    → ranged_in name ≡ option_map (λ range. record { base = take place name; range = range })
    (range_in (drop place name))
only-at [] zero only = refl
only-at [] (suc place) only = refl
only-at (byte ∷ bytes) zero only =
    let none : ranged_in bytes ≡ None =
    only-at bytes 0 (λ k other. only (suc k) (λ e. omega (arith, e)))
    ∙ ap (option_map (λ range. record { base = []; range = range }))
    (only 1 (λ e. omega (arith, e))) in
    by (range_in (byte ∷ bytes)) none
  where
    by : (found : Option Range) → ranged_in bytes ≡ None
        → option_or (option_map (λ range. record { base = []; range = range }) found)
        (option_map (longer byte) (ranged_in bytes))
        ≡ option_map (λ range. record { base = []; range = range }) found
    by (Some range) none = refl
    by None none = ap (option_map (longer byte)) none
only-at (byte ∷ bytes) (suc place) only =
    let none : range_in (byte ∷ bytes) ≡ None = only 0 (λ e. omega (arith, e)) in
    let more = only-at bytes place (λ k other. only (suc k) (λ e. other (omega (arith, e)))) in
    let all : option_map (longer byte) (ranged_in bytes)
    ≡ option_map (λ range. record { base = byte ∷ take place bytes; range = range })
    (range_in (drop place bytes)) =
    ap (option_map (longer byte)) more ∙ by (range_in (drop place bytes)) in
    rw none all
  where
    by : (found : Option Range) → option_map (longer byte)
        (option_map (λ range. record { base = take place bytes; range = range }) found)
        ≡ option_map (λ range. record { base = byte ∷ take place bytes; range = range }) found
    by (Some range) = refl
    by None = refl
