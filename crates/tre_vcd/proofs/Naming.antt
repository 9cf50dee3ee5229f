-- The one name that has some bytes.
use Rattle.std.proofs.Common.{◌≡◌, ◌≢◌, ℕ, zero, suc, ◌+◌, ◌<◌, ◌≤◌, Bool, true, false, not, nat_lt, cond, List, [], ◌∷◌, length, get_or, None, Some, refl, sym, arith, rules}
use Rattle.std.specs.List.{position_or_len}
use Rattle.std.specs.Prelude.{AllPairs}
use Rattle.std.specs.Str.{bytes_eq}
use Rattle.std.proofs.lemmas.Bool.Decides.{nat_tests}
use Rattle.std.proofs.lemmas.List.Quantifiers.{position-Some}
use Rattle.std.proofs.lemmas.Slice.Eq.{bytes_eq-Decides}
use Rattle.tre_state.specs.Names.{place_of}

-- of names that differ only one has some bytes
pub others-differ : (names : List (List ℕ)) (bytes : List ℕ) (i : ℕ)
    → AllPairs (λ name other. name ≢ other) names → i < length names
    → bytes_eq (get_or names i []) bytes ≡ true → (k : ℕ) → k < length names → k ≢ i
    → bytes_eq (get_or names k []) bytes ≡ false
others-differ names bytes i distinct below here k within other = search rules

-- The name at the place has the bytes, and no other has them.
pub record IsNamedAt (names : List (List ℕ)) (bytes : List ℕ) (place : ℕ) : Type 0 where
  pub within : place < length names
  pub found : bytes_eq (get_or names place []) bytes ≡ true
  pub alone : (k : ℕ) → k < length names → k ≢ place → bytes_eq (get_or names k []) bytes ≡ false

pub named-at : (names : List (List ℕ)) (bytes : List ℕ) (place : ℕ)
    → AllPairs (λ name other. name ≢ other) names → Some place ≡ place_of names bytes
    → IsNamedAt names bytes place
named-at names bytes place distinct is =
    let at = position-Some (bytes_eq bytes) names place [] (sym is) in
    let same : get_or names place [] ≡ bytes =
    sym ((bytes_eq-Decides bytes (get_or names place [])).0 at.1) in
    let found : bytes_eq (get_or names place []) bytes ≡ true =
    (bytes_eq-Decides (get_or names place []) bytes).1 same in
    record {
      within = at.0;
      found = found;
      alone = others-differ names bytes place distinct at.0 found;
    }

none-step : (p : List ℕ → Bool) (x : List ℕ) (xs : List (List ℕ)) (here : Bool) → p x ≡ here
    → suc (length xs) ≤ cond (not here) (1 + position_or_len p xs) 0
    → (length xs ≤ position_or_len p xs → (k : ℕ) → k < length xs → p (get_or xs k []) ≡ false)
    → (k : ℕ) → k < suc (length xs) → p (get_or (x ∷ xs) k []) ≡ false
none-step p x xs true is late rest k below = absurd (omega (arith, late))
none-step p x xs false is late rest zero below = is
none-step p x xs false is late rest (suc k) below = search rules

none-before : (p : List ℕ → Bool) (xs : List (List ℕ)) → length xs ≤ position_or_len p xs
    → (k : ℕ) → k < length xs → p (get_or xs k []) ≡ false
none-before p [] late k below = absurd (omega (arith, below))
none-before p (x ∷ xs) late k below =
    none-step p x xs (p x) refl late (none-before p xs) k below

test-fails : (test : Bool) (n : ℕ) → None ≡ cond test (Some n) None → test ≡ false
test-fails true n is = absurd (cc (is))
test-fails false n is = refl

not-below : (a b : ℕ) → nat_lt a b ≡ false → b ≤ a
not-below a b is = grind (arith, nat_tests)

pub named-none : (names : List (List ℕ)) (bytes : List ℕ) → None ≡ place_of names bytes
    → (k : ℕ) → k < length names → bytes_eq (get_or names k []) bytes ≡ false
named-none names bytes none k within = search (rules, not-below, test-fails, none-before, within)
