-- What holds of those in front of one holds of this one too.
use Rattle.std.proofs.Common.{◌≡◌, ℕ, ◌+◌, ◌<◌, List, [], ◌∷◌, ◌++◌, length, length-take, take, Option, None, Some, sym, ap, ◌∙◌, subst, arith, rules}
use Rattle.std.specs.List.{slice_get}
use Rattle.std.proofs.lemmas.List.{take_more}
use Rattle.std.proofs.lemmas.Option.{get_or_from_slice_get, slice_get-get_or}

-- of what stands at the places so far
pub places-more : {A : Type 0} (at : ℕ → Option A) (P : A → ℕ → Type 0) (number : ℕ)
    → ((asked : A) → at number ≡ Some asked → P asked number)
    → ((k : ℕ) (asked : A) → k < number → at k ≡ Some asked → P asked k)
    → (k : ℕ) (asked : A) → k < number + 1 → at k ≡ Some asked → P asked k
places-more at P number here before = search rules

-- of the names in front of one
pub front-more : (Knows : List (List ℕ) → Type 0) (names : List (List ℕ)) (number : ℕ)
    (name : List ℕ) → Some name ≡ slice_get names number → number < length names
    → (length (take number names) ≡ number → Knows (take number names ++ name ∷ []))
    → Knows (take (number + 1) names)
front-more Knows names number name there below knows =
    subst Knows
    (sym (take_more names number [] below ∙ ap (λ (text : List ℕ). take number names ++ text ∷ [])
    (get_or_from_slice_get names number name [] (sym there))))
    (knows (omega (arith, length-take number names, below)))

pub none-there : (names : List (List ℕ)) (number : ℕ) → None ≡ slice_get names number
    → number < length names → ⊥
none-there names number none below =
    let there = slice_get-get_or names number [] below in cc (there, none)
