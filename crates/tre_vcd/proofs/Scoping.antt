-- The text of the open scopes.
use Rattle.std.proofs.Common.{◌≡◌, ℕ, ◌+◌, ◌<◌, ◌==◌, nat_lt, true, List, [], ◌∷◌, ◌++◌, append_assoc, length, length-append, refl, sym, ap, ◌∙◌, arith}
use Rattle.std.proofs.lemmas.Bool.Decides.{nat_tests}
use Rattle.tre_vcd.specs.VcdReading.{path}
use Rattle.tre_vcd.specs.Kept.{AreScopes}

pub path-prefix : (scopes : List (List ℕ)) (prefix lens reference : List ℕ) → AreScopes scopes
    prefix lens → path scopes reference ≡ prefix ++ reference
path-prefix [] prefix lens reference are = rw are.0 refl
path-prefix (name ∷ scopes) prefix lens reference are =
    path-prefix scopes are.front are.front_lens (name ++ 46 ∷ reference) are.outer
    ∙ sym (ap (λ text. text ++ reference) are.text
    ∙ append_assoc are.front (name ++ 46 ∷ []) reference
    ∙ ap (λ rest. are.front ++ rest) (append_assoc name (46 ∷ []) reference))

pub scopes-empty : (scopes : List (List ℕ)) (prefix lens : List ℕ) → AreScopes scopes prefix lens
    → (length lens == 0) ≡ (length scopes == 0)
scopes-empty [] prefix lens are = rw are.1 refl
scopes-empty (name ∷ scopes) prefix lens are =
    let long : length lens ≡ length are.front_lens + 1 =
    ap length are.starts ∙ length-append are.front_lens (length are.front ∷ []) in
    grind (arith, nat_tests)

pub is-less : (a b : ℕ) → nat_lt a b ≡ true → a < b
is-less a b is = grind (arith, nat_tests)
