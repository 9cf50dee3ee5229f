-- Whether bytes are a name is decided.
use Rattle.std.proofs.Common.{◌≡◌, ℕ, ◌⊎◌, IsTrue, Bool, true, false, List, [], ◌∷◌, refl, sym, ◌∙◌, inl, inr}
use Rattle.std.specs.List.{AllPass, list_all}
use Rattle.std.proofs.lemmas.Bool.{cases_Bool, false≢true}
use Rattle.std.proofs.lemmas.List.Sums.{AllPass-from_list_all, list_all-from_AllPass}
use Rattle.tre_state.specs.Name.{starts_name, continues_name, is_reserved, IsWord, IsName}

-- A fact, or that it is none.
abbrev pub Decided : Type 0 → Type 0
Decided P = P ⊎ (P → ⊥)

pub both_or : {P Q : Type 0} → Decided P → Decided Q → Decided (P × Q)
both_or (inl p) (inl q) = inl (p, q)
both_or (inl p) (inr never) = inr (λ h. never h.1)
both_or (inr never) _ = inr (λ h. never h.0)

pub not_or : {P : Type 0} → Decided P → Decided (P → ⊥)
not_or (inl p) = inr (λ never. never p)
not_or (inr never) = inl never

pub true_or : (t : Bool) → Decided (IsTrue t)
true_or true = inl refl
true_or false = inr (λ e. absurd (cc))

pub pass_or : (p : ℕ → Bool) (bytes : List ℕ) → (list_all p bytes ≡ true) ⊎ (list_all p bytes ≡ false)
    → Decided (AllPass p bytes)
pass_or p bytes (inl all) = inl (AllPass-from_list_all p bytes all)
pass_or p bytes (inr other) =
    inr (λ h. false≢true (sym other ∙ list_all-from_AllPass p bytes h))

pub word_or : (bytes : List ℕ) → Decided (IsWord bytes)
word_or [] = inr (λ h. h)
word_or (first ∷ rest) =
    both_or (true_or (starts_name first))
    (pass_or continues_name rest (cases_Bool (list_all continues_name rest)))

pub name_or : (bytes : List ℕ) → Decided (IsName bytes)
name_or bytes = both_or (word_or bytes) (not_or (true_or (is_reserved bytes)))
