-- Every text of definitions is some, or has a first fault.
use Rattle.std.proofs.Common.{◌≡◌, ℕ, ◌+◌, ◌⊎◌, Option, Some, None, List, [], ◌∷◌, ◌++◌, length, refl, sym, ◌∙◌, inl, inr}
use Rattle.std.proofs.lemmas.Option.{none-some}
use Rattle.tre_define.specs.Texts.{Define, PartsAreRefused, named, parts_of}
use Rattle.tre_define.specs.declared.let_fault.LetFault.{LetFault}
use Rattle.tre_define.specs.declared.let_fault.LetFault.TheVariants.{BadLet, Twice}
use Rattle.tre_define.proofs.Defining.{HasDefined, all-defined, begins, one-more, refused}

-- The part is a definition, or none.
abbrev pub IsOrNot : {D : Type 0} → (List ℕ → D → Type 0) → List ℕ → Type 0
IsOrNot Spells part =
    ((defined : _) × Spells part defined) ⊎ ((defined : _) → ¬ Spells part defined)

module _ {D : Type 0} (Spells : List ℕ → D → Type 0) (name_of : D → List ℕ)
    (is_or_not : (part : List ℕ) → IsOrNot Spells part) where
  -- The parts are definitions, or have a first fault.
  abbrev IsRead : List (List ℕ) → Type 0
  IsRead all = ((definitions : List D) × Define Spells name_of all definitions)
      ⊎ ((fault : LetFault) × PartsAreRefused Spells name_of all fault)

  module _ (all rest : List (List ℕ)) (definitions : List D) (part : List ℕ)
      (has : HasDefined Spells name_of all definitions (part ∷ rest))
      (more : (definitions : List D) → HasDefined Spells name_of all definitions rest
      → IsRead all) where
    with_name : (defined : D) → Spells part defined → (old : Option D)
        → named name_of definitions (name_of defined) ≡ old → IsRead all
    with_name defined spells None e =
        more (definitions ++ defined ∷ []) (one-more all rest definitions part defined has spells e)
    with_name defined spells (Some old) e =
        inr (
          Twice (length definitions + 1),
          refused all rest definitions part (Twice (length definitions + 1)) has
              (refl, (defined, spells, λ none. none-some old (sym none ∙ e))),
        )

    with_part : IsOrNot Spells part → IsRead all
    with_part (inl is) = with_name is.0 is.1 (named name_of definitions (name_of is.0)) refl
    with_part (inr never) =
        inr (
          BadLet (length definitions + 1),
          refused all rest definitions part (BadLet (length definitions + 1)) has (refl, never),
        )

  parts_read : (all rest : List (List ℕ)) (definitions : List D)
      → HasDefined Spells name_of all definitions rest → IsRead all
  parts_read all [] definitions has = inl (definitions, all-defined all definitions has)
  parts_read all (part ∷ rest) definitions has =
      with_part all rest definitions part has (parts_read all rest) (is_or_not part)

  pub some_reading : (text : List ℕ)
      → ((definitions : List D) × Define Spells name_of (parts_of text) definitions)
      ⊎ ((fault : LetFault) × PartsAreRefused Spells name_of (parts_of text) fault)
  some_reading text = parts_read (parts_of text) (parts_of text) [] (begins (parts_of text))
