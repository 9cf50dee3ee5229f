-- How strongly the signs between operands bind, in the words of a reader who looks at three
-- operands.
use Rattle.std.specs.Prelude.{◌≡◌, ℕ, true, List, ◌∷◌, ◌++◌}
use Rattle.tre_state.specs.StateTree.{StateTree}
use Rattle.tre_syntax.specs.PatternTree.{PatternTree}
use Rattle.tre_trace.specs.Reading.{Vocabulary}
use Rattle.tre_parse.specs.Words.{Words}
use Rattle.tre_parse.specs.Grammar.{state, unary, SpellsState, expr, post, Spells}

-- Three operands with these signs between them spell this and nothing else, whatever each of them
-- is.
abbrev pub Groups : List ℕ → List ℕ
    → (PatternTree → PatternTree → PatternTree → PatternTree) → Type 0
Groups first second grouped =
    (scale : ℕ) (known : Vocabulary) (xs ys zs : Words) (e f g : PatternTree) → Spells scale known post xs e → Spells scale known post ys f →
    Spells scale known post zs g →
    Spells scale known expr (xs ++ first ∷ (ys ++ second ∷ zs)) (grouped e f g) × ((tree : PatternTree) →
    Spells scale known expr (xs ++ first ∷ (ys ++ second ∷ zs)) tree → tree ≡ grouped e f g)

-- The same of the operands of a state.
abbrev pub StateGroups : List ℕ → List ℕ
    → (StateTree → StateTree → StateTree → StateTree) → Type 0
StateGroups first second grouped =
    (scale : ℕ) (known : Vocabulary) (xs ys zs : Words) (s t u : StateTree) → SpellsState scale known (unary true) xs s →
    SpellsState scale known (unary true) ys t →
    SpellsState scale known (unary true) zs u →
    SpellsState scale known state (xs ++ first ∷ (ys ++ second ∷ zs)) (grouped s t u) × ((tree : StateTree) →
    SpellsState scale known state (xs ++ first ∷ (ys ++ second ∷ zs)) tree → tree ≡ grouped s t u)
