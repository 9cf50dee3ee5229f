-- An outcome that is a pattern is the one that the text spells.
use Rattle.std.proofs.Common.{◌≡◌, ℕ, ◌⊎◌, inl, inr, Option, Some, None, Ok, Err, List, refl}
use Rattle.std.specs.Prelude.{Result, IfOk}
use Rattle.tre_trace.specs.Reading.{Vocabulary}
use Rattle.tre_syntax.specs.declared.pattern.Pattern.{Pattern}
use Rattle.tre_syntax.specs.Pattern.{pattern_tree, names_of}
use Rattle.tre_syntax.specs.PatternTree.{PatternTree}
use Rattle.tre_parse.specs.declared.fault.ParseFault.{ParseFault}
use Rattle.tre_parse.specs.declared.fault.ParseFault.TheVariants.{BadByte}
use Rattle.tre_parse.specs.Outcome.{IsSpelling, spelt, IsOutcome}
use Rattle.tre_parse.specs.Answers.{Answers}

pub none_found : (found : Option ℕ) → ((at : ℕ) → found ≡ Some at → ⊥) → found ≡ None
none_found None never = refl
none_found (Some at) never = absurd (never at refl)

pub outcome_spells : (scale : ℕ) (text : List ℕ) (tree : PatternTree) (names : Vocabulary)
    → IsOutcome scale text (spelt tree names) → IsSpelling scale text tree names
outcome_spells scale text tree names h = record {
  read = h.0;
  good = none_found h.0.bad (λ at bad. h.1.2 (BadByte at) bad);
  spells = h.1.1;
  numbered = h.1.0;
}

pub answer_spells : (scale : ℕ) (text : List ℕ) (result : Result Pattern ParseFault)
    → Answers (IsOutcome scale text) result → IfOk result (λ pattern. IsSpelling scale
    text (pattern_tree pattern) (names_of pattern))
answer_spells scale text (Ok pattern) h = outcome_spells scale text _ _ h
answer_spells scale text (Err fault) h = tt
