-- What becomes of the text of a pattern.
use Rattle.std.specs.Prelude.{◌≡◌, ℕ, ◌⊎◌}
use Rattle.tre_trace.specs.Reading.{Vocabulary}
use Rattle.tre_syntax.specs.PatternTree.{PatternTree}
use Rattle.tre_parse.specs.Outcome.{Outcome, spelt, refused}
use Rattle.tre_parse.specs.declared.fault.ParseFault.TheVariants.{TooLong, TooDeep}

-- The outcome is this pattern, or the text has too many bytes or too many open brackets.
abbrev pub IsReadBack : PatternTree → Vocabulary → Outcome → Type 0
IsReadBack tree names outcome =
    (outcome ≡ spelt tree names)
    ⊎ ((outcome ≡ refused TooLong) ⊎ ((at : ℕ) × (outcome ≡ refused (TooDeep at))))
