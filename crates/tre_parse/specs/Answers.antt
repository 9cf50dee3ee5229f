-- What `parse` answers, against the outcome of the text.
use Rattle.std.specs.Prelude.{◌≡◌, ℕ, ◌≤◌, ◌-◌, ◌⊎◌, None, List, Result, Ok, Err, length, position}
use Rattle.tre_syntax.specs.declared.pattern.Pattern.{Pattern}
use Rattle.tre_syntax.specs.declared.pattern.TheConstants.{NODES_MAX}
use Rattle.tre_syntax.specs.Pattern.{pattern_tree, names_of}
use Rattle.tre_parse.specs.declared.fault.ParseFault.{ParseFault}
use Rattle.tre_parse.specs.declared.fault.ParseFault.TheVariants.{Syntax, Memory}
use Rattle.tre_parse.specs.declared.cursor.Stop.{Stop}
use Rattle.tre_parse.specs.declared.cursor.Stop.TheVariants.{Syntax as Stuck, Memory as Lacking}
use Rattle.tre_parse.specs.declared.scan.Scan.{Scan}
use Rattle.tre_parse.specs.Front.{tokens_in, offsets_in}
use Rattle.tre_parse.specs.Operands.{Operand}
use Rattle.tre_parse.specs.Scan.{vocabulary_in}
use Rattle.tre_parse.specs.Outcome.{Read, Outcome, spelt, refused, ComesFirst}
use Rattle.tre_parse.specs.Limits.{is_past}
use Rattle.tre_parse.specs.ScannedOutcome.{TextTokens, offset_of, NoneBelow, AreTokensOf}

-- The answer is an outcome of which this is so, or want of memory.
abbrev pub Answers : (Outcome → Type 0) → Result Pattern ParseFault → Type 0
Answers IsIt (Ok pattern) = IsIt (spelt (pattern_tree pattern) (names_of pattern))
Answers IsIt (Err fault) = (fault ≡ Memory) ⊎ IsIt (refused fault)

-- The words that a scan holds.
abbrev pub text_tokens_in : Scan → TextTokens
text_tokens_in scan =
    record {
      size = scan.size;
      tokens = tokens_in scan.tokens.items;
      offsets = offsets_in scan.tokens.items;
      names = vocabulary_in scan;
    }

-- The scan is that of some text.
pub record IsOfText (scan : Scan) : Type 0 where
  pub scale : ℕ
  pub text : List ℕ
  pub read : Read scale text
  pub tokens : AreTokensOf scale text read (text_tokens_in scan)

-- The answer is the outcome that comes first, however a text is read that has the tokens of a scan.
abbrev pub AnswersFirst : Scan → Result Pattern ParseFault → Type 0
AnswersFirst scan result = (scale : ℕ) (text : List ℕ) (read : Read scale text)
    → AreTokensOf scale text read (text_tokens_in scan) → Answers (ComesFirst read) result

-- Whatever text it is, no refusal of a lower rank has a cause.
abbrev pub NoneBelowIn : ℕ → Scan → Type 0
NoneBelowIn n scan = (scale : ℕ) (text : List ℕ) (read : Read scale text)
    → AreTokensOf scale text read (text_tokens_in scan) → NoneBelow scale text read n

-- The fault where reading stops.
abbrev pub IsFaultOf : TextTokens → Stop → ParseFault → Type 0
IsFaultOf words Lacking fault = fault ≡ Memory
IsFaultOf words (Stuck left) fault = fault ≡ Syntax (offset_of words (length words.tokens - left))

-- The expression that the words of a scan spell has no interval that can't be kept, no name past
-- the first ones, and no more nodes than a pattern may have.
pub record IsWithinLimits (scan : Scan) (whole : Operand) : Type 0 where
  pub kept : whole.unkept ≡ None
  pub named : position is_past (tokens_in scan.tokens.items) ≡ None
  pub small : whole.nodes ≤ NODES_MAX
