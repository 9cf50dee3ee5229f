-- The table of signs, and that the longest is taken.
use Rattle.std.specs.Prelude.{◌≡◌, ℕ, ◌≤◌, List, ◌++◌, length, codes}
use Rattle.tre_parse.specs.declared.token.Token.{Token}
use Rattle.tre_parse.specs.declared.token.Token.TheVariants.{LeftParen, RightParen, LeftBracket, RightBracket, LeftBrace, RightBrace, Comma, Semicolon, Bar, DoubleBar, Ampersand, DoubleAmpersand, Bang, Star, Plus, Question, Percent, Begins, Ends}
use Rattle.tre_parse.specs.declared.lexeme.Lexeme.TheVariants.{Sign}
use Rattle.tre_parse.specs.Lexeme.{lexeme_of}

-- The sign is spelt by these bytes.
pub data IsSign : List ℕ → Token → Type 0 where
  left_paren : IsSign (codes "(") LeftParen
  right_paren : IsSign (codes ")") RightParen
  left_bracket : IsSign (codes "[") LeftBracket
  right_bracket : IsSign (codes "]") RightBracket
  left_brace : IsSign (codes "{") LeftBrace
  right_brace : IsSign (codes "}") RightBrace
  comma : IsSign (codes ",") Comma
  semicolon : IsSign (codes ";") Semicolon
  bar : IsSign (codes "|") Bar
  double_bar : IsSign (codes "||") DoubleBar
  ampersand : IsSign (codes "&") Ampersand
  double_ampersand : IsSign (codes "&&") DoubleAmpersand
  bang : IsSign (codes "!") Bang
  star : IsSign (codes "*") Star
  plus : IsSign (codes "+") Plus
  question : IsSign (codes "?") Question
  percent : IsSign (codes "%") Percent
  begins : IsSign (codes "<:") Begins
  ends : IsSign (codes ":>") Ends

-- The bytes begin with a sign of the table of at least so many bytes, and it is the token that is
-- taken there.
pub record TakesSign (bytes : List ℕ) (least : ℕ) : Type 0 where
  pub spelling : List ℕ
  pub token : Token
  pub rest : List ℕ
  pub is : IsSign spelling token
  pub split : bytes ≡ spelling ++ rest
  pub long : least ≤ length spelling
  pub taken : lexeme_of bytes ≡ Sign token (length spelling)
