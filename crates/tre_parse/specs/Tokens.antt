-- What the scanner makes of a text: a name or a number by its bytes, or a token.
use Rattle.std.specs.Prelude.{ℕ, List}
use Rattle.tre_parse.specs.declared.token.Token.{Token}

-- A name or a number by its bytes, or another token.
pub data RawToken : Type 0 where
  name : List ℕ → RawToken
  event_name : List ℕ → RawToken
  number : List ℕ → RawToken
  sign : Token → RawToken

-- A raw token of the text and the offset of its first byte.
pub record RawTokenAt : Type 0 where
  pub at : ℕ
  pub word : RawToken
