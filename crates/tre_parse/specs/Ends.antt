-- Where a word or a number ends.
use Rattle.std.specs.Prelude.{◌≡◌, ℕ, ◌+◌, ◌<◌, ◌⊎◌, Bool, true, false, List, ◌∷◌, take, drop}
use Rattle.std.specs.Char.{is_ascii_digit}
use Rattle.std.specs.List.{AllPass}
use Rattle.tre_decimal.specs.Decimal.{is_point}
use Rattle.tre_parse.specs.declared.lexeme.Lexeme.{Lexeme}
use Rattle.tre_parse.specs.declared.lexeme.Lexeme.TheVariants.{Blank, Wrong, Name, Number, Sign}

-- How many bytes it has.
abbrev pub bytes_in : Lexeme → ℕ
bytes_in Blank = 1
bytes_in Wrong = 0
bytes_in (Name len) = len
bytes_in (Number len) = len
bytes_in (Sign token len) = len

-- So many bytes pass, one at least, and the next one, if there is one, does not.
pub record EndsRun (passes : ℕ → Bool) (bytes : List ℕ) (len : ℕ) : Type 0 where
  pub some : 0 < len
  pub pass : AllPass passes (take len bytes)
  pub ends : (byte : ℕ) (rest : List ℕ) → drop len bytes ≡ byte ∷ rest → passes byte ≡ false

-- So many digits stand there, as many as there are, and no point with a digit behind it.
pub record EndsWhole (bytes : List ℕ) (len : ℕ) : Type 0 where
  pub digits : EndsRun is_ascii_digit bytes len
  pub no_decimals : (point digit : ℕ) (rest : List ℕ) → drop len bytes ≡ point ∷ digit ∷ rest
      → is_point point ≡ true → is_ascii_digit digit ≡ false

-- Digits stand there, as many as there are, then a point, and again as many digits as there are.
pub record EndsDecimals (bytes : List ℕ) (len : ℕ) : Type 0 where
  pub whole : ℕ
  pub digits : EndsRun is_ascii_digit bytes whole
  pub point : ℕ
  pub is : is_point point ≡ true
  pub behind : List ℕ
  pub split : drop whole bytes ≡ point ∷ behind
  pub decimals : ℕ
  pub more_digits : EndsRun is_ascii_digit behind decimals
  pub all : len ≡ whole + (1 + decimals)

-- A number of so many bytes stands there.
abbrev pub EndsNumber : List ℕ → ℕ → Type 0
EndsNumber bytes len = EndsWhole bytes len ⊎ EndsDecimals bytes len
