-- A lexeme takes at least one byte, and never goes past the end.
use Rattle.std.proofs.Common.{◌≡◌, ℕ, ◌+◌, ◌≤◌, ◌<◌, Bool, true, false, cond, ◌&&◌, Option, Some, None, List, [], ◌∷◌, length, refl, sym, ap, arith, rules}
use Rattle.std.specs.Prelude.{if◌then◌else◌, nat_eq, nat_lt}
use Rattle.std.specs.List.{prefix_len, take_while, starts_with}
use Rattle.std.specs.Char.{is_ascii_digit}
use Rattle.std.proofs.lemmas.Bool.Decides.{nat_tests}
use Rattle.std.proofs.lemmas.List.{length-drop}
use Rattle.std.proofs.lemmas.List.Sums.{prefix_len-le-length}
use Rattle.tre_decimal.specs.Decimal.{is_point}
use Rattle.tre_state.specs.Name.{starts_name, continues_name}
use Rattle.tre_parse.specs.declared.token.Token.{Token}
use Rattle.tre_parse.specs.declared.lexeme.Lexeme.{Lexeme}
use Rattle.tre_parse.specs.declared.lexeme.Lexeme.TheVariants.{Blank, Sign}
use Rattle.tre_parse.specs.Lexeme.{lexeme_named, first_sign, word_lexeme, decimals_len, number_lexeme, sign_lexeme, lexeme_of, FitsIn, reserved}
use Rattle.tre_parse.specs.Words.{is_white_space}
use Rattle.tre_parse.proofs.Table.{Each}

named_fits : (available n : ℕ) (o : Option Token) → 0 < n → n ≤ available
    → FitsIn available (lexeme_named n o)
named_fits available n None some h = (some, h)
named_fits available n (Some t) some h = (some, h)

text_within : (sign xs : List ℕ) → starts_with nat_eq xs sign ≡ true → length sign ≤ length xs
text_within [] xs e = omega arith
text_within (b ∷ bs) [] e = absurd (cc)
text_within (b ∷ bs) (x ∷ xs) e = omega (arith, text_within bs xs (second (nat_eq b x) _ e))
  where
    second : (a b : Bool) → a && b ≡ true → b ≡ true
    second true b e = e
    second false b e = absurd (cc)

first_fits : {A : Type 0} (text : A → List ℕ) (token : A → Token) (signs : List A) (xs : List ℕ)
    → 1 ≤ length xs → Each (λ s. 0 < length (text s)) signs →
    FitsIn (length xs) (first_sign text token signs xs)
first_fits text token [] xs some h = some
first_fits text token (s ∷ more) xs some h = by (first_fits text token more xs some h.1)
    (starts_with nat_eq xs (text s)) refl
  where
    by : FitsIn (length xs) (first_sign text token more xs) → (is : Bool) → is
        ≡ starts_with nat_eq xs (text s) →
        FitsIn (length xs) (cond is (Sign (token s) (length (text s)))
        (first_sign text token more xs))
    by next true q = (h.0, text_within (text s) xs (sym q))
    by next false q = next

pub sign_fits : (xs : List ℕ) → 1 ≤ length xs → FitsIn (length xs) (sign_lexeme xs)
sign_fits xs some = search rules

first_passes : (p : ℕ → Bool) (x : ℕ) (xs : List ℕ) → p x ≡ true → 0 < prefix_len p (x ∷ xs)
first_passes p x xs h = let n = ap (λ t. cond t (1 + prefix_len p xs) 0) h in omega (arith, n)

decimals_within : (xs : List ℕ) → decimals_len xs ≤ length xs
decimals_within [] = omega arith
decimals_within (x ∷ xs) = by (is_point x && nat_lt 0 (prefix_len is_ascii_digit xs))
  where
    by : (has : Bool) → (if has then 1 + prefix_len is_ascii_digit xs else 0) ≤ length (x ∷ xs)
    by true = omega (arith, prefix_len-le-length is_ascii_digit xs)
    by false = omega arith

pub number_fits : (xs : List ℕ) → 0 < prefix_len is_ascii_digit xs
    → FitsIn (length xs) (number_lexeme xs)
number_fits xs some = search (rules, prefix_len-le-length, decimals_within, length-drop)

fits_by : (available : ℕ) (blank starts digit : Bool) (word number other : Lexeme) → 1 ≤ available
    → (starts ≡ true → FitsIn available word) → (digit ≡ true → FitsIn available number) →
    FitsIn available other → FitsIn available (if blank then Blank else
    (if starts then word else (if digit then number else other)))
fits_by available true starts digit word number other some h k m = some
fits_by available false true digit word number other some h k m = h refl
fits_by available false false true word number other some h k m = k refl
fits_by available false false false word number other some h k m = m

starts_continues : (b : ℕ) → starts_name b ≡ true → continues_name b ≡ true
starts_continues b h = grind (arith, nat_tests)

pub lexeme_fits : (xs : List ℕ) → 0 < length xs → FitsIn (length xs) (lexeme_of xs)
lexeme_fits [] some = absurd (omega arith)
lexeme_fits (z ∷ zs) some =
    let xs = z ∷ zs in
    fits_by (length xs) (is_white_space z) (starts_name z) (is_ascii_digit z) (word_lexeme xs)
    (number_lexeme xs) (sign_lexeme xs) (omega arith)
    (λ q. named_fits (length xs) (prefix_len continues_name xs)
    (reserved (take_while continues_name xs)) (first_passes continues_name z zs
    (starts_continues z q)) (prefix_len-le-length continues_name xs))
    (λ q. number_fits xs (first_passes is_ascii_digit z zs q))
    (sign_fits xs (omega arith))
