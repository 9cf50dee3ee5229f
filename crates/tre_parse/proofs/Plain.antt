-- The raw tokens of a text: a name and a number are told by their bytes, and no other token is one.
use Rattle.std.proofs.Common.{◌≡◌, ℕ, ◌+◌, ◌-◌, zero, suc, Bool, true, false, cond, ◌||◌, Option, Some, None, List, [], ◌∷◌, length, take, refl, ap, subst, arith, rules}
use Rattle.std.specs.Prelude.{nat_eq, if◌then◌else◌}
use Rattle.std.specs.List.{prefix_len, take_while, starts_with}
use Rattle.std.specs.Char.{is_ascii_digit}
use Rattle.tre_state.specs.Name.{starts_name, continues_name, is_reserved, IsName}
use Rattle.tre_parse.specs.declared.token.Token.{Token}
use Rattle.tre_parse.specs.declared.token.Token.TheVariants.{Name as Numbered, EventName, Number as Units}
use Rattle.tre_parse.specs.declared.lexeme.Lexeme.{Lexeme}
use Rattle.tre_parse.specs.declared.lexeme.Lexeme.TheVariants.{Blank, Wrong, Name, Number, Sign}
use Rattle.tre_parse.specs.Words.{is_name, is_number, is_white_space}
use Rattle.tre_parse.specs.Lexeme.{lexeme_named, word_lexeme, number_lexeme, first_sign, sign_lexeme, lexeme_of, FitsIn, reserved}
use Rattle.tre_parse.proofs.Table.{Each}
use Rattle.tre_parse.specs.Tokens.{RawToken, name, event_name, number, sign, RawTokenAt}
use Rattle.tre_parse.specs.Scanned.{RawTokens, raw_tokens_from, scanned}
use Rattle.tre_parse.proofs.Fronts.{lexeme_fits}
use Rattle.tre_parse.proofs.Words.{name_bytes}
use Rattle.tre_parse.proofs.Meant.{IsSignOrWrong, sign_or_wrong, word_name}

-- A token that is neither a name nor a number.
abbrev pub IsNoName : Token → Type 0
IsNoName (Numbered i) = ⊥
IsNoName (EventName i) = ⊥
IsNoName (Units n) = ⊥
IsNoName _ = Unit {0}

abbrev SaysNoName : Lexeme → Type 0
SaysNoName (Sign token len) = IsNoName token
SaysNoName _ = Unit {0}

first_no_name : {A : Type 0} (text : A → List ℕ) (token : A → Token) (signs : List A) (xs : List ℕ)
    → Each (λ s. IsNoName (token s)) signs → SaysNoName (first_sign text token signs xs)
first_no_name text token [] xs h = tt
first_no_name text token (s ∷ more) xs h = by (first_no_name text token more xs h.1)
    (starts_with nat_eq xs (text s))
  where
    by : SaysNoName (first_sign text token more xs) → (is : Bool)
        → SaysNoName (cond is (Sign (token s) (length (text s))) (first_sign text token more xs))
    by next true = h.0
    by next false = next

sign_no_name : (rest : List ℕ) → SaysNoName (sign_lexeme rest)
sign_no_name rest = search rules

lexeme_no_name : (rest : List ℕ) → SaysNoName (lexeme_of rest)
lexeme_no_name [] = tt
lexeme_no_name (b ∷ bs) = search rules

-- Names stand among the raw tokens by their bytes alone, and none is told to be an event's.
abbrev pub IsPlain : RawToken → Type 0
IsPlain (name bytes) = is_name bytes ≡ true
IsPlain (event_name bytes) = ⊥
IsPlain (number bytes) = is_number bytes ≡ true
IsPlain (sign token) = IsNoName token

abbrev pub ArePlain : List RawTokenAt → Type 0
ArePlain [] = Unit {0}
ArePlain (raw ∷ rest) = IsPlain raw.word × ArePlain rest

-- A name and a number by their bytes.
abbrev IsGood : Lexeme → List ℕ → Type 0
IsGood (Name len) bytes = is_name (take len bytes) ≡ true
IsGood (Number len) bytes = is_number (take len bytes) ≡ true
IsGood _ bytes = Unit {0}

pub good_name : (bytes : List ℕ) → IsName bytes → is_name bytes ≡ true
good_name bytes h = by (is_reserved bytes) refl
  where
    by : (is : Bool) → is_reserved bytes ≡ is → is_name bytes ≡ true
    by true e = absurd (h.1 e)
    by false e = word_name bytes h.0 e

no_named : (n len : ℕ) (o : Option Token) → lexeme_named n o ≡ Number len → ⊥
no_named n len None e = cc
no_named n len (Some token) e = cc

no_signed : (bytes : List ℕ) (lexeme : Lexeme) (len : ℕ) → sign_lexeme bytes ≡ lexeme
    → IsSignOrWrong lexeme → lexeme ≡ Number len → ⊥
no_signed bytes (Sign token n) len e is q = cc
no_signed bytes Wrong len e is q = cc
no_signed bytes Blank len e is q = is
no_signed bytes (Name n) len e is q = is
no_signed bytes (Number n) len e is q = is

digit_by : (blank starts digit : Bool) (word digits other : Lexeme) (len : ℕ)
    → (word ≡ Number len → ⊥) → (other ≡ Number len → ⊥) →
    (if blank then Blank else (if starts then word else (if digit then digits else other)))
    ≡ Number len → digit ≡ true
digit_by true starts digit word digits other len h k e = absurd (cc)
digit_by false true digit word digits other len h k e = absurd (h e)
digit_by false false true word digits other len h k e = refl
digit_by false false false word digits other len h k e = absurd (k e)

good_number : (bytes : List ℕ) (len : ℕ) → lexeme_of bytes ≡ Number len
    → is_number (take len bytes) ≡ true
good_number [] len e = absurd (cc)
good_number (b ∷ bs) zero e =
    let fits = subst (FitsIn (length (b ∷ bs))) e (lexeme_fits (b ∷ bs) (omega arith)) in
    absurd (omega (arith, fits.0))
good_number (b ∷ bs) (suc n) e =
    let digit = digit_by (is_white_space b) (starts_name b) (is_ascii_digit b) (word_lexeme (b ∷ bs))
    (number_lexeme (b ∷ bs)) (sign_lexeme (b ∷ bs)) (suc n)
    (no_named (prefix_len continues_name (b ∷ bs)) (suc n)
    (reserved (take_while continues_name (b ∷ bs))))
    (no_signed (b ∷ bs) (sign_lexeme (b ∷ bs)) (suc n) refl (sign_or_wrong (b ∷ bs))) e in
    ap (λ is. is || false) digit

good : (bytes : List ℕ) (lexeme : Lexeme) → lexeme_of bytes ≡ lexeme → IsGood lexeme bytes
good bytes (Name len) e = good_name (take len bytes) (name_bytes bytes len e)
good bytes (Number len) e = good_number bytes len e
good bytes Blank e = tt
good bytes Wrong e = tt
good bytes (Sign token len) e = tt

scanned_plain : (lexeme : Lexeme) (at : ℕ) (bytes : List ℕ) (next : ℕ → RawTokens)
    → SaysNoName lexeme → IsGood lexeme bytes → ((k : ℕ) → ArePlain (next k).raw_tokens)
    → ArePlain (scanned lexeme at bytes next).raw_tokens
scanned_plain Blank at bytes next h g go = go 0
scanned_plain Wrong at bytes next h g go = tt
scanned_plain (Name len) at bytes next h g go = (g, go (len - 1))
scanned_plain (Number len) at bytes next h g go = (g, go (len - 1))
scanned_plain (Sign token len) at bytes next h g go = (h, go (len - 1))

pub raw_tokens_plain : (skip at : ℕ) (bytes : List ℕ) → ArePlain
    (raw_tokens_from skip at bytes).raw_tokens
raw_tokens_plain skip at [] = tt
raw_tokens_plain (suc skip) at (b ∷ bs) = raw_tokens_plain skip (at + 1) bs
raw_tokens_plain zero at (b ∷ bs) = scanned_plain (lexeme_of (b ∷ bs)) at (b ∷ bs)
    (λ skip. raw_tokens_from skip (at + 1) bs) (lexeme_no_name (b ∷ bs))
    (good (b ∷ bs) (lexeme_of (b ∷ bs)) refl)
    (λ skip. raw_tokens_plain skip (at + 1) bs)
