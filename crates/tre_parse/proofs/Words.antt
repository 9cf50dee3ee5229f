-- Tokens of a text: which bytes they have, and that a word which is no token of its own is a
-- name.
use Rattle.std.proofs.Common.{◌≡◌, ℕ, ◌+◌, ◌<◌, zero, suc, Bool, true, false, cond, ◌||◌, Option, Some, None, List, [], ◌∷◌, take, length, get_or, refl, sym, ◌∙◌, ap, subst, arith, rules}
use Rattle.std.specs.Prelude.{IsTrue, if◌then◌else◌, codes, nat_eq}
use Rattle.std.specs.List.{prefix_len, take_while, AllPass, starts_with}
use Rattle.std.specs.Str.{bytes_eq, IsAscii}
use Rattle.std.specs.Char.{is_ascii_digit}
use Rattle.std.proofs.lemmas.Bool.Decides.{nat_tests}
use Rattle.std.proofs.lemmas.List.{get_or-take, length-take-le}
use Rattle.std.proofs.lemmas.List.Sums.{prefix_len_passes, prefix_len-le-length}
use Rattle.tre_state.specs.Name.{starts_name, continues_name, is_reserved, IsWord, IsName}
use Rattle.tre_parse.specs.declared.token.Token.{Token}
use Rattle.tre_parse.specs.declared.token.Token.TheVariants.{Eps, Rise, Fall, Inf, True, Event}
use Rattle.tre_parse.specs.declared.lexeme.Lexeme.{Lexeme}
use Rattle.tre_parse.specs.declared.lexeme.Lexeme.TheVariants.{Blank, Name, Number, Sign}
use Rattle.tre_parse.specs.Lexeme.{lexeme_named, word_lexeme, first_sign, sign_lexeme, lexeme_of, reserved}
use Rattle.tre_parse.specs.Words.{is_white_space}
use Rattle.tre_parse.specs.declared.lexeme.TheConstants.{SIGNS}

-- The front that passes a test does.
pub prefix_passes : (p : ℕ → Bool) (xs : List ℕ) (n : ℕ) → n ≡ prefix_len p xs
    → AllPass p (take n xs)
prefix_passes p xs n e =
    search (rules, prefix_len-le-length, length-take-le, get_or-take, prefix_len_passes)

starts_continues : (b : ℕ) → starts_name b ≡ true → continues_name b ≡ true
starts_continues b h = grind (arith, nat_tests)

continues_below : (b : ℕ) → continues_name b ≡ true → b < 128
continues_below b h = grind (arith, nat_tests)

-- The bytes of a word are all below 128.
pub word_ascii : (bytes : List ℕ) → IsWord bytes → IsAscii bytes
word_ascii [] h = absurd h
word_ascii (b ∷ bs) h = λ i. elim i as (λ i. get_or (b ∷ bs) i 0 < 128) [
  | zero ↦ continues_below b (starts_continues b h.0)
  | suc k ↦ rest_below bs h.1 k
]
  where
    rest_below : (bs : List ℕ) → AllPass continues_name bs → (k : ℕ) → get_or bs k 0 < 128
    rest_below [] h k = omega arith
    rest_below (b ∷ bs) h zero = continues_below b (h 0 0 (omega arith))
    rest_below (b ∷ bs) h (suc k) = rest_below bs (λ j d lt. h (suc j) d (omega arith)) k

not_reserved : (a b c d e f : Bool) → (if a then Some Eps else
    (if b then Some Rise else (if c then Some Fall else
    (if d then Some Inf else (if e then Some True else (if f then Some Event else None)))))) ≡ None
    →
    a || (b || (c || (d || (e || (f || false))))) ≡ true → ⊥
not_reserved true b c d e f p q = cc
not_reserved false true c d e f p q = cc
not_reserved false false true d e f p q = cc
not_reserved false false false true e f p q = cc
not_reserved false false false false true f p q = cc
not_reserved false false false false false true p q = cc
not_reserved false false false false false false p q = cc

named_name : (n len : ℕ) (o : Option Token) → lexeme_named n o ≡ Name len → (o ≡ None) × (n ≡ len)
named_name n len None e = (refl, cc)
named_name n len (Some t) e = absurd (cc)

first_no_name : {A : Type 0} (text : A → List ℕ) (token : A → Token) (signs : List A)
    (rest : List ℕ) (len : ℕ) → first_sign text token signs rest ≡ Name len → ⊥
first_no_name text token [] rest len e = cc
first_no_name text token (x ∷ xs) rest len e = by (first_no_name text token xs rest len)
    (starts_with nat_eq rest (text x)) e
  where
    by : (first_sign text token xs rest ≡ Name len → ⊥) → (is : Bool)
        → cond is (Sign (token x) (length (text x))) (first_sign text token xs rest) ≡ Name len → ⊥
    by more true e = cc
    by more false e = more e

sign_no_name : (rest : List ℕ) (len : ℕ) → sign_lexeme rest ≡ Name len → ⊥
sign_no_name rest len e = first_no_name (λ sign. sign.0.now) (λ sign. sign.1) SIGNS rest len e

name_starts : (blank starts digit : Bool) (word sign : Lexeme) (n len : ℕ)
    → (sign ≡ Name len → ⊥) →
    (if blank then Blank else (if starts then word else (if digit then Number n else sign)))
    ≡ Name len → (starts ≡ true) × (word ≡ Name len)
name_starts true starts digit word sign n len never e = absurd (cc)
name_starts false true digit word sign n len never e = (refl, e)
name_starts false false true word sign n len never e = absurd (cc)
name_starts false false false word sign n len never e = absurd (never e)

pub word_from : (b : ℕ) (bs : List ℕ) (len : ℕ) → starts_name b ≡ true
    → prefix_len continues_name (b ∷ bs) ≡ len → IsWord (take len (b ∷ bs))
word_from b bs len h e =
    let one = ap (λ t. cond t (1 + prefix_len continues_name bs) 0) (starts_continues b h) in
    let more : len ≡ suc (prefix_len continues_name bs) = omega (arith, sym e ∙ one) in
    let P = λ (n : ℕ). IsWord (take n (b ∷ bs)) in
    subst P (sym more) (h, prefix_passes continues_name bs (prefix_len continues_name bs) refl)

-- Where a text goes on with a name, its bytes are one.
pub name_bytes : (rest : List ℕ) (len : ℕ) → lexeme_of rest ≡ Name len → IsName (take len rest)
name_bytes [] len e = absurd (cc)
name_bytes (b ∷ bs) len e =
    let found = name_starts (is_white_space b) (starts_name b) (is_ascii_digit b) (word_lexeme (b ∷ bs))
    (sign_lexeme (b ∷ bs)) _ len (sign_no_name (b ∷ bs) len) e in
    let known = named_name (prefix_len continues_name (b ∷ bs)) len
    (reserved (take_while continues_name (b ∷ bs))) found.1 in
    let word = take_while continues_name (b ∷ bs) in
    let P = λ (n : ℕ). IsTrue (is_reserved (take n (b ∷ bs))) → ⊥ in (
      word_from b bs len found.0 known.1,
      subst P known.1 (not_reserved (bytes_eq (codes "eps") word) (bytes_eq (codes "rise") word)
          (bytes_eq (codes "fall") word) (bytes_eq (codes "inf") word)
          (bytes_eq (codes "true") word) (bytes_eq (codes "event") word) known.0),
    )
