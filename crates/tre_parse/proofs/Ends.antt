-- A word has as many bytes as can stand in a name, and a number as many digits as there are, before
-- a point and behind it.
use Rattle.std.proofs.Common.{◌≡◌, ℕ, ◌+◌, suc, Bool, true, false, cond, ◌&&◌, inl, inr, Option, Some, None, List, [], ◌∷◌, drop, refl, sym, ◌∙◌, ap, subst, arith, rules}
use Rattle.std.specs.Prelude.{if◌then◌else◌, nat_lt}
use Rattle.std.specs.List.{prefix_len, take_while}
use Rattle.std.specs.Char.{is_ascii_digit}
use Rattle.std.proofs.lemmas.Bool.Decides.{nat_tests}
use Rattle.tre_decimal.specs.Decimal.{is_point}
use Rattle.tre_state.specs.Name.{starts_name, continues_name}
use Rattle.tre_parse.specs.declared.token.Token.{Token}
use Rattle.tre_parse.specs.declared.lexeme.Lexeme.TheVariants.{Blank}
use Rattle.tre_parse.specs.Lexeme.{lexeme_named, word_lexeme, decimals_len, number_lexeme, sign_lexeme, lexeme_of, reserved}
use Rattle.tre_parse.specs.Words.{is_white_space}
use Rattle.tre_parse.specs.Ends.{bytes_in, EndsRun, EndsNumber}
use Rattle.tre_parse.proofs.Words.{prefix_passes}

prefix_stops : (p : ℕ → Bool) (xs : List ℕ) (byte : ℕ) (rest : List ℕ)
    → drop (prefix_len p xs) xs ≡ byte ∷ rest → p byte ≡ false
prefix_stops p [] byte rest e = absurd (cc)
prefix_stops p (x ∷ xs) byte rest e = by (p x) refl
    (λ q. prefix_stops p xs byte rest (ap (λ n. drop n (x ∷ xs)) (counted q) ∙ e))
  where
    counted : p x ≡ true → suc (prefix_len p xs) ≡ prefix_len p (x ∷ xs)
    counted q = let n = ap (λ (t : Bool). cond t (1 + prefix_len p xs) 0) q in
        omega (arith, n)

    by : (is : Bool) → p x ≡ is → (p x ≡ true → p byte ≡ false) → p byte ≡ false
    by true q go = go q
    by false q go =
        let none = ap (λ (t : Bool). cond t (1 + prefix_len p xs) 0) q in
        let same : x ∷ xs ≡ byte ∷ rest = ap (λ n. drop n (x ∷ xs)) (sym none) ∙ e in
        let first : x ≡ byte = cc in
        ap p (sym first) ∙ q

none_passes : (p : ℕ → Bool) (xs : List ℕ) (byte : ℕ) (rest : List ℕ) → xs ≡ byte ∷ rest
    → nat_lt 0 (prefix_len p xs) ≡ false → p byte ≡ false
none_passes p xs byte rest e none = search rules

run_ends : (p : ℕ → Bool) (x : ℕ) (xs : List ℕ) → p x ≡ true
    → EndsRun p (x ∷ xs) (prefix_len p (x ∷ xs))
run_ends p x xs h = record {
  some = let n = ap (λ (t : Bool). cond t (1 + prefix_len p xs) 0) h in omega (arith, n);
  pass = prefix_passes p (x ∷ xs) (prefix_len p (x ∷ xs)) refl;
  ends = prefix_stops p (x ∷ xs);
}

starts_no_blank : (b : ℕ) → starts_name b ≡ true → is_white_space b ≡ false
starts_no_blank b h = grind (arith, nat_tests)

starts_continues : (b : ℕ) → starts_name b ≡ true → continues_name b ≡ true
starts_continues b h = grind (arith, nat_tests)

digit_no_blank : (b : ℕ) → is_ascii_digit b ≡ true → is_white_space b ≡ false
digit_no_blank b h = grind (arith, nat_tests)

digit_starts_none : (b : ℕ) → is_ascii_digit b ≡ true → starts_name b ≡ false
digit_starts_none b h = grind (arith, nat_tests)

named_bytes : (n : ℕ) (o : Option Token) → bytes_in (lexeme_named n o) ≡ n
named_bytes n None = refl
named_bytes n (Some token) = refl

pub word_ends : (b : ℕ) (bs : List ℕ) → starts_name b ≡ true
    → EndsRun continues_name (b ∷ bs) (bytes_in (lexeme_of (b ∷ bs)))
word_ends b bs h =
    let word = word_lexeme (b ∷ bs) in
    let number = number_lexeme (b ∷ bs) in
    let other = sign_lexeme (b ∷ bs) in
    let taken : lexeme_of (b ∷ bs) ≡ word =
    ap (λ (t : Bool). if t then Blank else (if starts_name b then word else
    (if is_ascii_digit b then number else other))) (starts_no_blank b h)
    ∙ ap (λ (t : Bool). if t then word else (if is_ascii_digit b then number else other)) h in
    let size = ap bytes_in taken ∙ named_bytes (prefix_len continues_name (b ∷ bs))
    (reserved (take_while continues_name (b ∷ bs))) in
    subst (EndsRun continues_name (b ∷ bs)) (sym size)
    (run_ends continues_name b bs (starts_continues b h))

-- A number ends behind its digits, or behind those that follow the point.
decimals_end : (bytes : List ℕ) (len : ℕ) (rest : List ℕ) → EndsRun is_ascii_digit bytes len
    → drop len bytes ≡ rest → EndsNumber bytes (len + decimals_len rest)
decimals_end bytes len [] run e = search rules
decimals_end bytes len (x ∷ more) run e =
    by (is_point x) (nat_lt 0 (prefix_len is_ascii_digit more)) refl refl
  where
    digits_behind : nat_lt 0 (prefix_len is_ascii_digit more) ≡ true
        → EndsRun is_ascii_digit more (prefix_len is_ascii_digit more)
    digits_behind some = record {
      some = grind (arith, nat_tests);
      pass = prefix_passes is_ascii_digit more (prefix_len is_ascii_digit more) refl;
      ends = prefix_stops is_ascii_digit more;
    }

    by : (point some : Bool) → is_point x ≡ point
        → nat_lt 0 (prefix_len is_ascii_digit more) ≡ some →
        EndsNumber bytes (len + (if point && some then 1 + prefix_len is_ascii_digit more else 0))
    by true true p s = inr (record {
      whole = len;
      digits = run;
      point = x;
      is = p;
      behind = more;
      split = e;
      decimals = prefix_len is_ascii_digit more;
      more_digits = digits_behind s;
      all = refl;
    })
    by true false p s =
        let same : len ≡ len + 0 = omega arith in
        subst (EndsNumber bytes) same (inl (record {
          digits = run;
          no_decimals = λ point digit rest q is.
              none_passes is_ascii_digit more digit rest (cc) s;
        }))
    by false some p s =
        let same : len ≡ len + 0 = omega arith in
        subst (EndsNumber bytes) same (inl (record {
          digits = run;
          no_decimals = λ point digit rest q is. absurd (cc);
        }))

pub number_ends : (b : ℕ) (bs : List ℕ) → is_ascii_digit b ≡ true
    → EndsNumber (b ∷ bs) (bytes_in (lexeme_of (b ∷ bs)))
number_ends b bs h =
    let word = word_lexeme (b ∷ bs) in
    let number = number_lexeme (b ∷ bs) in
    let other = sign_lexeme (b ∷ bs) in
    let taken : lexeme_of (b ∷ bs) ≡ number =
    ap (λ (t : Bool). if t then Blank else (if starts_name b then word else
    (if is_ascii_digit b then number else other))) (digit_no_blank b h)
    ∙ ap (λ (t : Bool). if t then word else (if is_ascii_digit b then number else other))
    (digit_starts_none b h)
    ∙ ap (λ (t : Bool). if t then number else other) h in
    let len = prefix_len is_ascii_digit (b ∷ bs) in
    subst (EndsNumber (b ∷ bs)) (sym (ap bytes_in taken))
    (decimals_end (b ∷ bs) len (drop len (b ∷ bs)) (run_ends is_ascii_digit b bs h) refl)
