-- The words of a text are those that are scanned.
use Rattle.std.proofs.Common.{◌≡◌, ℕ, ◌+◌, ◌-◌, ◌<◌, ◌≤◌, zero, suc, Bool, true, false, cond, ◌⊎◌, inl, inr, ⊎_elim, ◌&&◌, Option, Some, None, List, [], ◌∷◌, ◌++◌, take, drop, length, refl, sym, ◌∙◌, ap, subst, arith, rules}
use Rattle.std.specs.Prelude.{if◌then◌else◌, not, nat_eq, nat_lt, Contains, IsTrue, map}
use Rattle.std.specs.List.{prefix_len, take_while, AllPass, list_all, starts_with}
use Rattle.std.specs.Char.{is_ascii_digit}
use Rattle.std.proofs.lemmas.Bool.Decides.{nat_tests}
use Rattle.std.proofs.lemmas.List.{take-append-drop, length-take-le, length-append, length-drop, append_assoc}
use Rattle.std.proofs.Math.Seq.{take-append_seam, drop-append_seam, take-append-add}
use Rattle.std.proofs.lemmas.List.Sums.{prefix_len-le-length, list_all-from_AllPass, AllPass-from_list_all}
use Rattle.std.proofs.lemmas.List.Folds.{length-prefix_len}
use Rattle.tre_decimal.specs.Decimal.{is_numeral, is_point}
use Rattle.tre_state.specs.Name.{starts_name, continues_name, is_reserved, IsWord}
use Rattle.tre_parse.specs.declared.token.Token.{Token}
use Rattle.tre_parse.specs.declared.lexeme.Lexeme.{Lexeme}
use Rattle.tre_parse.specs.declared.lexeme.Lexeme.TheVariants.{Blank, Wrong, Name, Number, Sign}
use Rattle.tre_parse.specs.Ends.{bytes_in}
use Rattle.tre_parse.specs.Lexeme.{lexeme_named, word_lexeme, decimals_len, number_len, number_lexeme, first_sign, sign_lexeme, lexeme_of, FitsIn, reserved}
use Rattle.tre_parse.specs.Signs.{TakesSign}
use Rattle.tre_parse.specs.Words.{Words, is_name, signs, IsOneWord, BeginsWith, AreWords, at_end, blank, next, wrong, is_white_space}
use Rattle.tre_parse.specs.TokenWords.{text_of, WordAt, text_in, word_at}
use Rattle.tre_parse.proofs.WordTables.{HasDecimals, sign_text, sign_token, some_none, some_one, kept_or, numeral_written, decimals_written, decimal_written, some_sign, sign_parts, kept_word}
use Rattle.std.proofs.lemmas.Bool.{false≢true}
use Rattle.tre_parse.specs.declared.lexeme.TheConstants.{SIGNS}
use Rattle.tre_parse.specs.Tokens.{RawToken, name as raw_name, number as raw_number, sign as raw_sign}
use Rattle.tre_parse.specs.Scanned.{RawTokens, raw_tokens_from, scanned, with_raw_token, raw_tokens_of, bad_byte}
use Rattle.tre_parse.proofs.Table.{longest, only_signs}
use Rattle.tre_parse.proofs.Fronts.{lexeme_fits}
use Rattle.tre_parse.proofs.Scans.{raw_tokens_skip}
use Rattle.tre_parse.proofs.Words.{prefix_passes, word_from}

-- as many as pass stand at the front
passing : (p : ℕ → Bool) (n : ℕ) (xs : List ℕ) → n ≤ length xs → list_all p (take n xs) ≡ true
    → n ≤ prefix_len p xs
passing p zero xs fits h = omega arith
passing p (suc n) [] fits h = absurd (omega (arith, fits))
passing p (suc n) (x ∷ xs) fits h = by (passing p n xs (omega (arith, fits))) (p x) refl h
  where
    by : (list_all p (take n xs) ≡ true → n ≤ prefix_len p xs) → (is : Bool) → p x ≡ is
        → (is && list_all p (take n xs)) ≡ true → suc n ≤ prefix_len p (x ∷ xs)
    by go true q more =
        let rest = go more in
        let one = ap (λ (t : Bool). cond t (1 + prefix_len p xs) 0) q in
        omega (arith, rest, one)
    by go false q more = absurd (cc)

all_listed : (p : ℕ → Bool) (xs : List ℕ) → AllPass p xs → list_all p xs ≡ true
all_listed p xs h = list_all-from_AllPass p xs h

starts_continues : (b : ℕ) → starts_name b ≡ true → continues_name b ≡ true
starts_continues b h = grind (arith, nat_tests)

starts_no_blank : (b : ℕ) → starts_name b ≡ true → is_white_space b ≡ false
starts_no_blank b h = grind (arith, nat_tests)

digit_no_blank : (b : ℕ) → is_ascii_digit b ≡ true → is_white_space b ≡ false
digit_no_blank b h = grind (arith, nat_tests)

digit_starts_none : (b : ℕ) → is_ascii_digit b ≡ true → starts_name b ≡ false
digit_starts_none b h = grind (arith, nat_tests)

named_bytes : (n : ℕ) (o : Option Token) → bytes_in (lexeme_named n o) ≡ n
named_bytes n None = refl
named_bytes n (Some token) = refl

lexeme_word : (b : ℕ) (bs : List ℕ) → starts_name b ≡ true
    → lexeme_of (b ∷ bs) ≡ word_lexeme (b ∷ bs)
lexeme_word b bs h = search rules

lexeme_number : (b : ℕ) (bs : List ℕ) → is_ascii_digit b ≡ true
    → lexeme_of (b ∷ bs) ≡ number_lexeme (b ∷ bs)
lexeme_number b bs h = search rules

-- a word is no longer than the one that is taken
most_word : (bytes : List ℕ) (n : ℕ) → n ≤ length bytes → IsWord (take n bytes)
    → n ≤ bytes_in (lexeme_of bytes)
most_word [] zero fits h = absurd h
most_word [] (suc n) fits h = absurd h
most_word (b ∷ bs) zero fits h = absurd h
most_word (b ∷ bs) (suc n) fits h =
    let rest = passing continues_name n bs (omega (arith, fits))
    (all_listed continues_name (take n bs) h.1) in
    let one = ap (λ (t : Bool). cond t (1 + prefix_len continues_name bs) 0)
    (starts_continues b h.0) in
    let size = ap bytes_in (lexeme_word b bs h.0) ∙ named_bytes (prefix_len continues_name (b ∷ bs))
    (reserved (take_while continues_name (b ∷ bs))) in
    omega (arith, rest, one, size)

-- digits and then a byte that is none
digits_end : (p : ℕ → Bool) (whole : List ℕ) (x : ℕ) (rest : List ℕ) → list_all p whole ≡ true
    → p x ≡ false → (prefix_len p (whole ++ x ∷ rest) ≡ length whole)
digits_end p [] x rest all stops = ap (λ (t : Bool). cond t (1 + prefix_len p rest) 0) stops
digits_end p (w ∷ whole) x rest all stops =
    by (λ more. digits_end p whole x rest more stops) (p w) refl all
  where
    by : (list_all p whole ≡ true → prefix_len p (whole ++ x ∷ rest) ≡ length whole) → (is : Bool)
        → p w ≡ is → (is && list_all p whole) ≡ true
        → prefix_len p (w ∷ whole ++ x ∷ rest) ≡ suc (length whole)
    by go true q more =
        let rec = go more in
        let one = ap (λ (t : Bool). cond t (1 + prefix_len p (whole ++ x ∷ rest)) 0) q in
        omega (arith, rec, one)
    by go false q more = absurd (cc)

numeral_digits : (bytes : List ℕ) → is_numeral bytes ≡ true → list_all is_ascii_digit bytes ≡ true
numeral_digits bytes h = search rules

first_digit : (b : ℕ) (bs : List ℕ) → is_numeral (b ∷ bs) ≡ true → is_ascii_digit b ≡ true
first_digit b bs h = search rules

most_numeral : (bytes : List ℕ) (n : ℕ) → n ≤ length bytes → is_numeral (take n bytes) ≡ true
    → n ≤ bytes_in (lexeme_of bytes)
most_numeral [] zero fits h = absurd (cc)
most_numeral [] (suc n) fits h = absurd (cc)
most_numeral (b ∷ bs) zero fits h = absurd (cc)
most_numeral (b ∷ bs) (suc n) fits h =
    let digit = first_digit b (take n bs) h in
    let front = passing is_ascii_digit (suc n) (b ∷ bs) fits
    (numeral_digits (take (suc n) (b ∷ bs)) h) in
    let size = ap bytes_in (lexeme_number b bs digit) in
    omega (arith, front, size)

-- digits, a point and digits are no longer than the number that is taken
most_decimals : (whole decimals rest : List ℕ) → is_numeral whole ≡ true
    → is_numeral decimals ≡ true
    → length whole + (1 + length decimals) ≤ bytes_in (lexeme_of (whole ++ 46 ∷ (decimals ++ rest)))
most_decimals [] decimals rest before behind = absurd (cc)
most_decimals (w ∷ ws) decimals rest before behind =
    let more = decimals ++ rest in
    let bytes = w ∷ ws ++ 46 ∷ more in
    let len = prefix_len is_ascii_digit bytes in
    let size = ap bytes_in (lexeme_number w (ws ++ 46 ∷ more) (first_digit w ws before)) in
    let front : len ≡ length (w ∷ ws) =
    digits_end is_ascii_digit (w ∷ ws) 46 more (numeral_digits (w ∷ ws) before) refl in
    let left : drop len bytes ≡ 46 ∷ more =
    ap (λ n. drop n bytes) front ∙ drop-append_seam (w ∷ ws) (46 ∷ more) in
    let some : 0 < length decimals = numeral_some decimals behind in
    let fits : length decimals ≤ length more = omega (arith, length-append decimals rest) in
    let seam : take (length decimals) more ≡ decimals = take-append_seam decimals rest in
    let digits = passing is_ascii_digit (length decimals) more fits
    (ap (list_all is_ascii_digit) seam ∙ numeral_digits decimals behind) in
    let any : nat_lt 0 (prefix_len is_ascii_digit more) ≡ true = grind (arith, nat_tests) in
    let taken : decimals_len (46 ∷ more) ≡ 1 + prefix_len is_ascii_digit more =
    ap (λ (t : Bool). if t then 1 + prefix_len is_ascii_digit more else 0) any in
    let all = ap decimals_len left ∙ taken in
    omega (arith, size, front, digits, all)
  where
    numeral_some : (xs : List ℕ) → is_numeral xs ≡ true → 0 < length xs
    numeral_some [] h = absurd (cc)
    numeral_some (x ∷ xs) h = omega arith

most_decimal : (bytes : List ℕ) (n : ℕ) → n ≤ length bytes → HasDecimals (take n bytes)
    → n ≤ bytes_in (lexeme_of bytes)
most_decimal bytes n fits has =
    let r = drop n bytes in
    let whole = has.whole in
    let decimals = has.decimals in
    let split : bytes ≡ whole ++ 46 ∷ (decimals ++ r) =
    sym (take-append-drop n bytes) ∙ ap (λ (xs : List ℕ). xs ++ r) has.split
    ∙ append_assoc whole (46 ∷ decimals) r in
    let most = most_decimals whole decimals r has.before has.behind in
    let size = length-take-le n bytes fits in
    let front = ap length has.split in
    let both = length-append whole (46 ∷ decimals) in
    let same = ap (λ (xs : List ℕ). bytes_in (lexeme_of xs)) split in
    omega (arith, most, size, front, both, same)

-- ---- signs

most_sign : (bytes : List ℕ) (n : ℕ) → n ≤ length bytes
    → Contains signs (take n bytes) → n ≤ bytes_in (lexeme_of bytes)
most_sign bytes n fits has =
    let known = sign_token (take n bytes) has in
    let takes = subst (λ (xs : List ℕ). TakesSign xs (length (take n bytes)))
    (take-append-drop n bytes) (longest (take n bytes) (drop n bytes) known.0 known.1) in
    let size = length-take-le n bytes fits in
    let long = takes.long in
    let taken = ap bytes_in takes.taken in
    omega (arith, size, long, taken)

-- ---- names

pub name_word : (bytes : List ℕ) → IsTrue (is_name bytes) → IsWord bytes
name_word [] h = false≢true h
name_word (b ∷ bs) h =
    by (starts_name b) (list_all continues_name bs) (is_reserved (b ∷ bs)) refl refl h
  where
    by : (starts all kept : Bool) → starts_name b ≡ starts → list_all continues_name bs ≡ all
        → IsTrue (starts && all && not kept) → IsWord (b ∷ bs)
    by true true kept s a h = (s, AllPass-from_list_all continues_name bs a)
    by true false kept s a h = absurd (false≢true h)
    by false all kept s a h = absurd (false≢true h)

pub word_name : (bytes : List ℕ) → IsWord bytes → is_reserved bytes ≡ false → IsTrue (is_name bytes)
word_name [] h e = absurd h
word_name (b ∷ bs) h e =
    let all = all_listed continues_name bs h.1 in
    rw (h.0, all, e) refl

-- A number by its digits.
abbrev HasDigits : List ℕ → Type 0
HasDigits bytes = (is_numeral bytes ≡ true) ⊎ HasDecimals bytes

pub most : (bytes : List ℕ) (n : ℕ) → n ≤ length bytes → IsOneWord (take n bytes)
    → n ≤ bytes_in (lexeme_of bytes)
most bytes n fits (inl is) = most_word bytes n fits (name_word (take n bytes) is)
most bytes n fits (inr (inl has)) = most_sign bytes n fits has
most bytes n fits (inr (inr (inl kept))) = most_word bytes n fits (kept_word (take n bytes) kept)
most bytes n fits (inr (inr (inr has))) =
    ⊎_elim (λ whole. most_numeral bytes n fits whole) (λ has. most_decimal bytes n fits has)
    (decimal_written (take n bytes) has.0 has.1)

-- ---- what is scanned is written

-- what a lexeme takes, by its bytes
abbrev pub raw_in : Lexeme → List ℕ → RawToken
raw_in (Name len) bytes = raw_name (take len bytes)
raw_in (Number len) bytes = raw_number (take len bytes)
raw_in (Sign token len) bytes = raw_sign token
raw_in lexeme bytes = raw_number []

-- It is a token.
abbrev pub IsTaken : Lexeme → Type 0
IsTaken Blank = ⊥
IsTaken Wrong = ⊥
IsTaken lexeme = Unit {0}

-- The bytes begin with the token that the lexeme takes there.
pub record Stands (bytes : List ℕ) (lexeme : Lexeme) : Type 0 where
  pub taken : IsTaken lexeme
  pub text : text_in (raw_in lexeme bytes) ≡ take (bytes_in lexeme) bytes
  pub is : IsOneWord (take (bytes_in lexeme) bytes)

word_by : (len : ℕ) (bytes : List ℕ) (kept : Option Token) → IsWord (take len bytes)
    → reserved (take len bytes) ≡ kept → Stands bytes (lexeme_named len kept)
word_by len bytes None is e = record {
  taken = tt;
  text = refl;
  is = elim (kept_or (take len bytes)) [
    | inl k ↦ absurd (some_none k.token (sym k.found ∙ e))
    | inr free ↦ inl (word_name (take len bytes) is free.is)
  ];
}
word_by len bytes (Some token) is e = elim (kept_or (take len bytes)) [
  | inl k ↦ record {
    taken = tt;
    text = sym (ap text_of (some_one k.token token (sym k.found ∙ e))) ∙ k.says.text;
    is = inr (inr (inl k.is));
  }
  | inr free ↦ absurd (some_none token (sym e ∙ free.none))
]

word_stands : (b : ℕ) (bs : List ℕ) → starts_name b ≡ true → Stands (b ∷ bs) (lexeme_of (b ∷ bs))
word_stands b bs h = search (rules, continues_name, lexeme_word, word_by, reserved, word_from)

digits_numeral : (bytes : List ℕ) → 0 < length bytes → list_all is_ascii_digit bytes ≡ true
    → is_numeral bytes ≡ true
digits_numeral bytes some all = search rules

run_numeral : (bytes : List ℕ) → 0 < prefix_len is_ascii_digit bytes
    → is_numeral (take (prefix_len is_ascii_digit bytes) bytes) ≡ true
run_numeral bytes some =
    search (rules, length-prefix_len, digits_numeral, list_all-from_AllPass, prefix_passes)

point_byte : (x : ℕ) → is_point x ≡ true → x ≡ 46
point_byte x h = grind (arith, nat_tests)

decimal_front : (bytes : List ℕ) (len : ℕ) (rest : List ℕ) → is_numeral (take len bytes) ≡ true
    → drop len bytes ≡ rest → len ≤ length bytes
    → (is_numeral (take (len + decimals_len rest) bytes) ≡ true)
    ⊎ HasDecimals (take (len + decimals_len rest) bytes)
decimal_front bytes len [] is e fits = search rules
decimal_front bytes len (x ∷ more) is e fits =
    by (is_point x) (nat_lt 0 (prefix_len is_ascii_digit more)) refl refl
  where
    by : (point some : Bool) → is_point x ≡ point → nat_lt 0 (prefix_len is_ascii_digit more) ≡ some
        → (is_numeral (take (len + (if point && some then 1 + (prefix_len is_ascii_digit more)
        else 0)) bytes) ≡ true)
        ⊎ HasDecimals (take (len + (if point && some then 1 + (prefix_len is_ascii_digit more)
        else 0)) bytes)
    by true true p s = inr (
        let size = length-take-le len bytes fits in
        let front = take len bytes in
        let whole : bytes ≡ front ++ x ∷ more =
        sym (take-append-drop len bytes) ∙ ap (λ (r : List ℕ). front ++ r) e in
        let count : len + (1 + (prefix_len is_ascii_digit more))
        ≡ length front + suc (prefix_len is_ascii_digit more) = omega (arith, size) in
        let seam : take (len + (1 + (prefix_len is_ascii_digit more))) bytes
        ≡ front ++ x ∷ take (prefix_len is_ascii_digit more) more =
        ap (λ n. take n bytes) count
        ∙ ap (λ (r : List ℕ). take (length front + suc (prefix_len is_ascii_digit more)) r) whole
        ∙ take-append-add front (x ∷ more) (suc (prefix_len is_ascii_digit more)) in
        record {
          whole = front;
          decimals = take (prefix_len is_ascii_digit more) more;
          split = seam ∙ ap (λ (y : ℕ). front ++ y ∷ take (prefix_len is_ascii_digit more) more)
              (point_byte x p);
          before = is;
          behind = run_numeral more (grind (arith, nat_tests));
        })
    by true false p s =
        let same : len ≡ len + 0 = omega arith in
        inl (ap (λ n. is_numeral (take n bytes)) (sym same) ∙ is)
    by false some p s =
        let same : len ≡ len + 0 = omega arith in
        inl (ap (λ n. is_numeral (take n bytes)) (sym same) ∙ is)

number_stands : (b : ℕ) (bs : List ℕ) → is_ascii_digit b ≡ true
    → Stands (b ∷ bs) (lexeme_of (b ∷ bs))
number_stands b bs h =
    let bytes = b ∷ bs in
    let len = prefix_len is_ascii_digit bytes in
    let one = ap (λ (t : Bool). cond t (1 + prefix_len is_ascii_digit bs) 0) h in
    let fits = prefix_len-le-length is_ascii_digit bytes in
    let all = number_len bytes in
    subst (Stands bytes) (sym (lexeme_number b bs h)) (record {
      taken = tt;
      text = refl;
      is = inr (inr (inr (
          ⊎_elim (numeral_written (take all bytes)) (decimals_written (take all bytes))
          (decimal_front bytes len (drop len bytes)
          (run_numeral bytes (omega (arith, one))) refl fits))));
    })

-- a sign, or no token
abbrev pub IsSignOrWrong : Lexeme → Type 0
IsSignOrWrong (Sign token len) = Unit {0}
IsSignOrWrong Wrong = Unit {0}
IsSignOrWrong lexeme = ⊥

first_sign_or_wrong : {A : Type 0} (text : A → List ℕ) (token : A → Token) (signs : List A)
    (rest : List ℕ) → IsSignOrWrong (first_sign text token signs rest)
first_sign_or_wrong text token [] rest = tt
first_sign_or_wrong text token (x ∷ xs) rest = by (first_sign_or_wrong text token xs rest)
    (starts_with nat_eq rest (text x))
  where
    by : IsSignOrWrong (first_sign text token xs rest) → (is : Bool)
        → IsSignOrWrong (cond is (Sign (token x) (length (text x))) (first_sign text token xs rest))
    by more true = tt
    by more false = more

pub sign_or_wrong : (bytes : List ℕ) → IsSignOrWrong (sign_lexeme bytes)
sign_or_wrong bytes = first_sign_or_wrong (λ sign. sign.0.now) (λ sign. sign.1) SIGNS bytes

sign_stands : (bytes : List ℕ) (lexeme : Lexeme) → sign_lexeme bytes ≡ lexeme
    → IsSignOrWrong lexeme → (lexeme ≡ Wrong) ⊎ Stands bytes lexeme
sign_stands bytes (Sign token len) e is =
    let says = sign_text (take len bytes) token (only_signs bytes token len e) in
    inr (record { taken = tt; text = says.0.text; is = inr (inl says.1) })
sign_stands bytes Wrong e is = inl refl
sign_stands bytes Blank e is = absurd is
sign_stands bytes (Name len) e is = absurd is
sign_stands bytes (Number len) e is = absurd is

-- where no blank stands, a token does or none
pub stands : (b : ℕ) (bs : List ℕ) → is_white_space b ≡ false
    → (lexeme_of (b ∷ bs) ≡ Wrong) ⊎ Stands (b ∷ bs) (lexeme_of (b ∷ bs))
stands b bs absent = by (starts_name b) (is_ascii_digit b) refl refl
  where
    by : (starts digit : Bool) → starts_name b ≡ starts → is_ascii_digit b ≡ digit
        → (lexeme_of (b ∷ bs) ≡ Wrong) ⊎ Stands (b ∷ bs) (lexeme_of (b ∷ bs))
    by true digit s d = inr (word_stands b bs s)
    by false true s d = inr (number_stands b bs d)
    by false false s d =
        let bytes = b ∷ bs in
        let is : lexeme_of bytes ≡ sign_lexeme bytes =
        ap (λ (t : Bool). if t then Blank else (if starts_name b then word_lexeme bytes else
        (if is_ascii_digit b then number_lexeme bytes else sign_lexeme bytes))) absent
        ∙ ap (λ (t : Bool). if t then word_lexeme bytes else (if is_ascii_digit b
        then number_lexeme bytes else sign_lexeme bytes)) s
        ∙ ap (λ (t : Bool). if t then number_lexeme bytes else sign_lexeme bytes) d in
        subst (λ (l : Lexeme). (l ≡ Wrong) ⊎ Stands bytes l) (sym is)
        (sign_stands bytes (sign_lexeme bytes) refl (sign_or_wrong bytes))

-- ---- the tokens of a text are those that are scanned

starts_digit : (bytes : List ℕ) → (is_numeral bytes ≡ true) ⊎ HasDecimals bytes
    → (b : ℕ) (bs : List ℕ) → bytes ≡ b ∷ bs → is_ascii_digit b ≡ true
starts_digit bytes (inl is) b bs e = first_digit b bs (ap is_numeral (sym e) ∙ is)
starts_digit bytes (inr has) b bs e = by has.whole has.before (sym e ∙ has.split)
  where
    by : (whole : List ℕ) → is_numeral whole ≡ true → b ∷ bs ≡ whole ++ 46 ∷ has.decimals
        → is_ascii_digit b ≡ true
    by [] is q = absurd (cc)
    by (w ∷ ws) is q =
        let same : b ≡ w = cc in
        ap is_ascii_digit same ∙ first_digit w ws is

no_digits : HasDigits [] → ⊥
no_digits (inl is) = cc
no_digits (inr has) = none has.whole has.split
  where
    none : (whole : List ℕ) → [] ≡ whole ++ 46 ∷ has.decimals → ⊥
    none [] q = cc
    none (w ∷ ws) q = cc

some_byte : IsOneWord [] → ⊥
some_byte (inl is) = name_word [] is
some_byte (inr (inl has)) = some_sign has
some_byte (inr (inr (inl kept))) = kept_word [] kept
some_byte (inr (inr (inr has))) = no_digits (decimal_written [] has.0 has.1)

no_blank : (b : ℕ) (bs : List ℕ) → IsOneWord (b ∷ bs) → is_white_space b ≡ false
no_blank b bs (inl is) = starts_no_blank b (name_word (b ∷ bs) is).0
no_blank b bs (inr (inl has)) = (sign_parts b bs has).0
no_blank b bs (inr (inr (inl kept))) = starts_no_blank b (kept_word (b ∷ bs) kept).0
no_blank b bs (inr (inr (inr has))) =
    digit_no_blank b (starts_digit (b ∷ bs) (decimal_written (b ∷ bs) has.0 has.1) b bs refl)

fits_len : (available : ℕ) (lexeme : Lexeme) → IsTaken lexeme → FitsIn available lexeme
    → (0 < bytes_in lexeme) × (bytes_in lexeme ≤ available)
fits_len available (Name len) is fits = fits
fits_len available (Number len) is fits = fits
fits_len available (Sign token len) is fits = fits
fits_len available Blank is fits = absurd is
fits_len available Wrong is fits = absurd is

len_of : (bytes : List ℕ) → 0 < length bytes → Stands bytes (lexeme_of bytes)
    → (0 < bytes_in (lexeme_of bytes)) × (bytes_in (lexeme_of bytes) ≤ length bytes)
len_of bytes some st = fits_len (length bytes) (lexeme_of bytes) st.taken (lexeme_fits bytes some)

scanned_taken : (lexeme : Lexeme) (at : ℕ) (bytes : List ℕ) (go : ℕ → RawTokens) → IsTaken lexeme
    → scanned lexeme at bytes go
    ≡ with_raw_token at (raw_in lexeme bytes) (go (bytes_in lexeme - 1))
scanned_taken (Name len) at bytes go is = refl
scanned_taken (Number len) at bytes go is = refl
scanned_taken (Sign token len) at bytes go is = refl
scanned_taken Blank at bytes go is = absurd is
scanned_taken Wrong at bytes go is = absurd is

begun : (bytes : List ℕ) → 0 < length bytes → (st : Stands bytes (lexeme_of bytes))
    → BeginsWith bytes (bytes_in (lexeme_of bytes))
begun bytes some st = record {
  within = (len_of bytes some st).1;
  is = st.is;
  longest = λ more fits h. most bytes more fits h;
}

after_token : (at len : ℕ) (b : ℕ) (bs : List ℕ) → 0 < len → len ≤ length (b ∷ bs)
    → raw_tokens_from (len - 1) (at + 1) bs ≡ raw_tokens_from 0 (at + len) (drop len (b ∷ bs))
after_token at zero b bs some fits = absurd (omega (arith, some))
after_token at (suc m) b bs some fits = search (rules, raw_tokens_from, raw_tokens_skip)

-- What is scanned, in words.
abbrev pub Worded : Type 0
Worded = List WordAt × Option ℕ

abbrev pub worded : RawTokens → Worded
worded found = (map word_at found.raw_tokens, found.bad)

abbrev with_word : ℕ → List ℕ → Worded → Worded
with_word at word more = ((at, word) ∷ more.0, more.1)

next_word : (at len b : ℕ) (bs : List ℕ) → BeginsWith (b ∷ bs) len
    → worded (raw_tokens_from 0 at (b ∷ bs))
    ≡ with_word at (take len (b ∷ bs)) (worded (raw_tokens_from 0 (at + len) (drop len (b ∷ bs))))
next_word at zero b bs word = absurd (some_byte word.is)
next_word at (suc m) b bs word = by (stands b bs (no_blank b (take m bs) word.is))
  where
    by : (lexeme_of (b ∷ bs) ≡ Wrong) ⊎ Stands (b ∷ bs) (lexeme_of (b ∷ bs))
        → worded (raw_tokens_from 0 at (b ∷ bs))
        ≡ with_word at (take (suc m) (b ∷ bs))
        (worded (raw_tokens_from 0 (at + suc m) (drop (suc m) (b ∷ bs))))
    by (inl absent) =
        let few = most (b ∷ bs) (suc m) word.within word.is in
        let none = ap bytes_in absent in
        absurd (omega (arith, few, none))
    by (inr st) =
        let k = bytes_in (lexeme_of (b ∷ bs)) in
        let long = len_of (b ∷ bs) (omega arith) st in
        let low = most (b ∷ bs) (suc m) word.within word.is in
        let here = raw_in (lexeme_of (b ∷ bs)) (b ∷ bs) in
        let high = word.longest k long.1 st.is in
        let same : k ≡ suc m = omega (arith, low, high) in
        let raw = st.text ∙ ap (λ n. take n (b ∷ bs)) same in
        ap worded (scanned_taken (lexeme_of (b ∷ bs)) at (b ∷ bs)
        (λ skip. raw_tokens_from skip (at + 1) bs) st.taken)
        ∙ ap (λ n. with_word at (text_in here) (worded (raw_tokens_from (n - 1) (at + 1) bs))) same
        ∙ ap (λ w. with_word at w (worded (raw_tokens_from (suc m - 1) (at + 1) bs))) raw
        ∙ ap (λ r. with_word at (take (suc m) (b ∷ bs)) (worded r))
        (after_token at (suc m) b bs (omega arith) word.within)

blank_lexeme : (b : ℕ) (bs : List ℕ) → is_white_space b ≡ true → lexeme_of (b ∷ bs) ≡ Blank
blank_lexeme b bs h = search rules

pub one_list : (at : ℕ) (bytes : List ℕ) (words : List WordAt) (bad : Option ℕ)
    → AreWords at bytes words bad → worded (raw_tokens_from 0 at bytes) ≡ (words, bad)
one_list _ _ _ _ (at_end at) = refl
one_list _ _ _ _ (blank at byte rest words bad is more) =
    ap (λ (l : Lexeme). worded (scanned l at (byte ∷ rest)
    (λ skip. raw_tokens_from skip (at + 1) rest)))
    (blank_lexeme byte rest is) ∙ one_list (at + 1) rest words bad more
one_list _ _ _ _ (next at len [] words bad is more) = absurd (none len is.within is.is)
  where
    none : (n : ℕ) → n ≤ 0 → IsOneWord (take n []) → ⊥
    none zero few h = some_byte h
    none (suc n) few h = omega (arith, few)
one_list _ _ _ _ (next at len (b ∷ bs) words bad is more) =
    next_word at len b bs is
    ∙ ap (with_word at (take len (b ∷ bs))) (one_list (at + len) (drop len (b ∷ bs)) words bad more)
one_list _ _ _ _ (wrong at byte rest is none) = by (stands byte rest is)
  where
    by : (lexeme_of (byte ∷ rest) ≡ Wrong) ⊎ Stands (byte ∷ rest) (lexeme_of (byte ∷ rest))
        → worded (raw_tokens_from 0 at (byte ∷ rest)) ≡ ([], Some at)
    by (inl absent) =
        ap (λ (l : Lexeme). worded (scanned l at (byte ∷ rest)
        (λ skip. raw_tokens_from skip (at + 1) rest))) absent
    by (inr st) = absurd (none (bytes_in (lexeme_of (byte ∷ rest)))
        (begun (byte ∷ rest) (omega arith) st))

-- some words are those of the bytes
record HasWords (at : ℕ) (bytes : List ℕ) : Type 0 where
  words : List WordAt
  bad : Option ℕ
  are : AreWords at bytes words bad

some_list : (fuel at : ℕ) (bytes : List ℕ) → length bytes ≤ fuel → HasWords at bytes
some_list fuel at [] few = record { words = []; bad = None; are = at_end at }
some_list zero at (b ∷ bs) few = absurd (omega (arith, few))
some_list (suc fuel) at (b ∷ bs) few =
    by (some_list fuel (at + 1) bs (omega (arith, few)))
    (λ len some. some_list fuel (at + len) (drop len (b ∷ bs))
    (omega (arith, few, some, length-drop len (b ∷ bs))))
    (is_white_space b) refl
  where
    by_word : ((len : ℕ) → 0 < len → HasWords (at + len) (drop len (b ∷ bs)))
        → is_white_space b ≡ false
        → (lexeme_of (b ∷ bs) ≡ Wrong) ⊎ Stands (b ∷ bs) (lexeme_of (b ∷ bs))
        → HasWords at (b ∷ bs)
    by_word go absent (inl is) = record {
      words = [];
      bad = Some at;
      are = wrong at b bs absent (λ len begins.
          none len begins.is
          (omega (arith, most (b ∷ bs) len begins.within begins.is, ap bytes_in is)));
    }
      where
        none : (len : ℕ) → IsOneWord (take len (b ∷ bs)) → len ≤ 0 → ⊥
        none zero h few = some_byte h
        none (suc len) h few = omega (arith, few)
    by_word go absent (inr st) =
        let len = bytes_in (lexeme_of (b ∷ bs)) in
        let word = take len (b ∷ bs) in
        let rest = go len (len_of (b ∷ bs) (omega arith) st).0 in
        record {
          words = (at, word) ∷ rest.words;
          bad = rest.bad;
          are = next at len (b ∷ bs) rest.words rest.bad
              (begun (b ∷ bs) (omega arith) st) rest.are;
        }

    by : HasWords (at + 1) bs → ((len : ℕ) → 0 < len → HasWords (at + len) (drop len (b ∷ bs)))
        → (is : Bool) → is_white_space b ≡ is → HasWords at (b ∷ bs)
    by rest go true is = record {
      words = rest.words;
      bad = rest.bad;
      are = blank at b bs rest.words rest.bad is rest.are;
    }
    by rest go false is = by_word go is (stands b bs is)

pub some_words : (text : List ℕ)
    → AreWords 0 text (map word_at (raw_tokens_of text)) (bad_byte text)
some_words text =
    let has = some_list (length text) 0 text (omega arith) in
    let P = λ (p : Worded). AreWords 0 text p.0 p.1 in
    subst P (sym (one_list 0 text has.words has.bad has.are)) has.are
