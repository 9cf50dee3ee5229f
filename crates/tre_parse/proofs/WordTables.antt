-- Tokens and words: the word of a token, the token of a word, and which bytes write both.
use Rattle.std.proofs.Common.{◌≡◌, ◌≢◌, ℕ, ◌+◌, ◌<◌, Bool, true, false, ◌⊎◌, inl, inr, ⊎_elim, Some, None, List, [], ◌∷◌, ◌++◌, take, drop, length, get_or, not, ◌&&◌, refl, sym, ◌∙◌, ap, subst, arith, rules}
use Rattle.std.specs.Prelude.{if◌then◌else◌, ◌||◌, codes, Contains, IsTrue}
use Rattle.std.specs.Str.{bytes_eq}
use Rattle.std.proofs.lemmas.List.Elements.{All-contains, All-from_recursion}
use Rattle.std.specs.List.{AllPass, list_all, before_first, after_first, position_or_len}
use Rattle.std.specs.Char.{is_ascii_digit}
use Rattle.std.proofs.lemmas.Bool.Decides.{nat_tests}
use Rattle.std.proofs.lemmas.List.{take_at, drop_all, drop_at, length-append, length-drop, append_assoc}
use Rattle.std.proofs.lemmas.Bool.{false≢true}
use Rattle.std.proofs.lemmas.List.Sums.{AllPass-from_list_all, split_at_first, passes_at_first}
use Rattle.std.proofs.lemmas.Slice.Eq.{bytes_eq-Decides}
use Rattle.tre_decimal.specs.Decimal.{is_numeral, is_point, is_zero, units_of}
use Rattle.tre_state.specs.Name.{starts_name, continues_name, is_reserved, IsWord}
use Rattle.tre_parse.specs.declared.token.Token.{Token}
use Rattle.tre_parse.specs.declared.token.Token.TheVariants.{LeftParen, RightParen, LeftBracket, RightBracket, LeftBrace, RightBrace, Comma, Semicolon, Bar, DoubleBar, Ampersand, DoubleAmpersand, Bang, Star, Plus, Question, Percent, Begins, Ends, Eps, Rise, Fall, Inf, True, Event}
use Rattle.tre_parse.specs.Signs.{IsSign, left_paren, right_paren, left_bracket, right_bracket, left_brace, right_brace, comma, semicolon, bar, double_bar, ampersand, double_ampersand, bang, star, plus, question, percent, begins, ends}
use Rattle.tre_parse.specs.Lexeme.{reserved}
use Rattle.tre_parse.specs.Words.{signs, is_white_space}
use Rattle.tre_parse.specs.TokenWords.{text_of}

-- ---- signs and reserved words

-- The bytes write the sign, by its token and by its word.
pub record SaysSign (bytes : List ℕ) (token : Token) : Type 0 where
  pub text : text_of token ≡ bytes

pub sign_text : (bytes : List ℕ) (token : Token) → IsSign bytes token
    → SaysSign bytes token × Contains signs bytes
sign_text _ _ double_bar = (record { text = refl }, (0, omega arith, refl))
sign_text _ _ double_ampersand = (record { text = refl }, (1, omega arith, refl))
sign_text _ _ begins = (record { text = refl }, (2, omega arith, refl))
sign_text _ _ ends = (record { text = refl }, (3, omega arith, refl))
sign_text _ _ left_paren = (record { text = refl }, (4, omega arith, refl))
sign_text _ _ right_paren = (record { text = refl }, (5, omega arith, refl))
sign_text _ _ left_bracket = (record { text = refl }, (6, omega arith, refl))
sign_text _ _ right_bracket = (record { text = refl }, (7, omega arith, refl))
sign_text _ _ left_brace = (record { text = refl }, (8, omega arith, refl))
sign_text _ _ right_brace = (record { text = refl }, (9, omega arith, refl))
sign_text _ _ comma = (record { text = refl }, (10, omega arith, refl))
sign_text _ _ semicolon = (record { text = refl }, (11, omega arith, refl))
sign_text _ _ bar = (record { text = refl }, (12, omega arith, refl))
sign_text _ _ ampersand = (record { text = refl }, (13, omega arith, refl))
sign_text _ _ bang = (record { text = refl }, (14, omega arith, refl))
sign_text _ _ star = (record { text = refl }, (15, omega arith, refl))
sign_text _ _ plus = (record { text = refl }, (16, omega arith, refl))
sign_text _ _ question = (record { text = refl }, (17, omega arith, refl))
sign_text _ _ percent = (record { text = refl }, (18, omega arith, refl))

abbrev pub HasSign : List ℕ → Type 0
HasSign bytes = (token : Token) × IsSign bytes token

pub sign_token : (bytes : List ℕ) → Contains signs bytes → HasSign bytes
sign_token bytes has = All-contains HasSign signs bytes (All-from_recursion HasSign signs (
  (DoubleBar, double_bar),
  (
    (DoubleAmpersand, double_ampersand),
    (
      (Begins, begins),
      (
        (Ends, ends),
        (
          (LeftParen, left_paren),
          (
            (RightParen, right_paren),
            (
              (LeftBracket, left_bracket),
              (
                (RightBracket, right_bracket),
                (
                  (LeftBrace, left_brace),
                  (
                    (RightBrace, right_brace),
                    (
                      (Comma, comma),
                      (
                        (Semicolon, semicolon),
                        (
                          (Bar, bar),
                          (
                            (Ampersand, ampersand),
                            (
                              (Bang, bang),
                              (
                                (Star, star),
                                ((Plus, plus), ((Question, question), ((Percent, percent), tt))),
                              ),
                            ),
                          ),
                        ),
                      ),
                    ),
                  ),
                ),
              ),
            ),
          ),
        ),
      ),
    ),
  ),
)) has

pub some_none : (token : Token) → Some token ≡ None → ⊥
some_none token e = cc

pub some_one : (one other : Token) → Some one ≡ Some other → one ≡ other
some_one one other e = cc

-- A reserved word: its token, and that it is one.
pub record Kept (bytes : List ℕ) : Type 0 where
  pub token : Token
  pub found : reserved bytes ≡ Some token
  pub says : SaysSign bytes token
  pub is : is_reserved bytes ≡ true
  pub word : IsWord bytes

pub record Free (bytes : List ℕ) : Type 0 where
  pub none : reserved bytes ≡ None
  pub is : is_reserved bytes ≡ false

letters : (bytes : List ℕ) → list_all continues_name bytes ≡ true → AllPass continues_name bytes
letters bytes all = AllPass-from_list_all continues_name bytes all

same : (text bytes : List ℕ) → Kept text → bytes_eq text bytes ≡ true → Kept bytes
same text bytes kept e = subst Kept ((bytes_eq-Decides text bytes).0 e) kept

says_kept : (text : List ℕ) (token : Token) → reserved text ≡ Some token → text_of token ≡ text
    → is_reserved text ≡ true → IsWord text → Kept text
says_kept text token found is kept word = search rules

pub kept_or : (bytes : List ℕ) → Kept bytes ⊎ Free bytes
kept_or bytes =
    by (bytes_eq (codes "eps") bytes) (bytes_eq (codes "rise") bytes)
    (bytes_eq (codes "fall") bytes) (bytes_eq (codes "inf") bytes)
    (bytes_eq (codes "true") bytes) (bytes_eq (codes "event") bytes) refl refl refl refl refl refl
    (λ none is. record { none = none; is = is })
  where
    by : (a b c d e f : Bool) → bytes_eq (codes "eps") bytes ≡ a
        → bytes_eq (codes "rise") bytes ≡ b → bytes_eq (codes "fall") bytes ≡ c
        → bytes_eq (codes "inf") bytes ≡ d → bytes_eq (codes "true") bytes ≡ e
        → bytes_eq (codes "event") bytes ≡ f
        → ((if a then Some Eps else (if b then Some Rise else (if c then Some Fall else
        (if d then Some Inf else (if e then Some True else (if f then Some Event else None))))))
        ≡ None → a || (b || (c || (d || (e || (f || false))))) ≡ false → Free bytes)
        → Kept bytes ⊎ Free bytes
    by true b c d e f p q r s t u free =
        inl (same (codes "eps") bytes (says_kept _ Eps refl refl refl
        (refl, letters (codes "ps") refl)) p)
    by false true c d e f p q r s t u free =
        inl (same (codes "rise") bytes (says_kept _ Rise refl refl refl
        (refl, letters (codes "ise") refl)) q)
    by false false true d e f p q r s t u free =
        inl (same (codes "fall") bytes (says_kept _ Fall refl refl refl
        (refl, letters (codes "all") refl)) r)
    by false false false true e f p q r s t u free =
        inl (same (codes "inf") bytes (says_kept _ Inf refl refl refl
        (refl, letters (codes "nf") refl)) s)
    by false false false false true f p q r s t u free =
        inl (same (codes "true") bytes (says_kept _ True refl refl refl
        (refl, letters (codes "rue") refl)) t)
    by false false false false false true p q r s t u free =
        inl (same (codes "event") bytes (says_kept _ Event refl refl refl
        (refl, letters (codes "vent") refl)) u)
    by false false false false false false p q r s t u free = inr (free refl refl)

-- ---- numbers

-- At some scale it is a number of units.
abbrev pub IsDecimal : List ℕ → Type 0
IsDecimal bytes = (scale : ℕ) × (units_of scale bytes ≢ None)

-- It is by what stands before the point and behind it, or alone.
made : (all front back zeros : Bool) (one other : ℕ)
    → (all ≡ true) ⊎ ((front ≡ true) × (back ≡ true) × (zeros ≡ true))
    → (if all then Some one else (if front && back then (if zeros then Some other else None)
    else None)) ≢ None
made true front back zeros one other h = λ e. cc
made false true true true one other h = λ e. cc
made false true true false one other (inl h) = absurd (cc)
made false true true false one other (inr h) = absurd (let z = h.2 in cc)
made false true false zeros one other (inl h) = absurd (cc)
made false true false zeros one other (inr h) = absurd (let b = h.1 in cc)
made false false back zeros one other (inl h) = absurd (cc)
made false false back zeros one other (inr h) = absurd (let f = h.0 in cc)

parts : (all front back zeros : Bool) (one other : ℕ)
    → (if all then Some one else (if front && back then (if zeros then Some other else None)
    else None)) ≢ None → (all ≡ true) ⊎ ((front ≡ true) × (back ≡ true))
parts true front back zeros one other h = inl refl
parts false true true zeros one other h = inr (refl, refl)
parts false true false zeros one other h = absurd (h refl)
parts false false back zeros one other h = absurd (h refl)

pub numeral_written : (bytes : List ℕ) → is_numeral bytes ≡ true → IsDecimal bytes
numeral_written bytes numeral = search rules

no_point : (byte : ℕ) → is_ascii_digit byte ≡ true → is_point byte ≡ false
no_point byte digit = grind (arith, nat_tests)

numeral_some : (xs : List ℕ) → is_numeral xs ≡ true → 0 < length xs
numeral_some [] h = absurd (cc)
numeral_some (x ∷ xs) h = omega arith

numeral_digits : (xs : List ℕ) → is_numeral xs ≡ true → list_all is_ascii_digit xs ≡ true
numeral_digits xs numeral = grind (arith, nat_tests)

-- The first point stands behind the digits.
first_place : (whole rest : List ℕ) → list_all is_ascii_digit whole ≡ true
    → position_or_len is_point (whole ++ 46 ∷ rest) ≡ length whole
first_place [] rest digits = refl
first_place (x ∷ xs) rest digits =
    let here : is_ascii_digit x ≡ true = grind (arith, nat_tests) in
    let more : list_all is_ascii_digit xs ≡ true = grind (arith, nat_tests) in
    rw (no_point x here, first_place xs rest more) (omega arith)

-- Digits before a point (46), and digits behind it.
pub record HasDecimals (bytes : List ℕ) : Type 0 where
  pub whole : List ℕ
  pub decimals : List ℕ
  pub split : bytes ≡ whole ++ 46 ∷ decimals
  pub before : is_numeral whole ≡ true
  pub behind : is_numeral decimals ≡ true

pub decimals_written : (bytes : List ℕ) → HasDecimals bytes → IsDecimal bytes
decimals_written bytes h =
    let text = h.whole ++ 46 ∷ h.decimals in
    let scale = length h.decimals in
    let place = first_place h.whole h.decimals (numeral_digits h.whole h.before) in
    let front : before_first is_point text ≡ h.whole =
    ap (λ n. take n text) place ∙ take_at h.whole (46 ∷ h.decimals) (length h.whole) refl in
    let back : after_first is_point text ≡ h.decimals =
    ap (λ n. drop (n + 1) text) place
    ∙ ap (drop (length h.whole + 1)) (sym (append_assoc h.whole (46 ∷ []) h.decimals))
    ∙ drop_at (h.whole ++ 46 ∷ []) h.decimals (length h.whole + 1)
    (length-append h.whole (46 ∷ [])) in
    let none = drop_all scale h.decimals (omega arith) in
    let is : units_of scale text ≢ None =
    made (is_numeral text) (is_numeral (before_first is_point text))
    (is_numeral (after_first is_point text))
    (list_all is_zero (drop scale (after_first is_point text))) _ _ (inr (
      ap is_numeral front ∙ h.before,
      ap is_numeral back ∙ h.behind,
      ap (λ xs. list_all is_zero (drop scale xs)) back ∙ ap (list_all is_zero) none,
    )) in
    (scale, subst (λ (xs : List ℕ). units_of scale xs ≢ None) (sym h.split) is)

point_byte : (byte : ℕ) → is_point byte ≡ true → byte ≡ 46
point_byte byte is = grind (arith, nat_tests)

-- Something stands behind the first point, so there is one.
parted : (bytes : List ℕ) → is_numeral (before_first is_point bytes) ≡ true
    → is_numeral (after_first is_point bytes) ≡ true → HasDecimals bytes
parted bytes before behind =
    let place = position_or_len is_point bytes in
    let some = numeral_some (after_first is_point bytes) behind in
    let size = length-drop (place + 1) bytes in
    let within : place < length bytes = omega (arith, some, size) in
    let point = point_byte (get_or bytes place 0) (passes_at_first is_point bytes 0 within) in
    record {
      whole = before_first is_point bytes;
      decimals = after_first is_point bytes;
      split = split_at_first is_point bytes 0 within
          ∙ ap (λ byte. before_first is_point bytes ++ byte ∷ after_first is_point bytes) point;
      before = before;
      behind = behind;
    }

pub decimal_written : (bytes : List ℕ) (scale : ℕ) → units_of scale bytes ≢ None
    → (is_numeral bytes ≡ true) ⊎ HasDecimals bytes
decimal_written bytes scale some = search (rules, parted, parts, is_numeral, is_point, is_zero)

-- A sign begins neither as a blank nor as a word or a number.
abbrev plain_sign : List ℕ → Bool
plain_sign [] = false
plain_sign (b ∷ bs) = not (is_white_space b) && (not (starts_name b) && not (is_ascii_digit b))

sign_plain : (bytes : List ℕ) → Contains signs bytes → plain_sign bytes ≡ true
sign_plain bytes has = subst (λ (xs : List ℕ). plain_sign xs ≡ true) has.2
    (AllPass-from_list_all plain_sign signs refl has.0 bytes has.1)

pub some_sign : Contains signs [] → ⊥
some_sign has = false≢true (sign_plain [] has)

pub sign_parts : (b : ℕ) (bs : List ℕ) → Contains signs (b ∷ bs)
    → (is_white_space b ≡ false) × (starts_name b ≡ false) × (is_ascii_digit b ≡ false)
sign_parts b bs has =
    by (is_white_space b) (starts_name b) (is_ascii_digit b) (sign_plain (b ∷ bs) has)
  where
    by : (blank starts digit : Bool) → (not blank && (not starts && not digit)) ≡ true
        → (blank ≡ false) × (starts ≡ false) × (digit ≡ false)
    by false false false e = (refl, refl, refl)
    by false false true e = absurd (cc)
    by false true digit e = absurd (cc)
    by true starts digit e = absurd (cc)

-- A reserved word has the form of a word.
pub kept_word : (bytes : List ℕ) → IsTrue (is_reserved bytes) → IsWord bytes
kept_word bytes kept = ⊎_elim (λ is. is.word) (λ free. absurd (false≢true (sym free.is ∙ kept)))
    (kept_or bytes)
