-- What stands behind a signal's text is read in one way.
use Rattle.std.proofs.Common.{codes, ◌≡◌, ℕ, ◌<◌, Bool, true, false, Option, Some, None, List, [], ◌∷◌, ◌++◌, length, take, drop, refl, sym, ap, subst, ◌∙◌, arith, rules}
use Rattle.std.specs.Prelude.{◌==◌, ◌&&◌, ◌||◌, nat_lt, not, option_map, if◌then◌else◌}
use Rattle.std.specs.Char.{is_ascii_digit, is_digit}
use Rattle.std.specs.List.{list_all, prefix_len}
use Rattle.std.specs.Str.{bytes_eq}
use Rattle.std.proofs.lemmas.Slice.Eq.{bytes_eq-Decides}
use Rattle.std.proofs.lemmas.Bool.Decides.{nat_tests}
use Rattle.std.proofs.lemmas.List.{append-nil, drop_at, take-append-drop, take_at}
use Rattle.std.proofs.lemmas.Option.{none-some}
use Rattle.tre_state.specs.Name.{continues_name}
use Rattle.tre_define.specs.declared.comparison.Comparison.{Comparison}
use Rattle.tre_define.specs.declared.comparison.Comparison.TheVariants.{Less, AtMost, Greater, AtLeast, Equal, Unequal}
use Rattle.tre_define.specs.declared.reads.Reads.{Reads}
use Rattle.tre_define.specs.declared.reads.Reads.TheVariants.{Beside, Bit, Changes, Compared, Has}
use Rattle.tre_define.specs.Behind.{ReadBehind, alone, is_changes_word, last_number, last_signal, letter_alone, letter_behind, read_behind, read_compared, read_signed, read_spaced}
use Rattle.tre_define.specs.Pieces.{Signed, behind_piece, past_spaces, piece, sign_in}
use Rattle.tre_define.specs.Signals.{IsReadBehind, IsSignal, based, begins_number, is_letter, is_no_space, number_in, signal_len}
use Rattle.tre_define.specs.Texts.{IsSpaced, is_space, sign_text}
use Rattle.tre_define.proofs.Cutting.{Stops, alone-is, empty, first, second, sign-is, sign-splits, sign-stops, some-same, spaces, spaces-past, spaced-alone, split-spaces, starts-run, stops-spaces}
use Rattle.tre_define.proofs.SignalLength.{front-number, more-number, signal-alone, signal-ends, signal-first}

-- ---- the bytes of numbers

-- a byte of a number: no space and no `=`
abbrev pub is_plain : ℕ → Bool
is_plain byte = not (byte == 32) && not (byte == 61)

-- bytes that pass a test which spaces and `=` don't are such
plain : (test : ℕ → Bool) (byte : ℕ) → test 32 ≡ false → test 61 ≡ false → test byte ≡ true
    → is_plain byte ≡ true
plain test byte space equals passes = search rules

all-plain : (test : ℕ → Bool) (bytes : List ℕ) → test 32 ≡ false → test 61 ≡ false
    → list_all test bytes ≡ true → list_all is_plain bytes ≡ true
all-plain test [] space equals all = refl
all-plain test (byte ∷ bytes) space equals all =
    rw (
      plain test byte space equals (first (test byte) (list_all test bytes) all),
      all-plain test bytes space equals (second (test byte) (list_all test bytes) all),
    )
    refl

-- where a choice is some, its tests hold
chosen : (a b c : Bool) (x y : ℕ) → (if a && b && c then Some x else None) ≡ Some y
    → (a ≡ true) × (b ≡ true)
chosen true true c x y e = (refl, refl)
chosen true false c x y e = cc
chosen false b c x y e = cc

based-digits : (base : ℕ) (digits : List ℕ) (number : ℕ) → based base digits ≡ Some number
    → (nat_lt 0 (length digits) ≡ true) × (list_all (λ byte. is_digit byte base) digits ≡ true)
based-digits base digits number is = search rules

-- What a number is written with.
record IsPlain (digits : List ℕ) : Type 0 where
  pub all : list_all is_plain digits ≡ true
  pub some : 0 < length digits

plain-decimal : (byte : ℕ) (bytes : List ℕ) (number : ℕ)
    → based 10 (byte ∷ bytes) ≡ Some number → IsPlain (byte ∷ bytes)
plain-decimal byte bytes number is = record {
  all = all-plain (λ b. is_digit b 10) (byte ∷ bytes) refl refl
      (based-digits 10 (byte ∷ bytes) number is).1;
  some = omega arith;
}

decimal-begins : (byte : ℕ) (bytes : List ℕ) (number : ℕ)
    → based 10 (byte ∷ bytes) ≡ Some number
    → (is_ascii_digit byte || byte == 43 || byte == 45) ≡ true
decimal-begins byte bytes number is =
    let digit : is_digit byte 10 ≡ true =
    first (is_digit byte 10) (list_all (λ b. is_digit b 10) bytes)
    (based-digits 10 (byte ∷ bytes) number is).1 in
    grind (arith, nat_tests)

plain-behind : (byte next : ℕ) (digits : List ℕ) → is_plain byte ≡ true → is_plain next ≡ true
    → list_all is_plain digits ≡ true → IsPlain (byte ∷ next ∷ digits)
plain-behind byte next digits one two all = search rules

number-plain : (digits : List ℕ) (number : ℕ) → number_in digits ≡ Some number
    → IsPlain digits
number-plain [] number is = cc
number-plain (byte ∷ []) number is = plain-decimal byte [] number is
number-plain (byte ∷ next ∷ digits) number is =
    by (byte == 48) refl (next == 120) refl (next == 98) refl is
  where
    by : (starts : Bool) → (byte == 48) ≡ starts → (hex : Bool) → (next == 120) ≡ hex
        → (binary : Bool) → (next == 98) ≡ binary
        → (if starts && hex then based 16 digits
        else (if starts && binary then based 2 digits else based 10 (byte ∷ next ∷ digits)))
        ≡ Some number → IsPlain (byte ∷ next ∷ digits)
    by true z true h b e is =
        let one : byte ≡ 48 = grind (arith, nat_tests) in
        let two : next ≡ 120 = grind (arith, nat_tests) in
        plain-behind byte next digits (ap is_plain one) (ap is_plain two)
        (all-plain (λ b. is_digit b 16) digits refl refl (based-digits 16 digits number is).1)
    by true z false h true e is =
        let one : byte ≡ 48 = grind (arith, nat_tests) in
        let two : next ≡ 98 = grind (arith, nat_tests) in
        plain-behind byte next digits (ap is_plain one) (ap is_plain two)
        (all-plain (λ b. is_digit b 2) digits refl refl (based-digits 2 digits number is).1)
    by true z false h false e is = plain-decimal byte (next ∷ digits) number is
    by false z h _ b e is = plain-decimal byte (next ∷ digits) number is

plain-no_space : (bytes : List ℕ) → list_all is_plain bytes ≡ true
    → list_all is_no_space bytes ≡ true
plain-no_space [] all = refl
plain-no_space (byte ∷ bytes) all =
    let here = first (is_plain byte) (list_all is_plain bytes) all in
    rw (
      first (not (byte == 32)) (not (byte == 61)) here,
      plain-no_space bytes (second (is_plain byte) (list_all is_plain bytes) all),
    )
    refl

plain-starts : (digits rest : List ℕ) → IsPlain digits
    → Stops (λ byte. byte == 61) (digits ++ rest)
plain-starts [] rest is = absurd (omega (arith, is.some))
plain-starts (byte ∷ digits) rest is = search rules

-- a number begins with a digit
number-begins : (digits : List ℕ) (number : ℕ) (tail : List ℕ) → number_in digits ≡ Some number
    → begins_number (digits ++ tail) ≡ true
number-begins [] number tail is = cc
number-begins (byte ∷ []) number tail is = decimal-begins byte [] number is
number-begins (byte ∷ next ∷ digits) number tail is =
    by (byte == 48) refl (next == 120) (next == 98) is
  where
    by : (starts : Bool) → (byte == 48) ≡ starts → (hex binary : Bool)
        → (if starts && hex then based 16 digits
        else (if starts && binary then based 2 digits else based 10 (byte ∷ next ∷ digits)))
        ≡ Some number → (is_ascii_digit byte || byte == 43 || byte == 45) ≡ true
    by true z hex binary is =
        let zero : byte ≡ 48 = grind (arith, nat_tests) in
        ap (λ b. is_ascii_digit b || b == 43 || b == 45) zero
    by false z hex binary is = decimal-begins byte (next ∷ digits) number is

-- ---- what a text begins with

-- Behind spaces the text begins with a part, and others stand behind that.
pub record Begins (part : List ℕ) (parts : List (List ℕ)) (text : List ℕ) : Type 0 where
  pub rest : List ℕ
  pub is : past_spaces text ≡ part ++ rest
  pub spaced : IsSpaced parts rest

pub begins : (part : List ℕ) (parts : List (List ℕ)) (text : List ℕ)
    → ((rest : List ℕ) → Stops is_space (part ++ rest)) → IsSpaced (part ∷ parts) text
    → Begins part parts text
begins part parts text stops is = record {
  rest = is.1;
  is = ap past_spaces is.2 ∙ spaces-past is.0 (part ++ is.1) (stops is.1);
  spaced = is.3;
}

pub spaced-by : (part : List ℕ) (parts : List (List ℕ)) (text : List ℕ) → Begins part parts text
    → IsSpaced (part ∷ parts) text
spaced-by part parts text is = (
  prefix_len is_space text,
  is.rest,
  split-spaces text ∙ ap (λ xs. spaces (prefix_len is_space text) ++ xs) is.is,
  is.spaced,
)

pub none-left : (text : List ℕ) → IsSpaced [] text → past_spaces text ≡ []
none-left text is =
    ap past_spaces (is.1 ∙ sym (append-nil (spaces is.0))) ∙ spaces-past is.0 [] tt

pub all-spaces : (text : List ℕ) → past_spaces text ≡ [] → IsSpaced [] text
all-spaces text none =
    let count = prefix_len is_space text in (
      count,
      split-spaces text ∙ ap (λ xs. spaces count ++ xs) none ∙ append-nil (spaces count),
    )

-- ---- numbers

-- A number that is the text, with spaces round it.
pub record IsLast (text : List ℕ) (number : ℕ) : Type 0 where
  pub digits : List ℕ
  pub value : number_in digits ≡ Some number
  pub spaced : IsSpaced (digits ∷ []) text

number-last : (text : List ℕ) (number : ℕ) → last_number text ≡ Some number
    → IsLast text number
number-last text number is = by (length (behind_piece is_no_space text) == 0) refl is where
  by : (end : Bool) → (length (behind_piece is_no_space text) == 0) ≡ end
      → (if end then number_in (piece is_no_space text) else None) ≡ Some number
      → IsLast text number
  by true e is = record {
    digits = piece is_no_space text;
    value = is;
    spaced = spaced-alone is_no_space text (empty (behind_piece is_no_space text) e);
  }
  by false e is = cc

last-number : (text digits : List ℕ) (number : ℕ) → number_in digits ≡ Some number
    → IsSpaced (digits ∷ []) text → last_number text ≡ Some number
last-number text digits number value spaced =
    let is = number-plain digits number value in
    let alone = alone-is is_no_space text digits refl (plain-no_space digits is.all) is.some spaced
    in
    ap (λ end. if length end == 0 then number_in (piece is_no_space text) else None) alone.end
    ∙ ap number_in alone.run_is
    ∙ value

-- ---- the word for changes

changes-spaced : (text : List ℕ) → is_changes_word text ≡ true
    → IsSpaced (codes "changes" ∷ []) text
changes-spaced text is =
    let word = piece continues_name text in
    let same : word ≡ codes "changes" =
    (bytes_eq-Decides word (codes "changes")).0 (first (bytes_eq word (codes "changes"))
    (length (behind_piece continues_name text) == 0) is) in
    let end = empty (behind_piece continues_name text) (second (bytes_eq word (codes "changes"))
    (length (behind_piece continues_name text) == 0) is) in
    subst (λ run. IsSpaced (run ∷ []) text) same (spaced-alone continues_name text end)

spaced-changes : (text : List ℕ) → IsSpaced (codes "changes" ∷ []) text
    → is_changes_word text ≡ true
spaced-changes text spaced =
    let alone = alone-is continues_name text (codes "changes") refl refl (omega arith) spaced in
    ap (λ word. bytes_eq word (codes "changes")
    && length (behind_piece continues_name text) == 0) alone.run_is
    ∙ ap (λ end. bytes_eq (codes "changes") (codes "changes") && length end == 0) alone.end

-- ---- letters

-- A letter that is the text, with spaces behind it.
letter-stops : (letter : ℕ) (rest : List ℕ) → is_letter letter ≡ true
    → Stops is_space (letter ∷ rest)
letter-stops letter rest is = grind (arith, nat_tests)

letter-alone : (text : List ℕ) (letter : ℕ) → letter_alone text ≡ Some letter
    → (rest : List ℕ) × (text ≡ letter ∷ rest) × (is_letter letter ≡ true)
    × IsSpaced [] rest
letter-alone [] letter is = cc
letter-alone (byte ∷ rest) letter is =
    by (is_letter byte) refl (length (past_spaces rest) == 0) refl is where
      by : (is : Bool) → is_letter byte ≡ is → (end : Bool)
          → (length (past_spaces rest) == 0) ≡ end
          → (if is && end then Some byte else None) ≡ Some letter
          → (rest' : List ℕ) × (byte ∷ rest ≡ letter ∷ rest') × (is_letter letter ≡ true)
          × IsSpaced [] rest'
      by true e true end is =
          let same = some-same byte letter is in (
            rest,
            ap (λ b. b ∷ rest) same,
            ap is_letter (sym same) ∙ e,
            all-spaces rest (empty (past_spaces rest) end),
          )
      by true e false end is = cc
      by false e end ends is = cc

alone-letter : (letter : ℕ) (rest : List ℕ) → is_letter letter ≡ true → IsSpaced [] rest
    → letter_alone (letter ∷ rest) ≡ Some letter
alone-letter letter rest is end =
    ap (λ t. if t && length (past_spaces rest) == 0 then Some letter else None) is
    ∙ ap (λ left. if length left == 0 then Some letter else None) (none-left rest end)

letter-spaced : (behind : List ℕ) (letter : ℕ)
    → letter_behind (past_spaces behind) ≡ Some letter
    → IsReadBehind (Has letter) [] behind
letter-spaced behind letter is =
    by (past_spaces behind) refl (bytes_eq (take 4 (past_spaces behind)) (codes "has ")) refl is
  where
    by : (text : List ℕ) → past_spaces behind ≡ text → (has : Bool)
        → bytes_eq (take 4 text) (codes "has ") ≡ has
        → (if has then letter_alone (past_spaces (drop 4 text)) else None) ≡ Some letter
        → IsReadBehind (Has letter) [] behind
    by text at true e is =
        let alone = letter-alone (past_spaces (drop 4 text)) letter is in
        let front : take 4 text ≡ codes "has " = (bytes_eq-Decides (take 4 text) (codes "has ")).0 e
        in (
          refl,
          alone.2,
          spaced-by (codes "has ") ((letter ∷ []) ∷ []) behind (record {
            rest = drop 4 text;
            is = at ∙ sym (take-append-drop 4 text) ∙ ap (λ xs. xs ++ drop 4 text) front;
            spaced = spaced-by (letter ∷ []) [] (drop 4 text) (record {
              rest = alone.0;
              is = alone.1;
              spaced = alone.3;
            });
          }),
        )
    by text at false e is = cc

-- ---- the text of another signal

-- what stands behind the spaces begins with no byte of a number, and is a signal's text
signal-spaced : (rest other : List ℕ) → begins_number (past_spaces rest) ≡ false
    → last_signal (past_spaces rest) ≡ Some other
    → IsSignal other [] × (begins_number other ≡ false) × IsSpaced (other ∷ []) rest
signal-spaced rest other number is =
    by (past_spaces rest) refl (nat_lt 0 (signal_len (past_spaces rest))) refl
    (length (past_spaces (drop (signal_len (past_spaces rest)) (past_spaces rest))) == 0) refl is
  where
    by : (text : List ℕ) → past_spaces rest ≡ text → (some : Bool)
        → nat_lt 0 (signal_len text) ≡ some → (end : Bool)
        → (length (past_spaces (drop (signal_len text) text)) == 0) ≡ end
        → (if some && end then Some (take (signal_len text) text) else None) ≡ Some other
        → IsSignal other [] × (begins_number other ≡ false) × IsSpaced (other ∷ []) rest
    by text at true some true end is =
        let tail = drop (signal_len text) text in
        let same = some-same (take (signal_len text) text) other is in
        let positive : 0 < signal_len text = grind (arith, nat_tests) in
        subst (λ it. IsSignal it [] × (begins_number it ≡ false) × IsSpaced (it ∷ []) rest) same (
          signal-alone text positive,
          front-number text (signal_len text) positive ∙ sym (ap begins_number at) ∙ number,
          spaced-by (take (signal_len text) text) [] rest (record {
            rest = tail;
            is = at ∙ sym (take-append-drop (signal_len text) text);
            spaced = all-spaces tail (empty (past_spaces tail) end);
          }),
        )
    by text at true some false end is = cc
    by text at false some end ends is = cc

spaced-signal : (other : List ℕ) (count : ℕ) → IsSignal other []
    → last_signal (other ++ spaces count) ≡ Some other
spaced-signal other count is =
    let text = other ++ spaces count in
    let len : signal_len text ≡ length other =
    signal-ends other count (ap signal_len (sym (append-nil other)) ∙ is.all) in
    let some : nat_lt 0 (signal_len text) ≡ true =
    ap (nat_lt 0) len ∙ grind (arith, nat_tests, is.some) in
    let front : take (signal_len text) text ≡ other =
    ap (λ n. take n text) len ∙ take_at other (spaces count) (length other) refl in
    let back : past_spaces (drop (signal_len text) text) ≡ [] =
    ap (λ n. past_spaces (drop n text)) len
    ∙ ap past_spaces (drop_at other (spaces count) (length other) refl)
    ∙ none-left (spaces count) (count, refl) in
    ap (λ t. if t && length (past_spaces (drop (signal_len text) text)) == 0
    then Some (take (signal_len text) text) else None) some
    ∙ ap (λ left. if length left == 0 then Some (take (signal_len text) text) else None) back
    ∙ ap Some front

-- ---- what stands behind is read as it should be

module _ (behind : List ℕ) where
  -- This is what is read.
  abbrev Is : ReadBehind → Type 0
  Is read = IsReadBehind read.reads read.other behind

  numbered : (signed : Signed) → sign_in (past_spaces behind) ≡ Some signed
      → (number : Option ℕ) → last_number signed.rest ≡ number → (read : ReadBehind)
      → option_map (λ number. alone (Compared signed.comparison number)) number ≡ Some read
      → Is read
  numbered signed sign None e read is = cc
  numbered signed sign (Some number) e read is =
      let last = number-last signed.rest number e in
      subst Is (some-same (alone (Compared signed.comparison number)) read is) (
        refl,
        last.digits,
        last.value,
        spaced-by (sign_text signed.comparison) (last.digits ∷ []) behind (record {
          rest = signed.rest;
          is = sign-splits (past_spaces behind) signed sign;
          spaced = last.spaced;
        }),
      )

  besides : (signed : Signed) → sign_in (past_spaces behind) ≡ Some signed
      → begins_number (past_spaces signed.rest) ≡ false → (other : Option (List ℕ))
      → last_signal (past_spaces signed.rest) ≡ other → (read : ReadBehind)
      → option_map (λ other. record { reads = Beside signed.comparison; other = other }) other
      ≡ Some read → Is read
  besides signed sign number None e read is = cc
  besides signed sign number (Some other) e read is =
      let one = signal-spaced signed.rest other number e in
      subst Is (some-same (record { reads = Beside signed.comparison; other = other }) read is) (
        one.0,
        one.1,
        spaced-by (sign_text signed.comparison) (other ∷ []) behind (record {
          rest = signed.rest;
          is = sign-splits (past_spaces behind) signed sign;
          spaced = one.2;
        }),
      )

  compared : (signed : Signed) → sign_in (past_spaces behind) ≡ Some signed → (number : Bool)
      → begins_number (past_spaces signed.rest) ≡ number → (read : ReadBehind)
      → (if number
      then option_map (λ number. alone (Compared signed.comparison number))
      (last_number signed.rest)
      else option_map (λ other. record { reads = Beside signed.comparison; other = other })
      (last_signal (past_spaces signed.rest))) ≡ Some read
      → Is read
  compared signed sign true e read is =
      numbered signed sign (last_number signed.rest) refl read is
  compared signed sign false e read is =
      besides signed sign e (last_signal (past_spaces signed.rest)) refl read is

  lettered : (letter : Option ℕ) → letter_behind (past_spaces behind) ≡ letter
      → (read : ReadBehind) → option_map alone (option_map Has letter) ≡ Some read → Is read
  lettered None e read is = cc
  lettered (Some letter) e read is =
      subst Is (some-same (alone (Has letter)) read is) (letter-spaced behind letter e)

  worded : (changes : Bool) → is_changes_word behind ≡ changes → (read : ReadBehind)
      → option_map alone (if changes then Some Changes
      else option_map Has (letter_behind (past_spaces behind))) ≡ Some read
      → Is read
  worded true e read is =
      subst Is (some-same (alone Changes) read is) (refl, changes-spaced behind e)
  worded false e read is = lettered (letter_behind (past_spaces behind)) refl read is

  signed : (sign : Option Signed) → sign_in (past_spaces behind) ≡ sign → (read : ReadBehind)
      → read_signed behind sign ≡ Some read → Is read
  signed None e read is = worded (is_changes_word behind) refl read is
  signed (Some one) e read is = compared one e (begins_number (past_spaces one.rest)) refl read is

  spaced : (text : List ℕ) → past_spaces behind ≡ text → (read : ReadBehind)
      → read_spaced behind text ≡ Some read → Is read
  spaced [] e read is = subst Is (some-same (alone Bit) read is) (refl, all-spaces behind e)
  spaced (byte ∷ bytes) e read is =
      signed (sign_in (past_spaces behind)) refl read (ap (read_signed behind) (ap sign_in e) ∙ is)

  pub read-is : (read : ReadBehind) → read_behind behind ≡ Some read → Is read
  read-is read is = spaced (past_spaces behind) refl read is

-- ---- and it is all that can be

-- what is read behind a sign
behind-sign : (behind : List ℕ) (comparison : Comparison) (rest : List ℕ)
    → past_spaces behind ≡ sign_text comparison ++ rest → Stops (λ byte. byte == 61) rest
    → read_behind behind ≡ read_compared comparison rest
behind-sign behind comparison rest is stops =
    ap (read_spaced behind) is ∙ some comparison
    ∙ ap (read_signed behind) (sign-is comparison rest stops)
  where
    some : (comparison : Comparison) → read_spaced behind (sign_text comparison ++ rest)
        ≡ read_signed behind (sign_in (sign_text comparison ++ rest))
    some Less = refl
    some AtMost = refl
    some Greater = refl
    some AtLeast = refl
    some Equal = refl
    some Unequal = refl

number-read : (behind digits : List ℕ) (comparison : Comparison) (number : ℕ)
    → number_in digits ≡ Some number
    → IsSpaced (sign_text comparison ∷ digits ∷ []) behind
    → read_behind behind ≡ Some (alone (Compared comparison number))
number-read behind digits comparison number value is =
    let plain = number-plain digits number value in
    let sign = begins (sign_text comparison) (digits ∷ []) behind
    (λ rest. (sign-stops comparison rest).1) is in
    let last = sign.spaced in
    let start = begins digits [] sign.rest
    (λ rest. starts-run is_no_space digits rest refl (plain-no_space digits plain.all) plain.some)
    last in
    let stops : Stops (λ byte. byte == 61) sign.rest =
    subst (λ xs. Stops (λ byte. byte == 61) xs) (sym last.2)
    (stops-spaces (λ byte. byte == 61) last.0 (digits ++ last.1) refl
    (plain-starts digits last.1 plain)) in
    behind-sign behind comparison sign.rest sign.is stops
    ∙ ap (λ t. if t
    then option_map (λ number. alone (Compared comparison number)) (last_number sign.rest)
    else option_map (λ other. record { reads = Beside comparison; other = other })
    (last_signal (past_spaces sign.rest)))
    (ap begins_number start.is ∙ number-begins digits number start.rest value)
    ∙ ap (option_map (λ number. alone (Compared comparison number)))
    (last-number sign.rest digits number value last)

signal-read : (behind other : List ℕ) (comparison : Comparison) → IsSignal other []
    → begins_number other ≡ false → IsSpaced (sign_text comparison ∷ other ∷ []) behind
    → read_behind behind ≡ Some (record { reads = Beside comparison; other = other })
signal-read behind other comparison signal number is =
    let sign = begins (sign_text comparison) (other ∷ []) behind
    (λ rest. (sign-stops comparison rest).1) is in
    let last = sign.spaced in
    let start = begins other [] sign.rest (λ rest. (signal-first other rest signal).0) last in
    let stops : Stops (λ byte. byte == 61) sign.rest =
    subst (λ xs. Stops (λ byte. byte == 61) xs) (sym last.2)
    (stops-spaces (λ byte. byte == 61) last.0 (other ++ last.1) refl
    (signal-first other last.1 signal).1) in
    let end = start.spaced in
    let text : past_spaces sign.rest ≡ other ++ spaces end.0 =
    start.is ∙ ap (λ xs. other ++ xs) end.1 in
    behind-sign behind comparison sign.rest sign.is stops
    ∙ ap (λ t. if t
    then option_map (λ number. alone (Compared comparison number)) (last_number sign.rest)
    else option_map (λ other. record { reads = Beside comparison; other = other })
    (last_signal (past_spaces sign.rest)))
    (ap begins_number start.is ∙ more-number other start.rest signal.some ∙ number)
    ∙ ap (option_map (λ other. record { reads = Beside comparison; other = other }))
    (ap last_signal text ∙ spaced-signal other end.0 signal)

changes-read : (behind : List ℕ) → IsSpaced (codes "changes" ∷ []) behind
    → read_behind behind ≡ Some (alone Changes)
changes-read behind is =
    let word = begins (codes "changes") [] behind (λ rest. refl) is in
    ap (read_spaced behind) word.is
    ∙ ap (λ t. option_map alone (if t then Some Changes
    else option_map Has (letter_behind (past_spaces behind)))) (spaced-changes behind is)

letter-read : (behind : List ℕ) (letter : ℕ) → is_letter letter ≡ true
    → IsSpaced (codes "has " ∷ (letter ∷ []) ∷ []) behind
    → read_behind behind ≡ Some (alone (Has letter))
letter-read behind letter letters is =
    let word = begins (codes "has ") ((letter ∷ []) ∷ []) behind (λ rest. refl) is in
    let one = begins (letter ∷ []) [] word.rest (λ rest. letter-stops letter rest letters)
    word.spaced in
    let other : is_changes_word behind ≡ false =
    ap (λ text. bytes_eq (take (prefix_len continues_name text) text) (codes "changes")
    && length (past_spaces (drop (prefix_len continues_name text) text)) == 0) word.is in
    let told : letter_behind (past_spaces behind) ≡ Some letter =
    ap letter_behind word.is ∙ ap letter_alone one.is
    ∙ alone-letter letter one.rest letters one.spaced in
    ap (read_spaced behind) word.is
    ∙ ap (λ t. option_map alone (if t then Some Changes
    else option_map Has (letter_behind (past_spaces behind)))) other
    ∙ ap (λ letter. option_map alone (option_map Has letter)) told

-- the text of no other signal
without : (reads : Reads) (behind other : List ℕ) → other ≡ []
    → read_behind behind ≡ Some (alone reads)
    → read_behind behind ≡ Some (record { reads = reads; other = other })
without reads behind other none is =
    is ∙ ap (λ xs. Some (record { reads = reads; other = xs })) (sym none)

pub is-read : (behind : List ℕ) (reads : Reads) (other : List ℕ)
    → IsReadBehind reads other behind
    → read_behind behind ≡ Some (record { reads = reads; other = other })
is-read behind Bit other is =
    without Bit behind other is.0 (ap (read_spaced behind) (none-left behind is.1))
is-read behind (Compared comparison number) other is =
    without (Compared comparison number) behind other is.0
    (number-read behind is.1 comparison number is.2 is.3)
is-read behind Changes other is =
    without Changes behind other is.0 (changes-read behind is.1)
is-read behind (Has letter) other is =
    without (Has letter) behind other is.0 (letter-read behind letter is.1 is.2)
is-read behind (Beside comparison) other is =
    signal-read behind other comparison is.0 is.1 is.2

-- ---- so it is read in one way

pub nothing-read : (behind : List ℕ) → read_behind behind ≡ None → (reads : Reads)
    → (other : List ℕ) → IsReadBehind reads other behind → ⊥
nothing-read behind none reads other is = none-some _ (sym none ∙ is-read behind reads other is)

pub same-reads : (behind : List ℕ) (one two : Reads) (other others : List ℕ)
    → IsReadBehind one other behind → IsReadBehind two others behind
    → (one ≡ two) × (other ≡ others)
same-reads behind one two other others is also =
    let same = some-same (record { reads = one; other = other })
    (record { reads = two; other = others })
    (sym (is-read behind one other is) ∙ is-read behind two others also) in
    (ap (λ read. read.reads) same, ap (λ read. read.other) same)
