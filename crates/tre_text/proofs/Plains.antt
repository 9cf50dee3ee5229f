-- Plain lines, word by word.
use Rattle.std.proofs.Common.{◌≡◌, ℕ, ◌+◌, ◌-◌, ◌<◌, ◌≤◌, Bool, true, false, not, ◌==◌, List, [], ◌∷◌, ◌++◌, append_assoc, length, take, drop, get_or, drop-cons, inl, inr, refl, sym, ap, ◌∙◌, arith}
use Rattle.std.proofs.Math.Seq.{take-add}
use Rattle.std.proofs.lemmas.Bool.{cases_lt, and_from, and_parts}
use Rattle.std.proofs.lemmas.Bool.Decides.{nat_tests}
use Rattle.std.proofs.lemmas.List.{drop-drop}
use Rattle.std.proofs.lemmas.List.Elements.{All-nil, All-cons, All-head, All-tail, All-append, All-push, All-weaker, All-get_or}
use Rattle.std.specs.List.{All, list_all}
use Rattle.std.specs.Char.{is_newline}
use Rattle.std.specs.Str.Lines.{strip_carriage_return}
use Rattle.tre_parts.specs.Bytes.{between}
use Rattle.tre_parts.specs.Walk.{HasNoSeparator}
use Rattle.tre_state.specs.Name.{continues_name}
use Rattle.tre_text.specs.Plain.{IsFront, IsBehindWord}
use Rattle.tre_text.specs.declared.skim.BehindWord.TheVariants.{End}
use Rattle.tre_text.specs.TextReading.{is_blank, fields_among, fields_of}
use Rattle.tre_text.specs.Words.{stops_name}
use Rattle.tre_text.proofs.Fields.{fields-parted, fields-field, with_return, without_return-none, without_return-empty}

-- ---- stretches

pub between-split : (xs : List ℕ) (from mid to : ℕ) → from ≤ mid → mid ≤ to
    → between xs from to ≡ between xs from mid ++ between xs mid to
between-split xs from mid to early late =
    let whole : to - from ≡ (mid - from) + (to - mid) = omega (arith, early, late) in
    let place : from + (mid - from) ≡ mid = omega (arith, early) in
    ap (λ n. take n (drop from xs)) whole
    ∙ take-add (mid - from) (to - mid) (drop from xs)
    ∙ ap (λ rest. between xs from mid ++ take (to - mid) rest)
    (drop-drop (mid - from) from xs ∙ ap (λ n. drop n xs) (omega (arith, early)))

-- ---- bytes

plain_byte : (byte : ℕ) → stops_name byte ≡ false → continues_name byte ≡ true
plain_byte byte is = by (continues_name byte) is where
  by : (b : Bool) → not b ≡ false → b ≡ true
  by true e = refl
  by false e = absurd (cc (e))

unbroken_byte : (byte : ℕ) → continues_name byte ≡ true → is_newline byte ≡ false
unbroken_byte byte is = grind (arith, nat_tests)

return_byte : (byte : ℕ) → continues_name byte ≡ true → (byte == 13) ≡ false
return_byte byte is = grind (arith, nat_tests)

blank_byte : (byte : ℕ) → continues_name byte ≡ true → is_blank byte ≡ false
blank_byte byte is = grind (arith, nat_tests)

blank_unbroken : (byte : ℕ) → is_blank byte ≡ true → is_newline byte ≡ false
blank_unbroken byte is = grind (arith, nat_tests)

blank_no_return : (byte : ℕ) → is_blank byte ≡ true → (byte == 13) ≡ false
blank_no_return byte is = grind (arith, nat_tests)

-- a word between two stops
pub word-whole : (word : List ℕ) → HasNoSeparator stops_name word → list_all continues_name word ≡ true
word-whole [] inside = refl
word-whole (byte ∷ rest) inside =
    and_from (continues_name byte) (list_all continues_name rest)
    (plain_byte byte (All-head (λ b. stops_name b ≡ false) byte rest inside))
    (word-whole rest (All-tail (λ b. stops_name b ≡ false) byte rest inside))

word-unbroken : (word : List ℕ) → HasNoSeparator stops_name word → HasNoSeparator is_newline word
word-unbroken word inside = All-weaker _ _ (λ b is. unbroken_byte b (plain_byte b is)) word inside

word-no_return : (word : List ℕ) → HasNoSeparator stops_name word → HasNoSeparator (λ b. b == 13) word
word-no_return word inside = All-weaker _ _ (λ b is. return_byte b (plain_byte b is)) word inside

word-no_blank : (word : List ℕ) → list_all continues_name word ≡ true
    → All (λ byte. is_blank byte ≡ false) word
word-no_blank [] whole = All-nil (λ byte. is_blank byte ≡ false)
word-no_blank (byte ∷ rest) whole =
    let parts = and_parts (continues_name byte) (list_all continues_name rest) whole in
    All-cons (λ b. is_blank b ≡ false) byte rest (blank_byte byte parts.0)
    (word-no_blank rest parts.1)

pub word-one : (word : List ℕ) → (length word == 0) ≡ false → list_all continues_name word ≡ true
    → fields_among word ≡ word ∷ []
word-one word some whole = fields-field word (record {
  some = grind (arith, nat_tests);
  whole = word-no_blank word whole;
})

-- ---- what stands in front of a place

pub front-none : IsFront [] []
front-none = record {
  unbroken = All-nil (λ byte. is_newline byte ≡ false);
  no_return = All-nil (λ byte. (byte == 13) ≡ false);
  cut = λ back. refl;
}

-- a word and a blank more
pub front-blank : (front word : List ℕ) (fields : List (List ℕ)) (blank : ℕ)
    → IsFront front fields → HasNoSeparator stops_name word → is_blank blank ≡ true
    → IsFront (front ++ (word ++ blank ∷ [])) (fields ++ fields_among word)
front-blank front word fields blank is inside parts = record {
  unbroken = All-append (λ byte. is_newline byte ≡ false) front (word ++ blank ∷ [])
      is.unbroken (All-push (λ byte. is_newline byte ≡ false) word blank (word-unbroken word inside) (blank_unbroken blank parts));
  no_return = All-append (λ byte. (byte == 13) ≡ false) front (word ++ blank ∷ [])
      is.no_return (All-push (λ byte. (byte == 13) ≡ false) word blank (word-no_return word inside) (blank_no_return blank parts));
  cut = λ back.
      ap fields_among (append_assoc front (word ++ blank ∷ []) back
      ∙ ap (λ rest. front ++ rest) (append_assoc word (blank ∷ []) back))
      ∙ is.cut (word ++ blank ∷ back)
      ∙ ap (λ rest. fields ++ rest) (fields-parted word back blank parts)
      ∙ sym (append_assoc fields (fields_among word) (fields_among back));
}

no_return-strips : (line : List ℕ) → HasNoSeparator (λ byte. byte == 13) line
    → strip_carriage_return line ≡ line
no_return-strips line no_return = elim (cases_lt 0 (length line)) [
  | inl some ↦
      let last = All-get_or (λ byte. (byte == 13) ≡ false) line (length line - 1) 0
      (omega (arith, some)) no_return in
      without_return-none line (λ is. grind (arith, nat_tests))
  | inr none ↦ without_return-empty line none
]

-- the line ends behind a word, or behind the carriage return there
pub front-ends : (front word : List ℕ) (fields : List (List ℕ)) → IsFront front fields
    → HasNoSeparator stops_name word → fields_of (front ++ word) ≡ fields ++ fields_among word
front-ends front word fields is inside =
    ap fields_among (no_return-strips (front ++ word)
    (All-append (λ byte. (byte == 13) ≡ false) front word is.no_return (word-no_return word inside)))
    ∙ is.cut word

pub front-returns : (front word : List ℕ) (fields : List (List ℕ)) → IsFront front fields
    → fields_of ((front ++ word) ++ 13 ∷ []) ≡ fields ++ fields_among word
front-returns front word fields is = ap fields_among (with_return (front ++ word)) ∙ is.cut word

-- ---- places

between-one : (xs : List ℕ) (place : ℕ) → place < length xs
    → between xs place (place + 1) ≡ get_or xs place 0 ∷ []
between-one xs place within =
    let one : (place + 1) - place ≡ 1 = omega arith in
    ap (λ n. take n (drop place xs)) one
    ∙ ap (take 1) (drop-cons xs place 0 within)

pub between-same : (xs : List ℕ) (place : ℕ) → between xs place place ≡ []
between-same xs place =
    let none : place - place ≡ 0 = omega arith in
    ap (λ n. take n (drop place xs)) none

-- a blank behind the word at this place
pub open-blank : (bytes : List ℕ) (from start place : ℕ) (fields : List (List ℕ)) → from ≤ start
    → start ≤ place → place < length bytes
    → IsFront (between bytes from start) fields → HasNoSeparator stops_name (between bytes start place)
    → is_blank (get_or bytes place 0) ≡ true
    → IsFront (between bytes from (place + 1)) (fields ++ fields_among (between bytes start place))
open-blank bytes from start place fields early late within is inside blank =
    let whole : between bytes from (place + 1) ≡ between bytes from start
    ++ (between bytes start place ++ get_or bytes place 0 ∷ []) =
    between-split bytes from start (place + 1) early (omega (arith, late))
    ∙ ap (λ rest. between bytes from start ++ rest)
    (between-split bytes start place (place + 1) late (omega arith)
    ∙ ap (λ rest. between bytes start place ++ rest) (between-one bytes place within)) in
    rw whole (front-blank (between bytes from start) (between bytes start place) fields
    (get_or bytes place 0) is inside blank)

-- What a line is that ends behind the word at this place.
pub record IsWhole (part : List ℕ) (fields : List (List ℕ)) : Type 0 where
  pub unbroken : HasNoSeparator is_newline part
  pub are : fields_of part ≡ fields

pub open-ends : (bytes : List ℕ) (from start place end : ℕ) (fields : List (List ℕ))
    → from ≤ start → start ≤ place → place < length bytes
    → IsFront (between bytes from start) fields → HasNoSeparator stops_name (between bytes start place)
    → IsBehindWord bytes place (End end)
    → IsWhole (between bytes from end) (fields ++ fields_among (between bytes start place))
open-ends bytes from start place end fields early late within is inside ends =
    let front = between bytes from start in
    let word = between bytes start place in
    let whole : between bytes from place ≡ front ++ word =
    between-split bytes from start place early late in
    let unbroken : HasNoSeparator is_newline (front ++ word) =
    All-append (λ byte. is_newline byte ≡ false) front word is.unbroken (word-unbroken word inside) in
    elim ends.1.1 [
      | inl same ↦ rw (same, whole) (record {
        unbroken = unbroken;
        are = front-ends front word fields is inside;
      })
      | inr behind ↦
          let with : between bytes from (place + 1) ≡ (front ++ word) ++ 13 ∷ [] =
          between-split bytes from place (place + 1) (omega (arith, early, late)) (omega arith)
          ∙ ap (λ rest. rest ++ between bytes place (place + 1)) whole
          ∙ ap (λ rest. (front ++ word) ++ rest) (between-one bytes place within
          ∙ ap (λ byte. byte ∷ []) behind.0) in
          rw (behind.1, with) (record {
            unbroken = All-push (λ byte. is_newline byte ≡ false) (front ++ word) 13 unbroken refl;
            are = front-returns front word fields is;
          })
    ]
