-- How a line is cut into fields.
use Rattle.std.proofs.Common.{◌≡◌, ◌≢◌, ℕ, ◌+◌, ◌-◌, ◌<◌, ◌≤◌, nat_lt, Bool, true, false, not, cond, ◌&&◌, ◌==◌, if◌then◌else◌, List, [], ◌∷◌, ◌++◌, append-nil, length, get_or, take, drop, refl, sym, ap, subst, ◌∙◌, arith, length-take}
use Rattle.std.proofs.Math.Seq.{get_or-append_seam, take-append_seam, take-length}
use Rattle.std.specs.List.{filter, slice_split, position_or_len}
use Rattle.std.specs.Str.Lines.{strip_carriage_return}
use Rattle.std.proofs.lemmas.Bool.{and_parts}
use Rattle.std.proofs.lemmas.Bool.Decides.{nat_tests}
use Rattle.std.proofs.lemmas.List.{get_or-take, length-drop, length_push, take-take}
use Rattle.std.proofs.lemmas.List.Elements.{All-from_get_or}
use Rattle.std.proofs.lemmas.List.Splits.{slice_split-cons_yes, slice_split_none, slice_split_first}
use Rattle.std.proofs.lemmas.List.Sums.{fails_before_first}
use Rattle.tre_parts.specs.Walk.{HasNoSeparator, SeparatedAt}
use Rattle.tre_parts.specs.Joins.{join_parts, HasFirst, slice_split-has, slice_split-append}
use Rattle.tre_text.specs.TraceLines.{IsField}
use Rattle.tre_text.specs.TextReading.{is_blank, fields_among}

-- ---- the carriage return at the end of a line

is_other : (byte : ℕ) → byte ≢ 13 → (byte == 13) ≡ false
is_other byte other = grind (arith, nat_tests)

pub without_return-last : (line : List ℕ) → get_or line (length line - 1) 0 ≡ 13
    → strip_carriage_return line ≡ take (length line - 1) line
without_return-last line return =
    ap (λ (byte : ℕ). if byte == 13 then take (length line - 1) line else line) return

pub without_return-empty : (line : List ℕ) → length line ≤ 0 → strip_carriage_return line ≡ line
without_return-empty [] none = refl
without_return-empty (byte ∷ bytes) none = absurd (omega (arith, none))

pub without_return-none : (line : List ℕ) → get_or line (length line - 1) 0 ≢ 13
    → strip_carriage_return line ≡ line
without_return-none line other =
    ap (λ (is : Bool). if is then take (length line - 1) line else line)
    (is_other (get_or line (length line - 1) 0) other)

pub with_return : (line : List ℕ) → strip_carriage_return (line ++ 13 ∷ []) ≡ line
with_return line =
    let last : length (line ++ 13 ∷ []) - 1 ≡ length line = omega (arith, length_push line 13) in
    without_return-last (line ++ 13 ∷ [])
    (ap (λ n. get_or (line ++ 13 ∷ []) n 0) last ∙ get_or-append_seam line 13 [] 0)
    ∙ ap (λ n. take n (line ++ 13 ∷ [])) last ∙ take-append_seam line (13 ∷ [])

-- ---- fields

-- those of the parts that have bytes
abbrev with_bytes : List (List ℕ) → List (List ℕ)
with_bytes parts = filter (λ part. nat_lt 0 (length part)) parts

positive : (n : ℕ) → 0 < n → nat_lt 0 n ≡ true
positive n some = grind (arith, nat_tests)

with_bytes-cons : (part : List ℕ) (parts : List (List ℕ)) → 0 < length part → with_bytes
    (part ∷ parts) ≡ part ∷ with_bytes parts
with_bytes-cons part parts some =
    ap (λ (has : Bool). cond has (part ∷ with_bytes parts) (with_bytes parts))
    (positive (length part) some)

-- bytes without a blank are one field
pub fields-one : (bytes : List ℕ) → 0 < length bytes → position_or_len is_blank bytes ≡ length bytes
    → fields_among bytes ≡ bytes ∷ []
fields-one bytes some end =
    ap with_bytes (slice_split_none is_blank bytes
    (All-from_get_or (λ byte. is_blank byte ≡ false) bytes 0 (λ k below. fails_before_first
    is_blank bytes k 0 (omega (arith, below, end)))))
    ∙ with_bytes-cons bytes [] some

-- the first field ends at the first blank
pub fields-cut : (bytes : List ℕ) (k : ℕ) → k ≡ position_or_len is_blank bytes → 0 < k → k < length
    bytes
    → fields_among bytes ≡ take k bytes ∷ fields_among (drop (k + 1) bytes)
fields-cut bytes k is some below =
    let short : position_or_len is_blank bytes < length bytes = omega (arith, is, below) in
    ap with_bytes (slice_split_first is_blank bytes 0 short ∙ ap (λ n. take n bytes ∷ slice_split
    is_blank (drop (n + 1) bytes)) (sym is))
    ∙ with_bytes-cons (take k bytes) (slice_split is_blank (drop (k + 1) bytes))
    (omega (arith, length-take k bytes))

not_blank : (b : Bool) → not b ≡ true → b ≡ false
not_blank true is = cc (is)
not_blank false is = refl

-- a byte with a blank behind it is the first field
pub byte_field : (bytes : List ℕ)
    → (nat_lt 1 (length bytes)
    && (not (is_blank (get_or bytes 0 0)) && is_blank (get_or bytes 1 0))) ≡ true
    → fields_among bytes ≡ take 1 bytes ∷ fields_among (drop 2 bytes)
byte_field [] is = cc (is)
byte_field (first ∷ []) is = cc (is)
byte_field (first ∷ blank ∷ rest) is =
    let both = and_parts (nat_lt 1 (length (first ∷ blank ∷ rest)))
    (not (is_blank first) && is_blank blank) is in
    let parts = and_parts (not (is_blank first)) (is_blank blank) both.1 in
    rw (not_blank (is_blank first) parts.0, parts.1) refl

pub first_blank-later : (bytes : List ℕ) → 0 < length bytes → is_blank (get_or bytes 0 0) ≡ false
    → 0 < position_or_len is_blank bytes
first_blank-later [] some other = absurd (omega (arith, some))
first_blank-later (byte ∷ bytes) some other = rw other (omega arith)

pub take-rest : (i : ℕ) (xs : List ℕ) → take (length xs - i) (drop i xs) ≡ drop i xs
take-rest i xs = rw (← length-drop i xs) (take-length (drop i xs))

with_bytes-append : (part : List ℕ) (parts others : List (List ℕ)) → with_bytes (part ∷ others)
    ≡ with_bytes (part ∷ []) ++ with_bytes others
with_bytes-append part parts others = by (nat_lt 0 (length part)) where
  by : (has : Bool) → cond has (part ∷ with_bytes others) (with_bytes others)
      ≡ cond has (part ∷ []) [] ++ with_bytes others
  by true = refl
  by false = refl

with_bytes-later : (part : List ℕ) (front back rest : List (List ℕ)) → with_bytes rest ≡ with_bytes
    front ++ with_bytes back
    → with_bytes (part ∷ rest) ≡ with_bytes (part ∷ front) ++ with_bytes back
with_bytes-later part front back rest is = by (nat_lt 0 (length part)) where
  by : (has : Bool) → cond has (part ∷ with_bytes rest) (with_bytes rest)
      ≡ cond has (part ∷ with_bytes front) (with_bytes front) ++ with_bytes back
  by true = ap (λ (parts : List (List ℕ)). part ∷ parts) is
  by false = is

with_bytes-join : (parts others : List (List ℕ)) → HasFirst parts → with_bytes
    (join_parts parts ([] ∷ others)) ≡ with_bytes parts ++ with_bytes others
with_bytes-join [] others has = cc (has.is)
with_bytes-join (part ∷ []) others has =
    ap (λ (first : List ℕ). with_bytes (first ∷ others)) (append-nil part) ∙ with_bytes-append part
    [] others
with_bytes-join (part ∷ next ∷ parts) others has =
    with_bytes-later part (next ∷ parts) others (join_parts (next ∷ parts) ([] ∷ others))
    (with_bytes-join (next ∷ parts) others (record { first = next; later = parts; is = refl }))

-- a blank parts the fields in front of it from those behind it
pub fields-parted : (front back : List ℕ) (byte : ℕ) → is_blank byte ≡ true → fields_among
    (front ++ byte ∷ back) ≡ fields_among front ++ fields_among back
fields-parted front back byte blank =
    ap with_bytes
    (slice_split-append is_blank front (byte ∷ back)
    ∙ ap (join_parts (slice_split is_blank front)) (slice_split-cons_yes is_blank byte back blank))
    ∙ with_bytes-join (slice_split is_blank front) (slice_split is_blank back)
    (slice_split-has is_blank front)

pub fields-field : (bytes : List ℕ) → IsField bytes → fields_among bytes ≡ bytes ∷ []
fields-field bytes field = ap with_bytes (slice_split_none is_blank bytes field.whole)
    ∙ with_bytes-cons bytes [] field.some

-- the first separator among the first bytes is the first of all
pub ends-in_front : (separates : ℕ → Bool) (bytes : List ℕ) (count place : ℕ) → count ≤ length bytes
    → SeparatedAt separates (take count bytes) place → SeparatedAt separates bytes place
ends-in_front separates bytes count place short ends =
    let long = length-take count bytes in
    let before : place < count = omega (arith, long, ends.within, short) in
    record {
      within = omega (arith, before, short);
      inside =
          subst (HasNoSeparator separates) (take-take place count bytes (omega (arith, before)))
          ends.inside;
      ends =
          subst (λ byte. separates byte ≡ true) (get_or-take count bytes place 0 before) ends.ends;
    }
