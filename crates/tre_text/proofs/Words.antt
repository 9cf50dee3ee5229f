-- Names among the bytes of a line.
use Rattle.std.proofs.Common.{◌≡◌, ℕ, zero, suc, ◌+◌, ◌-◌, ◌<◌, ◌≤◌, nat_lt, Bool, true, false, not, ◌||◌, ◌==◌, List, [], ◌∷◌, ◌++◌, append-nil, length, length-drop, length-take, take, drop, cond, drop-cons, get_or, ⊎_elim, refl, sym, ap, subst, ◌∙◌, arith, take-append-drop, rules}
use Rattle.std.proofs.Math.ListN.{drop_of_length-le}
use Rattle.std.proofs.Math.Seq.{take-length}
use Rattle.std.proofs.lemmas.Bool.{and_from, and_parts, or_parts, or_cases, cases_lt, false_from_ne_true}
use Rattle.std.proofs.lemmas.Bool.Decides.{nat_tests}
use Rattle.std.proofs.lemmas.List.{get_or-take, get_or-drop, drop-drop, take_more}
use Rattle.std.proofs.lemmas.List.Elements.{All-nil, All-cons}
use Rattle.std.proofs.lemmas.List.Sums.{passes_at_first}
use Rattle.std.specs.List.{All, list_all, position_or_len}
use Rattle.tre_state.specs.Name.{starts_name, continues_name}
use Rattle.tre_text.specs.TextReading.{is_blank, fields_among, spells_word}
use Rattle.tre_text.specs.TraceLines.{IsField}
use Rattle.tre_parts.specs.Bytes.{NoneBetween, IsNextAt}
use Rattle.tre_text.specs.Words.{IsRest, IsWordEnd, ends_word, stops_name}
use Rattle.tre_text.proofs.Fields.{fields-one, fields-cut, fields-field, fields-parted, first_blank-later}

-- ---- bytes

byte_is : (a b : ℕ) → (a == b) ≡ true → a ≡ b
byte_is a b same = grind (arith, nat_tests)

blank_ends : (byte : ℕ) → is_blank byte ≡ true → continues_name byte ≡ false
blank_ends byte blank = search rules

blank_starts : (byte : ℕ) → is_blank byte ≡ true → starts_name byte ≡ false
blank_starts byte blank = search rules

no_blank : (test : ℕ → Bool) (byte : ℕ) → ((b : ℕ) → is_blank b ≡ true → test b ≡ false)
    → test byte ≡ true → is_blank byte ≡ false
no_blank test byte apart is = search rules

-- ---- words

all_push : (bytes : List ℕ) (byte : ℕ) → list_all continues_name bytes ≡ true
    → continues_name byte ≡ true → list_all continues_name (bytes ++ byte ∷ []) ≡ true
all_push [] byte all is = rw is refl
all_push (first ∷ rest) byte all is =
    let parts = and_parts (continues_name first) (list_all continues_name rest) all in
    and_from (continues_name first) (list_all continues_name (rest ++ byte ∷ [])) parts.0
    (all_push rest byte parts.1 is)

word_push : (bytes : List ℕ) (byte : ℕ) → spells_word bytes ≡ true → continues_name byte ≡ true
    → spells_word (bytes ++ byte ∷ []) ≡ true
word_push [] byte word is = absurd (cc (word))
word_push (first ∷ rest) byte word is =
    search (rules, and_parts, starts_name, continues_name, and_from, all_push)

-- one byte more of a name
pub word_more : (bytes : List ℕ) (end : ℕ) → end < length bytes
    → spells_word (take end bytes) ≡ true → continues_name (get_or bytes end 0) ≡ true
    → spells_word (take (end + 1) bytes) ≡ true
word_more bytes end below word is =
    rw (take_more bytes end 0 below) (word_push (take end bytes) (get_or bytes end 0) word is)

pub word_one : (bytes : List ℕ) → 0 < length bytes → starts_name (get_or bytes 0 0) ≡ true
    → spells_word (take 1 bytes) ≡ true
word_one [] some is = absurd (omega (arith, some))
word_one (first ∷ rest) some is = rw is refl

rest_whole : (bytes : List ℕ) → list_all continues_name bytes ≡ true
    → All (λ byte. is_blank byte ≡ false) bytes
rest_whole [] all = All-nil (λ byte. is_blank byte ≡ false)
rest_whole (first ∷ rest) all =
    let parts = and_parts (continues_name first) (list_all continues_name rest) all in
    All-cons (λ byte. is_blank byte ≡ false) first rest
    (no_blank continues_name first blank_ends parts.0) (rest_whole rest parts.1)

-- a name is a field
word_field : (bytes : List ℕ) → spells_word bytes ≡ true → IsField bytes
word_field [] word = absurd (cc (word))
word_field (first ∷ rest) word =
    let parts = and_parts (starts_name first) (list_all continues_name rest) word in
    record {
      some = omega arith;
      whole =
          All-cons (λ byte. is_blank byte ≡ false) first rest
          (no_blank starts_name first blank_starts parts.0) (rest_whole rest parts.1);
    }

all_at : (bytes : List ℕ) (i : ℕ) → list_all continues_name bytes ≡ true → i < length bytes
    → continues_name (get_or bytes i 0) ≡ true
all_at [] i all below = absurd (omega (arith, below))
all_at (first ∷ rest) zero all below = search rules
all_at (first ∷ rest) (suc i) all below =
    all_at rest i (and_parts (continues_name first) (list_all continues_name rest) all).1
    (omega (arith, below))

word_at : (bytes : List ℕ) (i : ℕ) → spells_word bytes ≡ true → 0 < i → i < length bytes
    → continues_name (get_or bytes i 0) ≡ true
word_at [] i word some below = absurd (omega (arith, below))
word_at (first ∷ rest) zero word some below = absurd (omega (arith, some))
word_at (first ∷ rest) (suc i) word some below =
    search (rules, all_at, and_parts, starts_name, continues_name)

word_first : (bytes : List ℕ) → spells_word bytes ≡ true → starts_name (get_or bytes 0 0) ≡ true
word_first [] word = absurd (cc (word))
word_first (first ∷ rest) word = search rules

-- ---- the first field

position_or_len-le : (bytes : List ℕ) → position_or_len is_blank bytes ≤ length bytes
position_or_len-le [] = omega arith
position_or_len-le (byte ∷ bytes) = at_byte (not (is_blank byte)) (position_or_len-le bytes) where
  at_byte : (b : Bool) → position_or_len is_blank bytes ≤ length bytes
      → cond b (1 + position_or_len is_blank bytes) 0 ≤ suc (length bytes)
  at_byte true le = omega (arith, le)
  at_byte false le = omega arith

module _ (bytes : List ℕ) (end : ℕ) (is : IsWordEnd bytes end) where
  at_blank : end < length bytes → is_blank (get_or bytes end 0) ≡ true
      → spells_word (take end bytes) ≡ true
      → fields_among bytes ≡ take end bytes ∷ fields_among (drop end bytes)
  at_blank below blank word =
      let back = drop (suc end) bytes in
      let rest = drop-cons bytes end 0 below in
      ap fields_among (sym (take-append-drop end bytes) ∙ ap (λ all. take end bytes ++ all) rest)
      ∙ fields-parted (take end bytes) back (get_or bytes end 0) blank
      ∙ ap (λ fields. fields ++ fields_among back)
      (fields-field (take end bytes) (word_field (take end bytes) word))
      ∙ ap (λ fields. take end bytes ∷ fields)
      (sym (ap fields_among rest ∙ fields-parted [] back (get_or bytes end 0) blank))

  at_end : length bytes ≤ end → spells_word (take end bytes) ≡ true
      → fields_among bytes ≡ take end bytes ∷ fields_among (drop end bytes)
  at_end past word =
      let none : drop end bytes ≡ [] = drop_of_length-le bytes past in
      rw none
      (ap fields_among (sym (take-append-drop end bytes) ∙ ap (λ all. take end bytes ++ all) none
      ∙ append-nil (take end bytes))
      ∙ fields-field (take end bytes) (word_field (take end bytes) word))

  -- the name is the first field
  pub word_is_field : ends_word bytes end ≡ true
      → fields_among bytes ≡ take end bytes ∷ fields_among (drop end bytes)
  word_is_field ends =
      let parts = and_parts (nat_lt 0 end)
      (end == length bytes || is_blank (get_or bytes end 0)) ends in
      let some : 0 < end = grind (arith, nat_tests, parts.0) in
      ⊎_elim
      (λ below. ⊎_elim (λ last. absurd (grind (arith, nat_tests, last, below)))
      (λ blank. at_blank below blank (is.word some))
      (or_cases (end == length bytes) (is_blank (get_or bytes end 0)) parts.1))
      (λ past. at_end past (is.word some))
      (cases_lt end (length bytes))

  pub word_spells : ends_word bytes end ≡ true → spells_word (take end bytes) ≡ true
  word_spells ends = search rules

  -- Up to the first blank there is no name.
  module _ (some : 0 < length bytes) (other : is_blank (get_or bytes 0 0) ≡ false)
      (ends : ends_word bytes end ≡ false) where
    abbrev k : ℕ
    k = position_or_len is_blank bytes

    late : 0 < k
    late = first_blank-later bytes some other

    -- no name stops so early
    stopped : 0 < end → spells_word (take k bytes) ≡ true → k ≤ length bytes → ⊥
    stopped begun word short =
        let open_end : (end == length bytes || is_blank (get_or bytes end 0)) ≡ false =
        false_from_ne_true (end == length bytes || is_blank (get_or bytes end 0))
        (λ stops. let begins : nat_lt 0 end ≡ true = grind (arith, nat_tests, begun) in
        cc (
          ends,
          and_from (nat_lt 0 end) (end == length bytes || is_blank (get_or bytes end 0))
              begins stops,
        )) in
        let parts = or_parts (end == length bytes) (is_blank (get_or bytes end 0)) open_end in
        let below : end < length bytes = grind (arith, nat_tests, parts.0, is.within) in
        ⊎_elim
        (λ before.
        let goes : continues_name (get_or bytes end 0) ≡ true =
        subst (λ byte. continues_name byte ≡ true) (get_or-take k bytes end 0 before)
        (word_at (take k bytes) end word begun (omega (arith, before, length-take k bytes, short)))
        in
        cc (goes, is.stops begun below))
        (λ behind. blank_before begun parts.1 below behind)
        (cases_lt end k) where
          blank_before : 0 < end → is_blank (get_or bytes end 0) ≡ false → end < length bytes
              → k ≤ end → ⊥
          blank_before begun open_byte below behind =
              let blank : is_blank (get_or bytes k 0) ≡ true =
              passes_at_first is_blank bytes 0 (omega (arith, behind, below)) in
              ⊎_elim
              (λ inside.
              let clear : is_blank (get_or bytes k 0) ≡ false =
              subst (λ byte. is_blank byte ≡ false) (get_or-take end bytes k 0 inside)
              ((word_field (take end bytes) (is.word begun)).whole k 0
              (omega (arith, inside, length-take end bytes, below))) in
              cc (blank, clear))
              (λ past. let same : k ≡ end = omega (arith, past, behind) in
              cc (blank, open_byte, same))
              (cases_lt k end)

    not_begun : end ≡ 0 → spells_word (take k bytes) ≡ true → ⊥
    not_begun zero_end word =
        let starts : starts_name (get_or bytes 0 0) ≡ true =
        subst (λ byte. starts_name byte ≡ true) (get_or-take k bytes 0 0 late)
        (word_first (take k bytes) word) in
        cc (starts, is.first zero_end some)

    no_word : k ≤ length bytes → spells_word (take k bytes) ≡ false
    no_word short =
        false_from_ne_true (spells_word (take k bytes))
        (λ word. ⊎_elim (λ begun. stopped begun word short)
        (λ none. not_begun (omega (arith, none)) word) (cases_lt 0 end))

    -- the first field is no name
    pub no_word_field : list_all spells_word (fields_among bytes) ≡ false
    no_word_field =
        ⊎_elim
        (λ below. rw (
          fields-cut bytes k refl late below,
          no_word (omega (arith, below)),
        ) refl)
        (λ past.
        let short : k ≤ length bytes = omega (arith, position_or_len-le bytes) in
        let all : k ≡ length bytes = omega (arith, past, short) in
        let whole : take k bytes ≡ bytes = ap (λ n. take n bytes) all ∙ take-length bytes in
        let none : spells_word bytes ≡ false = rw (← whole) (no_word short) in
        rw (fields-one bytes some all, none) refl)
        (cases_lt k (length bytes))

-- a blank parts nothing from what stands behind it
pub blank_behind : (bytes : List ℕ) (end : ℕ) → ends_word bytes end ≡ true → end < length bytes
    → fields_among (drop end bytes) ≡ fields_among (drop (end + 1) bytes)
blank_behind bytes end ends below =
    let parts = and_parts (nat_lt 0 end)
    (end == length bytes || is_blank (get_or bytes end 0)) ends in
    let one : end + 1 ≡ suc end = omega arith in
    let rest = drop-cons bytes end 0 below in
    rw one
    (⊎_elim (λ last. absurd (grind (arith, nat_tests, last, below)))
    (λ blank.
    ap fields_among rest
    ∙ fields-parted [] (drop (suc end) bytes) (get_or bytes end 0) blank)
    (or_cases (end == length bytes) (is_blank (get_or bytes end 0)) parts.1))

-- ---- a name up to the first byte that no name goes on with

not_true : (b : Bool) → not b ≡ true → b ≡ false
not_true true is = cc (is)
not_true false is = refl

not_false : (b : Bool) → not b ≡ false → b ≡ true
not_false true is = refl
not_false false is = cc (is)

-- bytes of which the first starts a name, and the others go on with it
word_of : (bytes : List ℕ) (n : ℕ) → starts_name (get_or bytes 0 0) ≡ true → suc n ≤ length bytes
    → ((k : ℕ) → k < suc n → continues_name (get_or bytes k 0) ≡ true)
    → spells_word (take (suc n) bytes) ≡ true
word_of bytes zero starts within goes = word_one bytes (omega (arith, within)) starts
word_of bytes (suc n) starts within goes =
    let one : suc (suc n) ≡ suc n + 1 = omega arith in
    ap (λ m. spells_word (take m bytes)) one
    ∙ word_more bytes (suc n) (omega (arith, within))
    (word_of bytes n starts (omega (arith, within)) (λ k below. goes k (omega (arith, below))))
    (goes (suc n) (omega arith))

word_until : (bytes : List ℕ) (end : ℕ) → get_or bytes 0 0 < 256 → 0 < length bytes
    → starts_name (get_or bytes 0 0) ≡ true → end ≤ length bytes
    → ((k : ℕ) → k < end → stops_name (get_or bytes k 0) ≡ false)
    → (end < length bytes → stops_name (get_or bytes end 0) ≡ true) → IsWordEnd bytes end
word_until bytes zero fits some starts within goes stops = search rules
word_until bytes (suc n) fits some starts within goes stops =
    search (rules, word_of, not_false, continues_name, not_true)

-- a name of one byte, with which the line ends
pub word_alone : (bytes : List ℕ) → length bytes ≡ 1 → starts_name (get_or bytes 0 0) ≡ true
    → IsWordEnd bytes 1
word_alone bytes one starts = search rules

-- a byte of the rest of a line
in_rest : (line rest : List ℕ) (k : ℕ) → IsRest line rest
    → get_or rest k 0 ≡ get_or line (length line - length rest + k) 0
in_rest line rest k is =
    ap (λ bytes. get_or bytes k 0) is.is ∙ get_or-drop (length line - length rest) line k 0

pub word_to_stop : (line rest : List ℕ) (end : ℕ) → IsRest line rest → get_or rest 0 0 < 256
    → 0 < length rest → starts_name (get_or rest 0 0) ≡ true
    → IsNextAt stops_name line (length line - length rest) end
    → IsWordEnd rest (end - (length line - length rest))
word_to_stop line rest end is fits some starts next =
    let start = length line - length rest in
    let back : start + (end - start) ≡ end = omega (arith, next.behind) in
    word_until rest (end - start) fits some starts (omega (arith, is.short, next.within))
    (λ k below.
    ap stops_name (in_rest line rest k is)
    ∙ next.none (start + k) (omega arith) (omega (arith, below, next.behind)))
    (λ _.
    ap stops_name (in_rest line rest (end - start) is ∙ ap (λ k. get_or line k 0) back)
    ∙ next.here)

pub word_whole : (line rest : List ℕ) → IsRest line rest → get_or rest 0 0 < 256
    → 0 < length rest → starts_name (get_or rest 0 0) ≡ true
    → NoneBetween stops_name line (length line - length rest) (length line)
    → IsWordEnd rest (length rest)
word_whole line rest is fits some starts none =
    let start = length line - length rest in
    word_until rest (length rest) fits some starts (omega arith) (λ k below.
    ap stops_name (in_rest line rest k is)
    ∙ none (start + k) (omega arith) (omega (arith, below, is.short)))
    (λ past. absurd (omega (arith, past)))

-- ---- what is left of a line

pub rest_from : (bytes : List ℕ) (k : ℕ) → k ≤ length bytes → IsRest bytes (drop k bytes)
rest_from bytes k within =
    let long = length-drop k bytes in
    let at : length bytes - length (drop k bytes) ≡ k = omega (arith, long, within) in
    record { short = omega (arith, long); is = ap (λ n. drop n bytes) (sym at) }

pub rest_none : (bytes : List ℕ) → IsRest bytes []
rest_none bytes = search (rules, drop_of_length-le)

pub rest_later : (line front back : List ℕ) → IsRest line front → IsRest front back
    → IsRest line back
rest_later line front back one two = search (rules, drop-drop)
