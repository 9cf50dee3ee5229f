-- Numbers that bits write, the highest first, compare as their first bits that differ.
use Rattle.std.proofs.Common.{◌≡◌, ℕ, zero, suc, ◌+◌, ◌*◌, ◌<◌, ◌≤◌, Bool, true, false, cond, List, [], ◌∷◌, ◌++◌, length, get_or, take, drop, refl, sym, ap, ◌∙◌, subst, arith, rules}
use Rattle.std.specs.Prelude.{◌==◌, nat_lt, slice_index}
use Rattle.std.specs.Char.{digit_value}
use Rattle.std.specs.List.{list_all, prefix_len}
use Rattle.std.specs.declared.cmp.Ordering.{Ordering}
use Rattle.std.specs.declared.cmp.Ordering.TheVariants.{Less, Equal, Greater}
use Rattle.std.specs.Ordering.{nat_cmp}
use Rattle.std.specs.Str.Parse.{digits_value, digits_value_after}
use Rattle.std.proofs.lemmas.Bool.Decides.{nat_tests}
use Rattle.std.proofs.lemmas.List.{drop_more, length-drop, take-append-drop, take_all}
use Rattle.tre_define.specs.Values.{is_bit}
use Rattle.tre_define.proofs.Cutting.{first, second}
use Rattle.tre_define.proofs.Digits.{digit_value-bit, value-append}

pub bit-at : (bits : List ℕ) (place : ℕ) → place < length bits → list_all is_bit bits ≡ true
    → is_bit (get_or bits place 0) ≡ true
bit-at [] place below all = absurd (omega (arith, below))
bit-at (bit ∷ bits) zero below all = first (is_bit bit) (list_all is_bit bits) all
bit-at (bit ∷ bits) (suc place) below all =
    bit-at bits place (omega (arith, below)) (second (is_bit bit) (list_all is_bit bits) all)

pub bits-left : (count : ℕ) (bits : List ℕ) → list_all is_bit bits ≡ true
    → list_all is_bit (drop count bits) ≡ true
bits-left zero bits all = all
bits-left (suc count) [] all = refl
bits-left (suc count) (bit ∷ bits) all =
    bits-left count bits (second (is_bit bit) (list_all is_bit bits) all)

-- ---- zeros in front

abbrev pub is_zero : ℕ → Bool
is_zero bit = bit == 48

pub zeros-past : (bits : List ℕ)
    → digits_value 2 (drop (prefix_len is_zero bits) bits) ≡ digits_value 2 bits
zeros-past [] = refl
zeros-past (bit ∷ bits) = by (bit == 48) refl (zeros-past bits) where
  by : (zero : Bool) → (bit == 48) ≡ zero
      → digits_value 2 (drop (prefix_len is_zero bits) bits) ≡ digits_value 2 bits
      → digits_value 2 (drop (cond zero (1 + prefix_len is_zero bits) 0) (bit ∷ bits))
      ≡ digits_value 2 (bit ∷ bits)
  by true e more =
      let same : bit ≡ 48 = grind (arith, nat_tests) in
      let next : 1 + prefix_len is_zero bits ≡ suc (prefix_len is_zero bits) = omega arith in
      ap (λ n. digits_value 2 (drop n (bit ∷ bits))) next ∙ more
      ∙ ap (λ b. digits_value 2 (b ∷ bits)) (sym same)
  by false e more = refl

pub zeros-end : (bits : List ℕ) → slice_index (drop (prefix_len is_zero bits) bits) 0 ≡ 48 → ⊥
zeros-end [] is = absurd (omega (arith, is))
zeros-end (bit ∷ bits) is = by (bit == 48) refl (zeros-end bits) is where
  by : (zero : Bool) → (bit == 48) ≡ zero
      → (slice_index (drop (prefix_len is_zero bits) bits) 0 ≡ 48 → ⊥)
      → slice_index (drop (cond zero (1 + prefix_len is_zero bits) 0) (bit ∷ bits)) 0 ≡ 48 → ⊥
  by true e more is =
      let next : 1 + prefix_len is_zero bits ≡ suc (prefix_len is_zero bits) = omega arith in
      more (subst (λ n. slice_index (drop n (bit ∷ bits)) 0 ≡ 48) next is)
  by false e more is = absurd (grind (arith, nat_tests))

-- ---- of two numbers

pub value-grows : (n : ℕ) (bits : List ℕ) → n ≤ digits_value_after 2 n bits
value-grows n [] = omega arith
value-grows n (bit ∷ bits) =
    let more = value-grows (n * 2 + digit_value bit) bits in omega (arith, more)

digit-small : (bit : ℕ) → is_bit bit ≡ true → digit_value bit ≤ 1
digit-small bit is =
    let digit = digit_value-bit bit is in grind (arith, nat_tests)

-- What begins below stays below, where it isn't longer.
pub value-below : (bits others : List ℕ) (n m : ℕ) → list_all is_bit bits ≡ true
    → length bits ≤ length others → n < m
    → digits_value_after 2 n bits < digits_value_after 2 m others
value-below [] others n m all longer below = omega (arith, below, value-grows m others)
value-below (bit ∷ bits) [] n m all longer below = absurd (omega (arith, longer))
value-below (bit ∷ bits) (other ∷ others) n m all longer below =
    let small = digit-small bit (first (is_bit bit) (list_all is_bit bits) all) in
    value-below bits others (n * 2 + digit_value bit) (m * 2 + digit_value other)
    (second (is_bit bit) (list_all is_bit bits) all) (omega (arith, longer))
    (omega (arith, small, below))

pub is-less : (n m : ℕ) → n < m → nat_cmp n m ≡ Less
is-less n m below = ap (λ t. cond t Less (cond (n == m) Equal Greater)) (less n m below) where
  less : (n m : ℕ) → n < m → nat_lt n m ≡ true
  less n m below = grind (arith, nat_tests)

pub is-greater : (n m : ℕ) → m < n → nat_cmp n m ≡ Greater
is-greater n m above =
    ap (λ t. cond t Less (cond (n == m) Equal Greater)) (less n m above)
    ∙ ap (λ t. cond t Equal Greater) (same n m above)
  where
    less : (n m : ℕ) → m < n → nat_lt n m ≡ false
    less n m above = grind (arith, nat_tests)

    same : (n m : ℕ) → m < n → (n == m) ≡ false
    same n m above = grind (arith, nat_tests)

pub is-equal : (n m : ℕ) → n ≡ m → nat_cmp n m ≡ Equal
is-equal n m same =
    ap (λ t. cond t Less (cond (n == m) Equal Greater)) (less n m same)
    ∙ ap (λ t. cond t Equal Greater) (equal n m same)
  where
    less : (n m : ℕ) → n ≡ m → nat_lt n m ≡ false
    less n m same = grind (arith, nat_tests)

    equal : (n m : ℕ) → n ≡ m → (n == m) ≡ true
    equal n m same = grind (arith, nat_tests)

-- Without zeros in front the longer one is the greater.
shorter-below : (bits others : List ℕ) → list_all is_bit bits ≡ true
    → list_all is_bit others ≡ true → (slice_index others 0 ≡ 48 → ⊥)
    → length bits < length others → digits_value 2 bits < digits_value 2 others
shorter-below bits [] all alls starts longer = absurd (omega (arith, longer))
shorter-below bits (other ∷ others) all alls starts longer =
    let digit = digit_value-bit other (first (is_bit other) (list_all is_bit others) alls) in
    let one : other ≡ 49 = one-of other (first (is_bit other) (list_all is_bit others) alls) starts
    in
    value-below bits others 0 (0 * 2 + digit_value other) all (omega (arith, longer))
    (omega (arith, digit, one))
  where
    one-of : (bit : ℕ) → is_bit bit ≡ true → (bit ≡ 48 → ⊥) → bit ≡ 49
    one-of bit is other = grind (arith, nat_tests)

pub by-length : (bits others : List ℕ) → list_all is_bit bits ≡ true
    → list_all is_bit others ≡ true → (slice_index bits 0 ≡ 48 → ⊥)
    → (slice_index others 0 ≡ 48 → ⊥) → (length bits ≡ length others → ⊥)
    → nat_cmp (length bits) (length others) ≡ nat_cmp (digits_value 2 bits) (digits_value 2 others)
by-length bits others all alls one two unlike =
    by (nat_lt (length bits) (length others)) refl where
      by : (less : Bool) → nat_lt (length bits) (length others) ≡ less
          → nat_cmp (length bits) (length others)
          ≡ nat_cmp (digits_value 2 bits) (digits_value 2 others)
      by true e =
          let longer : length bits < length others = grind (arith, nat_tests) in
          is-less _ _ longer
          ∙ sym (is-less _ _ (shorter-below bits others all alls two longer))
      by false e =
          let longer : length others < length bits = grind (arith, nat_tests, unlike) in
          is-greater _ _ longer
          ∙ sym (is-greater _ _ (shorter-below others bits alls all one longer))

-- the value from a place on, behind the bits before it
value-from : (bits : List ℕ) (place : ℕ) → place < length bits
    → digits_value 2 bits
    ≡ digits_value_after 2
    (digits_value 2 (take place bits) * 2 + digit_value (get_or bits place 0))
    (drop (place + 1) bits)
value-from bits place below =
    ap (digits_value 2) (sym (take-append-drop place bits))
    ∙ value-append 2 0 (take place bits) (drop place bits)
    ∙ ap (digits_value_after 2 (digits_value 2 (take place bits))) (drop_more bits place 0 below)

bit-order : (bit other : ℕ) → is_bit bit ≡ true → is_bit other ≡ true → bit < other
    → digit_value bit < digit_value other
bit-order bit other one two below =
    omega (arith, digit_value-bit bit one, digit_value-bit other two, below, least bit one)
  where
    least : (bit : ℕ) → is_bit bit ≡ true → 48 ≤ bit
    least bit is = grind (arith, nat_tests)

place-below : (bits others : List ℕ) (place : ℕ) → list_all is_bit bits ≡ true
    → list_all is_bit others ≡ true → length bits ≡ length others → place < length bits
    → take place bits ≡ take place others → get_or bits place 0 < get_or others place 0
    → digits_value 2 bits < digits_value 2 others
place-below bits others place all alls long below same order =
    let there : place < length others = omega (arith, long, below) in
    let front : digits_value 2 (take place bits) ≡ digits_value 2 (take place others) =
    ap (digits_value 2) same in
    let digits = bit-order (get_or bits place 0) (get_or others place 0)
    (bit-at bits place below all) (bit-at others place there alls) order in
    let less = value-below (drop (place + 1) bits) (drop (place + 1) others)
    (digits_value 2 (take place bits) * 2 + digit_value (get_or bits place 0))
    (digits_value 2 (take place others) * 2 + digit_value (get_or others place 0))
    (bits-left (place + 1) bits all)
    (omega (arith, long, length-drop (place + 1) bits, length-drop (place + 1) others))
    (omega (arith, front, digits)) in
    omega (arith, less, value-from bits place below, value-from others place there)

pub by-place : (bits others : List ℕ) (place : ℕ) → list_all is_bit bits ≡ true
    → list_all is_bit others ≡ true → length bits ≡ length others → place < length bits
    → take place bits ≡ take place others
    → (get_or bits place 0 ≡ get_or others place 0 → ⊥)
    → nat_cmp (get_or bits place 0) (get_or others place 0)
    ≡ nat_cmp (digits_value 2 bits) (digits_value 2 others)
by-place bits others place all alls long below same unlike =
    by (nat_lt (get_or bits place 0) (get_or others place 0)) refl where
      by : (less : Bool) → nat_lt (get_or bits place 0) (get_or others place 0) ≡ less
          → nat_cmp (get_or bits place 0) (get_or others place 0)
          ≡ nat_cmp (digits_value 2 bits) (digits_value 2 others)
      by true e =
          let order : get_or bits place 0 < get_or others place 0 = grind (arith, nat_tests) in
          is-less _ _ order
          ∙ sym (is-less _ _ (place-below bits others place all alls long below same order))
      by false e =
          let order : get_or others place 0 < get_or bits place 0 =
          grind (arith, nat_tests, unlike) in
          is-greater _ _ order
          ∙ sym (is-greater _ _ (place-below others bits place alls all (sym long)
          (omega (arith, long, below)) (sym same) order))

pub by-none : (bits others : List ℕ) (place : ℕ) → length bits ≡ length others
    → length bits ≤ place → take place bits ≡ take place others
    → Equal ≡ nat_cmp (digits_value 2 bits) (digits_value 2 others)
by-none bits others place long past same =
    sym (is-equal _ _ (ap (digits_value 2) (sym (take_all place bits past) ∙ same
    ∙ take_all place others (omega (arith, long, past)))))
