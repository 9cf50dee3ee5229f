-- The text of a range tells its two bounds and what follows it.
use Rattle.std.proofs.Common.{◌≡◌, ◌≢◌, ℕ, ◌<◌, ◌≤◌, ◌^◌, ◌==◌, Bool, true, false, List, [], ◌∷◌, ◌++◌, append_assoc, refl, sym, ap, ◌∙◌, arith, ℤ, pos, negsuc, neg_ℤ, ◌≤ℤ◌, nat_abs}
use Rattle.std.specs.Prelude.{codes, if◌then◌else◌}
use Rattle.std.proofs.lemmas.Int.{ints}
use Rattle.std.proofs.lemmas.Bool.Decides.{nat_tests}
use Rattle.tre_decimal.specs.Decimal.{is_number_byte, number_text}
use Rattle.tre_zone.specs.Bound.{value_of, weakness_of, IsKeyWithin}
use Rattle.tre_zone.proofs.Bounds.{split}
use Rattle.tre_show.specs.Interval.{interval_text}
use Rattle.tre_zone.specs.Ranges.{range_of}

-- ---- a byte and what follows it

-- and go on in the same way behind it
pub behind_byte : (byte : ℕ) (xs ys : List ℕ) → byte ∷ xs ≡ byte ∷ ys → xs ≡ ys
behind_byte byte xs ys e = cc

-- ---- a number, and then a byte that is none of a number

-- What the law of decimals says at a scale: a number that is written tells the number, and what
-- follows it.
abbrev pub NumbersTell : ℕ → Type 0
NumbersTell scale = (units other byte next : ℕ) (rest other_rest : List ℕ)
    → units < 2 ^ 64 → other < 2 ^ 64 → is_number_byte byte ≡ false → is_number_byte next ≡ false
    → number_text scale units ++ (byte ∷ rest) ≡ number_text scale other ++ (next ∷ other_rest)
    → (units ≡ other) × (byte ∷ rest ≡ next ∷ other_rest)

-- A number at the end of its line, and what follows the line.
pub number_line_once : (scale : ℕ) → NumbersTell scale → (number other : ℕ) (xs ys : List ℕ)
    → number < 2 ^ 64 → other < 2 ^ 64
    → number_text scale number ++ (10 ∷ xs) ≡ number_text scale other ++ (10 ∷ ys)
    → (number ≡ other) × (xs ≡ ys)
number_line_once scale tells number other xs ys small small' e =
    let ends = tells number other 10 10 xs ys small small' refl refl e in
    (ends.0, behind_byte 10 xs ys ends.1)

-- ---- a range of two bounds

-- The byte of the left bracket: a square one includes an end.
abbrev pub left_of : Bool → ℕ
left_of weak = if weak then 91 else 40

-- The byte of the right one.
abbrev pub right_of : Bool → ℕ
right_of weak = if weak then 93 else 41

-- a bracket tells whether the end is included
bracket_once : (square round : ℕ) (one other : Bool) → square ≢ round
    → (if one then square else round) ≡ (if other then square else round) → one ≡ other
bracket_once square round true true differ e = refl
bracket_once square round true false differ e = absurd (differ e)
bracket_once square round false true differ e = absurd (differ (sym e))
bracket_once square round false false differ e = refl

-- the right bracket ends the number before it
right_ends : (weak : Bool) → is_number_byte (right_of weak) ≡ false
right_ends true = refl
right_ends false = refl

-- a range and what follows it, byte by byte
abbrev pub range_bytes : ℕ → Bool → ℕ → ℕ → Bool → List ℕ → List ℕ
range_bytes scale low_weak low high high_weak xs =
    left_of low_weak
    ∷ (number_text scale low ++ (44 ∷ (number_text scale high ++ (right_of high_weak ∷ xs))))

-- the pieces of a range, one after the other
brackets_round : (left right : ℕ) (low high xs : List ℕ)
    → (((left ∷ []) ++ low ++ (44 ∷ [])) ++ (high ++ (right ∷ []))) ++ xs
    ≡ left ∷ (low ++ (44 ∷ (high ++ (right ∷ xs))))
brackets_round left right low high xs =
    append_assoc (left ∷ (low ++ (44 ∷ []))) (high ++ (right ∷ [])) xs
    ∙ ap (λ rest. left ∷ rest) (append_assoc low (44 ∷ []) ((high ++ (right ∷ [])) ++ xs))
    ∙ ap (λ rest. left ∷ (low ++ (44 ∷ rest))) (append_assoc high (right ∷ []) xs)

range_pieces : (low_weak high_weak : Bool) (low high xs : List ℕ)
    → (((if low_weak then codes "[" else codes "(") ++ low ++ codes ",")
    ++ (high ++ (if high_weak then codes "]" else codes ")"))) ++ xs
    ≡ left_of low_weak ∷ (low ++ (44 ∷ (high ++ (right_of high_weak ∷ xs))))
range_pieces true true low high xs = brackets_round 91 93 low high xs
range_pieces true false low high xs = brackets_round 91 41 low high xs
range_pieces false true low high xs = brackets_round 40 93 low high xs
range_pieces false false low high xs = brackets_round 40 41 low high xs

-- The text between two bounds.
abbrev pub range_text : ℕ → ℤ → ℤ → List ℕ
range_text scale low high = interval_text scale (range_of low high)

pub range_text-bytes : (scale : ℕ) (low high : ℤ) (xs : List ℕ)
    → range_text scale low high ++ xs
    ≡ range_bytes scale (weakness_of low == 1) (nat_abs (value_of low))
    (nat_abs (value_of high)) (weakness_of high == 1) xs
range_text-bytes scale low high xs =
    range_pieces (weakness_of low == 1) (weakness_of high == 1)
    (number_text scale (nat_abs (value_of low))) (number_text scale (nat_abs (value_of high))) xs

-- The bytes of a range tell its brackets, its numbers and what follows it.
parts_once : (scale : ℕ) → NumbersTell scale → (a b a' b' : Bool) (m n m' n' : ℕ) (xs ys : List ℕ)
    → m < 2 ^ 64 → n < 2 ^ 64 → m' < 2 ^ 64 → n' < 2 ^ 64
    → range_bytes scale a m n b xs ≡ range_bytes scale a' m' n' b' ys
    → (a ≡ a') × (m ≡ m') × (n ≡ n') × (b ≡ b') × (xs ≡ ys)
parts_once scale tells a b a' b' m n m' n' xs ys p q p' q' e =
    let rest = number_text scale n ++ (right_of b ∷ xs) in
    let rest' = number_text scale n' ++ (right_of b' ∷ ys) in
    let first : left_of a ≡ left_of a' = cc in
    let behind : number_text scale m ++ (44 ∷ rest) ≡ number_text scale m' ++ (44 ∷ rest') = cc in
    let low = tells m m' 44 44 rest rest' p p' refl refl behind in
    let high = tells n n' (right_of b) (right_of b') xs ys q q' (right_ends b) (right_ends b')
    (behind_byte 44 rest rest' low.1) in
    let closed : right_of b ∷ xs ≡ right_of b' ∷ ys = high.1 in
    let last : right_of b ≡ right_of b' = cc in
    let left = bracket_once 91 40 a a' (λ e. absurd (omega (arith, e))) first in
    let right = bracket_once 93 41 b b' (λ e. absurd (omega (arith, e))) last in
    (left, low.0, high.0, right, cc)

-- ---- the keys of a range

-- The keys of a range of a canonical zone: the lower bound is at most 0, the higher one is at least
-- 0.
pub record AreRangeKeys (low high : ℤ) : Type 0 where
  pub down : low ≤ℤ pos 1
  pub up : pos 0 ≤ℤ high
  pub low_within : IsKeyWithin (2 ^ 42) low
  pub high_within : IsKeyWithin (2 ^ 42) high

-- a value within bounds has a size within bounds
nat_abs-within : (value : ℤ) → neg_ℤ (pos (2 ^ 42)) ≤ℤ value → value ≤ℤ pos (2 ^ 42)
    → nat_abs value < 2 ^ 64
nat_abs-within (pos n) low high = omega (arith, ints)
nat_abs-within (negsuc n) low high = omega (arith, ints)

-- a key within bounds has a value that is printed whole
printed_within : (key : ℤ) → IsKeyWithin (2 ^ 42) key → nat_abs (value_of key) < 2 ^ 64
printed_within key within =
    let own = split key in
    nat_abs-within (value_of key) (omega (arith, ints, within.low))
    (omega (arith, ints, within.high))

-- Values that are both at most 0 are the same where their sizes are.
same_down : (one other : ℤ) → one ≤ℤ pos 0 → other ≤ℤ pos 0 → nat_abs one ≡ nat_abs other
    → one ≡ other
same_down (pos m) (pos n) p q e = omega (arith, ints)
same_down (pos m) (negsuc n) p q e = omega (arith, ints)
same_down (negsuc m) (pos n) p q e = omega (arith, ints)
same_down (negsuc m) (negsuc n) p q e = omega (arith, ints)

-- the same of values that are both at least 0
same_up : (one other : ℤ) → pos 0 ≤ℤ one → pos 0 ≤ℤ other → nat_abs one ≡ nat_abs other
    → one ≡ other
same_up (pos m) (pos n) p q e = omega (arith, ints)
same_up (pos m) (negsuc n) p q e = omega (arith, ints)
same_up (negsuc m) (pos n) p q e = omega (arith, ints)
same_up (negsuc m) (negsuc n) p q e = omega (arith, ints)

-- a weakness is 0 or 1, so that the bracket tells it
same_weakness : (one other : ℕ) → one ≤ 1 → other ≤ 1 → (one == 1) ≡ (other == 1) → one ≡ other
same_weakness one other p q e = grind (arith, nat_tests)

-- a value and a weakness tell the key
key_once : (one other : ℤ) → (weakness_of one == 1) ≡ (weakness_of other == 1)
    → value_of one ≡ value_of other → one ≡ other
key_once one other weak value =
    let own = split one in
    let its = split other in
    let same = same_weakness (weakness_of one) (weakness_of other) own.small its.small weak in
    omega (arith, ints)

-- The number and the bracket of a lower bound tell its key.
low_once : (one other : ℤ) → one ≤ℤ pos 1 → other ≤ℤ pos 1
    → (weakness_of one == 1) ≡ (weakness_of other == 1)
    → nat_abs (value_of one) ≡ nat_abs (value_of other) → one ≡ other
low_once one other p q weak size =
    let own = split one in
    let its = split other in
    key_once one other weak (same_down (value_of one) (value_of other) (omega (arith, ints))
    (omega (arith, ints)) size)

-- Those of a higher bound tell its key.
high_once : (one other : ℤ) → pos 0 ≤ℤ one → pos 0 ≤ℤ other
    → (weakness_of one == 1) ≡ (weakness_of other == 1)
    → nat_abs (value_of one) ≡ nat_abs (value_of other) → one ≡ other
high_once one other p q weak size =
    let own = split one in
    let its = split other in
    key_once one other weak (same_up (value_of one) (value_of other) (omega (arith, ints))
    (omega (arith, ints)) size)

-- The text of a range tells its two keys and what follows it.
pub range_once : (scale : ℕ) → NumbersTell scale → (low high low' high' : ℤ) (xs ys : List ℕ)
    → AreRangeKeys low high → AreRangeKeys low' high'
    → range_text scale low high ++ xs ≡ range_text scale low' high' ++ ys
    → (low ≡ low') × (high ≡ high') × (xs ≡ ys)
range_once scale tells low high low' high' xs ys keys keys' e =
    let parts = parts_once scale tells (weakness_of low == 1) (weakness_of high == 1)
    (weakness_of low' == 1) (weakness_of high' == 1)
    (nat_abs (value_of low)) (nat_abs (value_of high)) (nat_abs (value_of low'))
    (nat_abs (value_of high')) xs ys
    (printed_within low keys.low_within) (printed_within high keys.high_within)
    (printed_within low' keys'.low_within) (printed_within high' keys'.high_within)
    (sym (range_text-bytes scale low high xs) ∙ e ∙ range_text-bytes scale low' high' ys) in (
      low_once low low' keys.down keys'.down parts.0 parts.1,
      high_once high high' keys.up keys'.up parts.3 parts.2,
      parts.4,
    )
