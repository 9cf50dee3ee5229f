-- Numbers times a power of ten, and divided by one.
use Rattle.std.proofs.Common.{◌≡◌, ℕ, zero, suc, ◌+◌, ◌*◌, ◌-◌, ◌<◌, ◌≤◌, ◌^◌, ◌==◌, ◌&&◌, nat_lt, min, Bool, true, false, List, [], ◌∷◌, ◌++◌, drop, length, take, None, Some, Option, refl, sym, ap, ap₂, ◌∙◌, subst, arith, if◌then◌else◌, ◌⊎◌, inl, inr, ⊎_elim, true≢false, rules}
use Rattle.std.specs.Prelude.{◌/◌, ◌%◌, IfNone, IfSome}
use Rattle.std.specs.Char.{digit_value, is_ascii_digit}
use Rattle.std.specs.List.{list_all}
use Rattle.std.specs.Option.{option_map}
use Rattle.std.specs.Str.Parse.{AllDigits, digits_value, digits_value_after}
use Rattle.std.proofs.Math.Nat.{add-mul, le-mul_of_pos_right, mod-eq-sub-div-mul, mod-eq_of_lt, mul-div-mul_right, mul-div_cancel, mul-mod_left, mul-one, mul-sub, mul_assoc, mul_comm, one-le-pow, pow-le-pow_right, zero-mul}
use Rattle.std.proofs.lemmas.Bool.{cases_lt}
use Rattle.std.proofs.lemmas.Bool.Decides.{nat_tests}
use Rattle.std.proofs.lemmas.Grind.{common_steps}
use Rattle.std.proofs.lemmas.Int.Digits.{digits_value-lt}
use Rattle.std.proofs.lemmas.List.{length-drop, length-take, take-append-drop}
use Rattle.std.proofs.lemmas.List.Folds.{list_all-append}
use Rattle.std.proofs.lemmas.Nat.{div-add-mod', mod-mul-add, pow-add}
use Rattle.tre_decimal.specs.Decimal.{is_numeral, is_zero}
use Rattle.tre_vcd.specs.Kept.{shifted_digits}
use Rattle.tre_vcd.specs.Timescale.{shifted}

-- ---- by one power

tens_pos : (n : ℕ) → 0 < 10 ^ n
tens_pos n = one-le-pow n 10 (omega arith)

-- the quotient, where it is whole
abbrev whole : ℕ → ℕ → Option ℕ
whole m n = if n % m == 0 then Some (n / m) else None

whole-product : (n m : ℕ) → 0 < m → whole m (n * m) ≡ Some n
whole-product n m pos = rw (mul-mod_left n m, mul-div_cancel n pos) refl

whole-none : (m n : ℕ) → (n % m ≡ 0 → ⊥) → whole m n ≡ None
whole-none m n rest = by (n % m == 0) refl
  where
    by : (t : Bool) → (n % m == 0) ≡ t → (if t then Some (n / m) else None) ≡ None
    by true e = absurd (rest (grind (arith, nat_tests)))
    by false e = refl

-- it is exact
pub whole-is : (m n u : ℕ) → whole m n ≡ Some u → u * m ≡ n
whole-is m n u is = by (n % m == 0) refl is
  where
    by : (t : Bool) → (n % m == 0) ≡ t → (if t then Some (n / m) else None) ≡ Some u → u * m ≡ n
    by true e is =
        let none : n % m ≡ 0 = grind (arith, nat_tests) in
        let all : n / m * m + n % m ≡ n = div-add-mod' n m in
        search (rules, all, none, is)
    by false e is = cc

-- no number else is
pub whole-only : (m n u : ℕ) → whole m n ≡ None → u * m ≡ n → ⊥
whole-only m n u is same = by (n % m == 0) refl is
  where
    by : (t : Bool) → (n % m == 0) ≡ t → (if t then Some (n / m) else None) ≡ None → ⊥
    by true e is = cc
    by false e is =
        let none : n % m ≡ 0 = ap (λ k. k % m) (sym same) ∙ mul-mod_left u m in
        grind (arith, nat_tests)

shifted-down : (less n : ℕ) → shifted 0 less n ≡ whole (10 ^ less) n
shifted-down less n = ap (whole (10 ^ less)) (mul-one n)

-- ---- both by a factor

mod-scaled : (n k c : ℕ) → 0 < c → n * c % (k * c) ≡ n * c - n / k * (k * c)
mod-scaled n k c pos =
    mod-eq-sub-div-mul (n * c) (k * c) ∙ ap (λ q. n * c - q * (k * c)) (mul-div-mul_right n k pos)

-- nothing is left exactly where nothing was
left-alike : (n k c : ℕ) → 0 < c → (n * c % (k * c) == 0) ≡ (n % k == 0)
left-alike n k c pos =
    let q = n / k in
    let all : n * c - q * (k * c) ≡ (n - q * k) * c =
    ap (λ m. n * c - m) (sym (mul_assoc q k c)) ∙ sym (sub_mul n (q * k) c) in
    ap (λ m. m == 0) (mod-scaled n k c pos ∙ all ∙ ap (λ m. m * c) (sym (mod-eq-sub-div-mul n k)))
    ∙ zero_scaled (n % k)
  where
    sub_mul : (a b d : ℕ) → (a - b) * d ≡ a * d - b * d
    sub_mul a b d = mul_comm (a - b) d ∙ mul-sub d a b ∙ ap₂ (λ x y. x - y) (mul_comm d a) (mul_comm d b)

    zero_scaled : (m : ℕ) → (m * c == 0) ≡ (m == 0)
    zero_scaled zero = ap (λ m. m == 0) (zero-mul c)
    zero_scaled (suc m) =
        let some : 0 < suc m * c = omega (arith, le-mul_of_pos_right (suc m) pos) in
        grind (arith, nat_tests)

whole-scaled : (n k c : ℕ) → 0 < c → whole (k * c) (n * c) ≡ whole k n
whole-scaled n k c pos =
    ap₂ (λ (t : Bool) (q : ℕ). if t then Some q else None) (left-alike n k c pos)
    (mul-div-mul_right n k pos)

tens_apart : (a b : ℕ) → a ≤ b → 10 ^ b ≡ 10 ^ (b - a) * 10 ^ a
tens_apart a b le =
    let size : b ≡ b - a + a = omega (arith, le) in
    ap (λ n. 10 ^ n) size ∙ pow-add 10 (b - a) a

pub shifted-less : (more less n : ℕ) → more ≤ less → shifted more less n ≡ shifted 0 (less - more) n
shifted-less more less n le =
    ap (λ m. whole m (n * 10 ^ more)) (tens_apart more less le)
    ∙ whole-scaled n (10 ^ (less - more)) (10 ^ more) (tens_pos more)
    ∙ sym (shifted-down (less - more) n)

pub shifted-more : (more less n : ℕ) → less ≤ more
    → shifted more less n ≡ Some (n * 10 ^ (more - less))
shifted-more more less n le =
    ap (whole (10 ^ less)) (ap (λ m. n * m) (tens_apart less more le)
    ∙ sym (mul_assoc n (10 ^ (more - less)) (10 ^ less)))
    ∙ whole-product (n * 10 ^ (more - less)) (10 ^ less) (tens_pos less)

-- ---- the number that digits write, in two parts

value-split : (n : ℕ) (xs : List ℕ)
    → digits_value_after 10 n xs ≡ n * 10 ^ length xs + digits_value 10 xs
value-split n [] = omega (arith, mul-one n)
value-split n (x ∷ xs) =
    let p = 10 ^ length xs in
    let d = digit_value x in
    let front : n * 10 + d ≡ n * 10 + (0 * 10 + d) = omega arith in
    let one : digits_value_after 10 (n * 10 + d) xs ≡ (n * 10 + d) * p + digits_value 10 xs =
    value-split (n * 10 + d) xs in
    let own : digits_value_after 10 (0 * 10 + d) xs ≡ (0 * 10 + d) * p + digits_value 10 xs =
    value-split (0 * 10 + d) xs in
    let split : (n * 10 + d) * p ≡ n * 10 * p + d * p = add-mul (n * 10) d p in
    let none : (0 * 10 + d) * p ≡ 0 * 10 * p + d * p = add-mul (0 * 10) d p in
    let zero : 0 * 10 * p ≡ 0 = zero-mul p in
    let power : n * 10 ^ (1 + length xs) ≡ n * 10 * p =
    ap (λ m. n * m) (pow-add 10 1 (length xs)) ∙ sym (mul_assoc n 10 p) in
    let all : digits_value_after 10 (n * 10 + d) xs
    ≡ n * 10 ^ (1 + length xs) + digits_value_after 10 (0 * 10 + d) xs =
    omega (arith, one, own, split, none, zero, power) in
    let size : 1 + length xs ≡ suc (length xs) = omega arith in
    all ∙ ap (λ m. n * 10 ^ m + digits_value_after 10 (0 * 10 + d) xs) size

value-append : (xs ys : List ℕ)
    → digits_value 10 (xs ++ ys) ≡ digits_value_after 10 (digits_value 10 xs) ys
value-append xs ys = by 0 xs
  where
    by : (n : ℕ) (xs : List ℕ) → digits_value_after 10 n (xs ++ ys)
        ≡ digits_value_after 10 (digits_value_after 10 n xs) ys
    by n [] = refl
    by n (x ∷ xs) = by (n * 10 + digit_value x) xs

pub two_parts : (xs ys : List ℕ)
    → digits_value 10 (xs ++ ys) ≡ digits_value 10 xs * 10 ^ length ys + digits_value 10 ys
two_parts xs ys = value-append xs ys ∙ value-split (digits_value 10 xs) ys

zeros_value : (xs : List ℕ) → list_all is_zero xs ≡ true → digits_value 10 xs ≡ 0
zeros_value [] zeros = refl
zeros_value (x ∷ xs) zeros =
    let here : x ≡ 48 = grind (arith, nat_tests) in
    let more : list_all is_zero xs ≡ true = grind (arith, nat_tests) in
    ap (λ c. digits_value 10 (c ∷ xs)) here ∙ zeros_value xs more

all_digits : (xs : List ℕ) → list_all is_ascii_digit xs ≡ true → AllDigits 10 xs
all_digits [] all = tt
all_digits (x ∷ xs) all =
    let here : is_ascii_digit x ≡ true = grind (arith, nat_tests) in
    let more : list_all is_ascii_digit xs ≡ true = grind (arith, nat_tests) in
    (small x here, all_digits xs more)
  where
    small : (c : ℕ) → is_ascii_digit c ≡ true → digit_value c < 10
    small c digit = grind (arith, common_steps)

first_is : (x : ℕ) (xs : List ℕ)
    → digits_value 10 (x ∷ xs) ≡ digit_value x * 10 ^ length xs + digits_value 10 xs
first_is x xs =
    value-split (0 * 10 + digit_value x) xs
    ∙ ap (λ n. n * 10 ^ length xs + digits_value 10 xs) (zero_front (digit_value x))
  where
    zero_front : (d : ℕ) → 0 * 10 + d ≡ d
    zero_front d = omega arith

-- digits that aren't all zeros
some_value : (xs : List ℕ) → list_all is_ascii_digit xs ≡ true → list_all is_zero xs ≡ false
    → 0 < digits_value 10 xs
some_value [] all some = cc (some)
some_value (x ∷ xs) all some =
    let here : is_ascii_digit x ≡ true = grind (arith, nat_tests) in
    let more : list_all is_ascii_digit xs ≡ true = grind (arith, nat_tests) in
    by here (some_value xs more) (is_zero x) refl some
  where
    digit : (c : ℕ) → is_ascii_digit c ≡ true → is_zero c ≡ false → 0 < digit_value c
    digit c own other = grind (arith, common_steps)

    by : is_ascii_digit x ≡ true → (list_all is_zero xs ≡ false → 0 < digits_value 10 xs)
        → (t : Bool) → is_zero x ≡ t → (t && list_all is_zero xs) ≡ false
        → 0 < digits_value 10 (x ∷ xs)
    by here later true e rest = omega (arith, first_is x xs, later rest)
    by here later false e rest =
        omega (
          arith,
          first_is x xs,
          le-mul_of_pos_right (digit_value x) (tens_pos (length xs)),
          digit x here e,
        )

zeros_digits : (xs : List ℕ) → list_all is_zero xs ≡ true → list_all is_ascii_digit xs ≡ true
zeros_digits [] zeros = refl
zeros_digits (x ∷ xs) zeros =
    let here : x ≡ 48 = grind (arith, nat_tests) in
    let more : list_all is_zero xs ≡ true = grind (arith, nat_tests) in
    rw (here, zeros_digits xs more) refl

and_true : (a b : Bool) → b ≡ true → (a && b) ≡ a
and_true true b is = is
and_true false b is = refl

-- ---- zeros at the end

abbrev capped : ℕ → ℕ
capped n = min n (2 ^ 64 - 1)

module _ (digits : List ℕ) (zeros : ℕ) where
  abbrev front : List ℕ
  front = take (length digits - zeros) digits

  abbrev back : List ℕ
  back = drop (length digits - zeros) digits

  value_is : digits_value 10 digits ≡ digits_value 10 front * 10 ^ length back + digits_value 10 back
  value_is = ap (digits_value 10) (sym (take-append-drop (length digits - zeros) digits))
      ∙ two_parts front back

  digits-parted : list_all is_ascii_digit digits
      ≡ (list_all is_ascii_digit front && list_all is_ascii_digit back)
  digits-parted = ap (list_all is_ascii_digit) (sym (take-append-drop (length digits - zeros) digits))
      ∙ list_all-append is_ascii_digit front back

  back_len : 0 < length digits - zeros → length back ≡ zeros
  back_len some = omega (arith, length-drop (length digits - zeros) digits)

  back_short : length back ≤ zeros
  back_short = omega (arith, length-drop (length digits - zeros) digits)

  -- the value of what is cut off
  back_below : list_all is_ascii_digit back ≡ true → digits_value 10 back < 10 ^ length back
  back_below all = digits_value-lt 10 back (all_digits back all)

  none-front : length digits - zeros ≡ 0 → front ≡ []
  none-front none = rw none refl

  none-back : length digits - zeros ≡ 0 → back ≡ digits
  none-back none = rw none refl

  -- what is cut off is the rest
  rest_is : list_all is_ascii_digit back ≡ true
      → digits_value 10 digits % 10 ^ zeros ≡ digits_value 10 back
  rest_is all = by (length digits - zeros) refl
    where
      by : (n : ℕ) → length digits - zeros ≡ n
          → digits_value 10 digits % 10 ^ zeros ≡ digits_value 10 back
      by zero none =
          let same : back ≡ digits = none-back none in
          let small : digits_value 10 digits < 10 ^ zeros =
          omega (
            arith,
            ap (digits_value 10) same,
            back_below all,
            pow-le-pow_right {n = 10} (omega arith) back_short,
          ) in
          mod-eq_of_lt small ∙ ap (digits_value 10) (sym same)
      by (suc n) some =
          let len : length back ≡ zeros = back_len (omega (arith, some)) in
          ap (λ m. m % 10 ^ zeros) (value_is ∙ ap (λ m. digits_value 10 front * 10 ^ m + digits_value 10 back) len)
          ∙ mod-mul-add (digits_value 10 front) (10 ^ zeros) (digits_value 10 back)
          (subst (λ m. digits_value 10 back < 10 ^ m) len (back_below all))

  later_digits : list_all is_ascii_digit digits ≡ true → list_all is_ascii_digit back ≡ true
  later_digits all = second (list_all is_ascii_digit front) _ (sym digits-parted ∙ all)
    where
      second : (a b : Bool) → (a && b) ≡ true → b ≡ true
      second true b is = is
      second false b is = cc (is)

  by-numeral : (answer : Option ℕ) → (is_numeral digits ≡ false → answer ≡ None)
      → (is_numeral digits ≡ true
      → answer ≡ option_map capped (shifted 0 zeros (digits_value 10 digits)))
      → answer ≡ shifted_digits 0 zeros digits
  by-numeral answer other own = by (is_numeral digits) refl
    where
      by : (t : Bool) → is_numeral digits ≡ t → answer
          ≡ (if t then option_map capped (shifted 0 zeros (digits_value 10 digits)) else None)
      by false e = other e
      by true e = own e

  numeral_digits : is_numeral digits ≡ true → list_all is_ascii_digit digits ≡ true
  numeral_digits is = grind (arith, nat_tests)

  pub rest-left : list_all is_zero back ≡ false → None ≡ shifted_digits 0 zeros digits
  rest-left some = by-numeral None (λ e. refl) (λ e.
      let later = later_digits (numeral_digits e) in
      let more : 0 < digits_value 10 back = some_value back later some in
      sym (ap (option_map capped) (shifted-down zeros (digits_value 10 digits)
      ∙ whole-none (10 ^ zeros) (digits_value 10 digits)
      (λ none. omega (arith, none, rest_is later, more)))))

  pub no-digits : (length digits == 0) ≡ true → None ≡ shifted_digits 0 zeros digits
  no-digits none = by-numeral None (λ e. refl) (λ e.
      let some : 0 < length digits = grind (arith, nat_tests) in
      absurd (grind (arith, nat_tests)))

  module _ (zero : list_all is_zero back ≡ true) where
    shifted_front : length digits - zeros ≡ 0 → shifted 0 zeros (digits_value 10 digits) ≡ Some 0
    shifted_front none =
        let nothing : digits_value 10 digits ≡ 0 =
        ap (digits_value 10) (sym (none-back none)) ∙ zeros_value back zero in
        shifted-down zeros (digits_value 10 digits)
        ∙ ap (whole (10 ^ zeros)) (nothing ∙ sym (zero-mul (10 ^ zeros)))
        ∙ whole-product 0 (10 ^ zeros) (tens_pos zeros)

    pub all-zeros : length digits - zeros ≡ 0 → (length digits == 0) ≡ false
        → Some 0 ≡ shifted_digits 0 zeros digits
    all-zeros none some = by-numeral (Some 0) (λ e.
        let same : back ≡ digits = none-back none in
        let digits_all : list_all is_ascii_digit digits ≡ true =
        ap (list_all is_ascii_digit) (sym same) ∙ zeros_digits back zero in
        absurd (grind (arith, nat_tests)))
        (λ e. sym (ap (option_map capped) (shifted_front none)))

    front_value : 0 < length digits - zeros
        → shifted 0 zeros (digits_value 10 digits) ≡ Some (digits_value 10 front)
    front_value some =
        let all : digits_value 10 digits ≡ digits_value 10 front * 10 ^ zeros =
        value_is ∙ ap₂ (λ m n. digits_value 10 front * 10 ^ m + n) (back_len some)
        (zeros_value back zero) ∙ add-zero (digits_value 10 front * 10 ^ zeros) in
        shifted-down zeros (digits_value 10 digits) ∙ ap (whole (10 ^ zeros)) all
        ∙ whole-product (digits_value 10 front) (10 ^ zeros) (tens_pos zeros)
      where
        add-zero : (n : ℕ) → n + 0 ≡ n
        add-zero n = omega arith

    front-read : (answer : Option ℕ) → 0 < length digits - zeros
        → (is_numeral front ≡ true → answer ≡ Some (capped (digits_value 10 front)))
        → (is_numeral front ≡ false → answer ≡ None) → answer ≡ shifted_digits 0 zeros digits
    front-read answer some own other =
        let size : length front ≡ length digits - zeros =
        omega (arith, length-take (length digits - zeros) digits) in
        let parted : list_all is_ascii_digit digits ≡ list_all is_ascii_digit front =
        digits-parted ∙ and_true (list_all is_ascii_digit front) _ (zeros_digits back zero) in
        let short : nat_lt 0 (length front) ≡ true = grind (arith, nat_tests) in
        let long : nat_lt 0 (length digits) ≡ true = grind (arith, nat_tests) in
        let same : is_numeral digits ≡ is_numeral front =
        ap₂ (λ a b. a && b) (long ∙ sym short) parted in
        by-numeral answer (λ e. other (sym same ∙ e)) (λ e. own (sym same ∙ e)
        ∙ sym (ap (option_map capped) (front_value some)))

    pub front-is : (result : Option ℕ) → 0 < length digits - zeros
        → IfSome result (λ _. is_numeral front ≡ true)
        → IfSome result (λ number. number ≡ capped (digits_value 10 front))
        → IfNone result (is_numeral front ≡ false) → result ≡ shifted_digits 0 zeros digits
    front-is None some numeral value none =
        front-read None some (λ e. absurd (true≢false (sym e ∙ none))) (λ e. refl)
    front-is (Some number) some numeral value none =
        front-read (Some number) some (λ e. ap Some value)
        (λ e. absurd (true≢false (sym numeral ∙ e)))

-- ---- any power

pub less-digits : (more less : ℕ) (digits : List ℕ) → more ≤ less
    → shifted_digits more less digits ≡ shifted_digits 0 (less - more) digits
less-digits more less digits le =
    ap (λ n. if is_numeral digits then option_map capped n else None)
    (shifted-less more less (digits_value 10 digits) le)

-- stopped at the largest number
none_or_some : (n : ℕ) → (n ≡ 0) ⊎ (0 < n)
none_or_some zero = inl refl
none_or_some (suc n) = inr (omega arith)

module _ (most n factor : ℕ) (some : 0 < most) (pos : 0 < factor) where
  past-first : most ≤ n → min (min n most * min factor most) most ≡ min (n * factor) most
  past-first past =
      let first : min n most ≡ most = omega (arith, past) in
      let least : 0 < min factor most = omega (arith, some, pos) in
      let one : most ≤ most * min factor most = le-mul_of_pos_right most least in
      let other : n ≤ n * factor = le-mul_of_pos_right n pos in
      let same : min (min n most * min factor most) most ≡ min (most * min factor most) most =
      ap (λ m. min (m * min factor most) most) first in
      same ∙ omega (arith, one, other, past)

  past-second : most ≤ factor → (n ≡ 0) ⊎ (0 < n)
      → min (min n most * min factor most) most ≡ min (n * factor) most
  past-second past (inl none) =
      let nothing : min n most ≡ 0 = omega (arith, none) in
      ap (λ m. min m most) (ap (λ m. m * min factor most) nothing ∙ zero-mul (min factor most)
      ∙ sym (ap (λ m. m * factor) none ∙ zero-mul factor))
  past-second past (inr least) =
      let second : min factor most ≡ most = omega (arith, past) in
      let kept : 0 < min n most = omega (arith, some, least) in
      let one : most ≤ most * min n most = le-mul_of_pos_right most kept in
      let other : factor ≤ factor * n = le-mul_of_pos_right factor least in
      let same : min (min n most * min factor most) most ≡ min (min n most * most) most =
      ap (λ m. min (min n most * m) most) second in
      same ∙ omega (arith, one, other, past, mul_comm (min n most) most, mul_comm n factor)

  capped-both : min (min n most * min factor most) most ≡ min (n * factor) most
  capped-both = ⊎_elim
      (λ short. ⊎_elim (λ small.
      let one : min n most ≡ n = omega (arith, short) in
      let two : min factor most ≡ factor = omega (arith, small) in
      ap₂ (λ a b. min (a * b) most) one two) (λ past. past-second past (none_or_some n))
      (cases_lt factor most)) past-first (cases_lt n most)

capped-product : (n factor : ℕ) → 0 < factor → capped (capped n * capped factor)
    ≡ capped (n * factor)
capped-product n factor pos = capped-both (2 ^ 64 - 1) n factor (omega arith) pos

pub more-digits : (more less : ℕ) (digits : List ℕ) (number : ℕ) → less ≤ more
    → is_numeral digits ≡ true → number ≡ capped (digits_value 10 digits)
    → Some (capped (number * capped (10 ^ (more - less)))) ≡ shifted_digits more less digits
more-digits more less digits number le numeral is =
    ap (λ n. Some (capped (n * capped (10 ^ (more - less))))) is
    ∙ ap Some (capped-product (digits_value 10 digits) (10 ^ (more - less)) (tens_pos (more - less)))
    ∙ sym (ap₂ (λ (t : Bool) n. if t then option_map capped n else None) numeral
    (shifted-more more less (digits_value 10 digits) le))
