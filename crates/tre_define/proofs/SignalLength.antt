-- How many bytes in front are a signal's text.
use Rattle.std.proofs.Common.{◌≡◌, ℕ, zero, suc, ◌+◌, ◌<◌, ◌≤◌, Bool, true, false, cond, List, [], ◌∷◌, ◌++◌, length, get_or, take, drop, refl, sym, ap, subst, ◌∙◌, arith, rules}
use Rattle.std.specs.Prelude.{◌==◌, ◌&&◌, not, if◌then◌else◌}
use Rattle.std.specs.List.{list_all, prefix_len}
use Rattle.std.proofs.lemmas.Bool.Decides.{nat_tests}
use Rattle.std.proofs.lemmas.List.{append-nil, drop_all, drop_more, length-take-le}
use Rattle.std.proofs.lemmas.List.Sums.{prefix_len-le-length}
use Rattle.tre_define.specs.Signals.{IsSignal, begins_number, ends_signal, is_no_space, signal_len}
use Rattle.tre_define.specs.Texts.{is_space}
use Rattle.tre_define.proofs.Cutting.{Stops, run-length, spaces}

-- ---- from a place on

len-at : (bytes : List ℕ) (place : ℕ) → place < length bytes
    → signal_len (drop place bytes)
    ≡ (if get_or bytes place 0 == 92 then prefix_len is_no_space (drop place bytes)
    else (if ends_signal (get_or bytes place 0) then 0 else 1 + signal_len (drop (place + 1) bytes)))
len-at bytes place below = search (rules, drop_more, signal_len, is_no_space, ends_signal)

pub len-at_slash : (bytes : List ℕ) (place : ℕ) → place < length bytes
    → get_or bytes place 0 ≡ 92
    → signal_len (drop place bytes) ≡ prefix_len is_no_space (drop place bytes)
len-at_slash bytes place below slash = search (rules, len-at, is_no_space, ends_signal, signal_len)

no_slash : (bytes : List ℕ) (place : ℕ) → place < length bytes
    → (get_or bytes place 0 ≡ 92 → ⊥)
    → signal_len (drop place bytes)
    ≡ (if ends_signal (get_or bytes place 0) then 0 else 1 + signal_len (drop (place + 1) bytes))
no_slash bytes place below other = search (rules, nat_tests, len-at, is_no_space, ends_signal)

pub len-at_end : (bytes : List ℕ) (place : ℕ) → place < length bytes
    → (get_or bytes place 0 ≡ 92 → ⊥) → ends_signal (get_or bytes place 0) ≡ true
    → signal_len (drop place bytes) ≡ 0
len-at_end bytes place below other ends = search (rules, no_slash, signal_len)

pub len-more : (bytes : List ℕ) (place : ℕ) → place < length bytes
    → (get_or bytes place 0 ≡ 92 → ⊥) → ends_signal (get_or bytes place 0) ≡ false
    → signal_len (drop place bytes) ≡ 1 + signal_len (drop (place + 1) bytes)
len-more bytes place below other ends = search (rules, no_slash, signal_len)

pub len-all : (bytes : List ℕ) (place : ℕ) → length bytes ≤ place
    → signal_len (drop place bytes) ≡ 0
len-all bytes place past = ap signal_len (drop_all place bytes past)

-- ---- where it stops

-- a signal's text begins with no space
pub signal-starts : (signal behind : List ℕ) → IsSignal signal behind
    → Stops is_space (signal ++ behind)
signal-starts [] behind is = absurd (omega (arith, is.some))
signal-starts (byte ∷ signal) behind is = search rules

-- ---- it stops at the end or before a byte of ASCII

space-stops : (bytes : List ℕ) → prefix_len is_no_space bytes < length bytes
    → get_or bytes (prefix_len is_no_space bytes) 0 < 128
space-stops [] below = omega arith
space-stops (byte ∷ bytes) below = by (byte == 32) refl below (space-stops bytes) where
  by : (space : Bool) → (byte == 32) ≡ space
      → cond (not space) (1 + prefix_len is_no_space bytes) 0 < length (byte ∷ bytes)
      → (prefix_len is_no_space bytes < length bytes
      → get_or bytes (prefix_len is_no_space bytes) 0 < 128)
      → get_or (byte ∷ bytes) (cond (not space) (1 + prefix_len is_no_space bytes) 0) 0 < 128
  by true e below more =
      let same : byte ≡ 32 = grind (arith, nat_tests) in
      omega (arith, same)
  by false e below more =
      let next : 1 + prefix_len is_no_space bytes ≡ suc (prefix_len is_no_space bytes) =
      omega arith in
      subst (λ n. get_or (byte ∷ bytes) n 0 < 128) (sym next) (more (omega (arith, below)))

ends-ascii : (byte : ℕ) → ends_signal byte ≡ true → byte < 128
ends-ascii byte ends = grind (arith, nat_tests)

pub len-within : (bytes : List ℕ) → signal_len bytes ≤ length bytes
len-within [] = omega arith
len-within (byte ∷ bytes) = by (byte == 92) (ends_signal byte) (len-within bytes) where
  by : (slash ends : Bool) → signal_len bytes ≤ length bytes
      → (if slash then prefix_len is_no_space (byte ∷ bytes)
      else (if ends then 0 else 1 + signal_len bytes)) ≤ length (byte ∷ bytes)
  by true ends more = prefix_len-le-length is_no_space (byte ∷ bytes)
  by false true more = omega arith
  by false false more = omega (arith, more)

pub stops-ascii : (bytes : List ℕ) → signal_len bytes < length bytes
    → get_or bytes (signal_len bytes) 0 < 128
stops-ascii [] below = omega arith
stops-ascii (byte ∷ bytes) below =
    by (byte == 92) (ends_signal byte) refl below (stops-ascii bytes) where
      by : (slash ends : Bool) → ends_signal byte ≡ ends
          → (if slash then prefix_len is_no_space (byte ∷ bytes)
          else (if ends then 0 else 1 + signal_len bytes)) < length (byte ∷ bytes)
          → (signal_len bytes < length bytes → get_or bytes (signal_len bytes) 0 < 128)
          → get_or (byte ∷ bytes) (if slash then prefix_len is_no_space (byte ∷ bytes)
          else (if ends then 0 else 1 + signal_len bytes)) 0 < 128
      by true ends e below more = space-stops (byte ∷ bytes) below
      by false true e below more = ends-ascii byte e
      by false false e below more =
          let next : 1 + signal_len bytes ≡ suc (signal_len bytes) = omega arith in
          subst (λ n. get_or (byte ∷ bytes) n 0 < 128) (sym next) (more (omega (arith, below)))

-- ---- a signal's text alone

run-alone : (test : ℕ → Bool) (bytes : List ℕ)
    → prefix_len test (take (prefix_len test bytes) bytes) ≡ prefix_len test bytes
run-alone test [] = refl
run-alone test (byte ∷ bytes) = by (test byte) refl (run-alone test bytes) where
  by : (passes : Bool) → test byte ≡ passes
      → prefix_len test (take (prefix_len test bytes) bytes) ≡ prefix_len test bytes
      → prefix_len test (take (cond passes (1 + prefix_len test bytes) 0) (byte ∷ bytes))
      ≡ cond passes (1 + prefix_len test bytes) 0
  by true e more =
      let n = prefix_len test bytes in
      let next : 1 + n ≡ suc n = omega arith in
      ap (λ k. prefix_len test (take k (byte ∷ bytes))) next
      ∙ ap (λ t. cond t (1 + prefix_len test (take n bytes)) 0) e
      ∙ ap (λ k. 1 + k) more
  by false e more = refl

-- its length is that of the text in front alone
len-alone : (text : List ℕ) → signal_len (take (signal_len text) text) ≡ signal_len text
len-alone [] = refl
len-alone (byte ∷ bytes) = by (byte == 92) refl (ends_signal byte) refl (len-alone bytes) where
  by : (slash : Bool) → (byte == 92) ≡ slash → (ends : Bool) → ends_signal byte ≡ ends
      → signal_len (take (signal_len bytes) bytes) ≡ signal_len bytes
      → signal_len (take (if slash then prefix_len is_no_space (byte ∷ bytes)
      else (if ends then 0 else 1 + signal_len bytes)) (byte ∷ bytes))
      ≡ (if slash then prefix_len is_no_space (byte ∷ bytes)
      else (if ends then 0 else 1 + signal_len bytes))
  by true s ends e more =
      let same : byte ≡ 92 = grind (arith, nat_tests) in
      let n = prefix_len is_no_space bytes in
      let all : prefix_len is_no_space (byte ∷ bytes) ≡ suc n =
      ap (λ b. cond (is_no_space b) (1 + n) 0) same ∙ omega arith in
      ap (λ k. signal_len (take k (byte ∷ bytes))) all
      ∙ ap (λ t. if t then prefix_len is_no_space (byte ∷ take n bytes)
      else (if ends_signal byte then 0 else 1 + signal_len (take n bytes))) s
      ∙ ap (λ k. prefix_len is_no_space (take k (byte ∷ bytes))) (sym all)
      ∙ run-alone is_no_space (byte ∷ bytes)
  by false s true e more = refl
  by false s false e more =
      let n = signal_len bytes in
      let next : 1 + n ≡ suc n = omega arith in
      ap (λ k. signal_len (take k (byte ∷ bytes))) next
      ∙ ap (λ t. if t then prefix_len is_no_space (byte ∷ take n bytes)
      else (if ends_signal byte then 0 else 1 + signal_len (take n bytes))) s
      ∙ ap (λ t. if t then 0 else 1 + signal_len (take n bytes)) e
      ∙ ap (λ k. 1 + k) more

pub signal-alone : (text : List ℕ) → 0 < signal_len text
    → IsSignal (take (signal_len text) text) []
signal-alone text some =
    let len : length (take (signal_len text) text) ≡ signal_len text =
    length-take-le (signal_len text) text (len-within text) in
    record {
      some = omega (arith, len, some);
      all = ap signal_len (append-nil (take (signal_len text) text)) ∙ len-alone text ∙ sym len;
    }

passes-all : (test : ℕ → Bool) (bytes : List ℕ) → prefix_len test bytes ≡ length bytes
    → list_all test bytes ≡ true
passes-all test [] all = refl
passes-all test (byte ∷ bytes) all = by (test byte) (passes-all test bytes) all where
  by : (passes : Bool)
      → (prefix_len test bytes ≡ length bytes → list_all test bytes ≡ true)
      → cond passes (1 + prefix_len test bytes) 0 ≡ length (byte ∷ bytes)
      → (passes && list_all test bytes) ≡ true
  by true more e = more (omega (arith, e))
  by false more e = absurd (omega (arith, e))

ends-spaces : (count : ℕ) → Stops is_no_space (spaces count)
ends-spaces zero = tt
ends-spaces (suc count) = refl

-- spaces behind a signal's text are none of it
pub signal-ends : (text : List ℕ) (count : ℕ) → signal_len text ≡ length text
    → signal_len (text ++ spaces count) ≡ length text
signal-ends [] zero all = refl
signal-ends [] (suc count) all = refl
signal-ends (byte ∷ bytes) count all =
    by (byte == 92) (ends_signal byte) (signal-ends bytes count) all
  where
    by : (slash ends : Bool)
        → (signal_len bytes ≡ length bytes → signal_len (bytes ++ spaces count) ≡ length bytes)
        → (if slash then prefix_len is_no_space (byte ∷ bytes)
        else (if ends then 0 else 1 + signal_len bytes)) ≡ length (byte ∷ bytes)
        → (if slash then prefix_len is_no_space (byte ∷ (bytes ++ spaces count))
        else (if ends then 0 else 1 + signal_len (bytes ++ spaces count))) ≡ length (byte ∷ bytes)
    by true ends more e =
        run-length is_no_space (byte ∷ bytes) (spaces count)
        (passes-all is_no_space (byte ∷ bytes) e) (ends-spaces count)
    by false true more e = absurd (omega (arith, e))
    by false false more e =
        let longer = more (omega (arith, e)) in
        omega (arith, longer)

-- It begins with no space and with no `=`.
pub signal-first : (signal rest : List ℕ) → IsSignal signal []
    → Stops is_space (signal ++ rest) × Stops (λ byte. byte == 61) (signal ++ rest)
signal-first [] rest is = absurd (omega (arith, is.some))
signal-first (byte ∷ signal) rest is =
    by (byte == 92) refl (ends_signal byte) refl is.all where
      by : (slash : Bool) → (byte == 92) ≡ slash → (ends : Bool) → ends_signal byte ≡ ends
          → (if slash then prefix_len is_no_space (byte ∷ (signal ++ []))
          else (if ends then 0 else 1 + signal_len (signal ++ []))) ≡ length (byte ∷ signal)
          → ((byte == 32) ≡ false) × ((byte == 61) ≡ false)
      by true s ends e all = (grind (arith, nat_tests), grind (arith, nat_tests))
      by false s true e all = absurd (omega (arith, all))
      by false s false e all = (grind (arith, nat_tests), grind (arith, nat_tests))

-- Whether a text begins as a number does is told by its first byte.
pub front-number : (text : List ℕ) (count : ℕ) → 0 < count
    → begins_number (take count text) ≡ begins_number text
front-number text zero some = absurd (omega (arith, some))
front-number [] (suc count) some = refl
front-number (byte ∷ text) (suc count) some = refl

pub more-number : (text rest : List ℕ) → 0 < length text
    → begins_number (text ++ rest) ≡ begins_number text
more-number [] rest some = absurd (omega (arith, some))
more-number (byte ∷ text) rest some = refl
