-- From the mask of sixteen bytes to the first byte of a class.
use Rattle.std.proofs.Common.{◌≡◌, ◌≢◌, ℕ, ◌+◌, ◌-◌, ◌/◌, ◌%◌, ◌^◌, ◌<◌, ◌≤◌, Bool, true, false, cond, List, map, length, length-take-le, take, get_or, refl, sym, ap, subst, ◌∙◌, arith, w64, rules}
use Rattle.std.specs.Int.{bit_at, trailing_zeros}
use Rattle.std.specs.List.{All}
use Rattle.std.proofs.Math.Nat.{div-le_self}
use Rattle.std.proofs.lemmas.Bool.{cases_lt}
use Rattle.std.proofs.lemmas.List.{get_or-take, get_or-map, get_or_past, length-map}
use Rattle.std.proofs.lemmas.List.Elements.{All-from_get_or}
use Rattle.std.proofs.lemmas.Nat.{shr-shr}
use Rattle.std.proofs.lemmas.Nat.Bits.{bit_at-zero, bit_at-trailing_zeros}
use Rattle.std.proofs.lemmas.Simd.{bit_mask_l, length-chunk, get_or-chunk}
use Rattle.tre_parts.specs.Bytes.{NoneBetween, IsNextAt}
use Rattle.tre_parts.specs.Marks.{AreMarks}
use Rattle.tre_parts.specs.Walk.{SeparatedAt}
use Rattle.tre_parts.specs.declared.marks.Marks.{Marks}
use lib.Lanes.{mask_l, chunk}

no_one : (b : Bool) → ◌≡◌ {A = ℕ} 0 (cond b 1 0) → b ≡ false
no_one true is = absurd (omega (arith, is))
no_one false is = refl

a_one : (b : Bool) → ◌≡◌ {A = ℕ} 1 (cond b 1 0) → b ≡ true
a_one true is = refl
a_one false is = absurd (omega (arith, is))

-- Each bit of the number, shifted by some, tells whether its byte is of the class.
module _ (p : ℕ → Bool) (bytes : List ℕ) (i mask : ℕ) (room : i + 16 ≤ length bytes)
    (is : mask ≡ mask_l (map p (chunk i 16 bytes))) where
  abbrev lanes : List ℕ
  lanes = chunk i 16 bytes

  bit_is : (k : ℕ) → k < 16 → bit_at mask k ≡ cond (p (get_or bytes (i + k) 0)) 1 0
  bit_is k small =
      let long = length-chunk i 16 bytes room in
      ap (λ m. bit_at m k) is ∙ bit_mask_l (map p lanes) k
      ∙ ap (λ (b : Bool). cond b 1 0)
      (get_or-map p lanes k 0 false (omega (arith, long, small))
      ∙ ap p (get_or-chunk i 16 bytes k 0 small))

  bit_past : (k : ℕ) → 16 ≤ k → bit_at mask k ≡ 0
  bit_past k past =
      let long = length-chunk i 16 bytes room in
      ap (λ m. bit_at m k) is ∙ bit_mask_l (map p lanes) k
      ∙ ap (λ (b : Bool). cond b 1 0)
      (get_or_past (map p lanes) k false (omega (arith, long, length-map lanes p, past)))

  bit_within : (k : ℕ) → bit_at mask k ≡ 1 → k < 16
  bit_within k set = search (rules, cases_lt, bit_past)

  module _ (by : ℕ) where
    shifted : (k : ℕ) → bit_at (mask / 2 ^ by) k ≡ bit_at mask (by + k)
    shifted k = ap (λ n. n % 2) (shr-shr mask by k)

    -- a bit that is not set is that of another byte
    clear_is : (place k : ℕ) → place ≡ i + by → by + k < 16 → bit_at (mask / 2 ^ by) k ≡ 0
        → p (get_or bytes (place + k) 0) ≡ false
    clear_is place k at small clear =
        let same : place + k ≡ i + (by + k) = omega (arith, at) in
        ap (λ j. p (get_or bytes j 0)) same
        ∙ no_one _ (sym clear ∙ shifted k ∙ bit_is (by + k) small)

    set_is : (place k : ℕ) → place ≡ i + by → by + k < 16 → bit_at (mask / 2 ^ by) k ≡ 1
        → p (get_or bytes (place + k) 0) ≡ true
    set_is place k at small set =
        let same : place + k ≡ i + (by + k) = omega (arith, at) in
        ap (λ j. p (get_or bytes j 0)) same
        ∙ a_one _ (sym set ∙ shifted k ∙ bit_is (by + k) small)

    -- no bit is set
    pub none_found : (place : ℕ) → place ≡ i + by → mask / 2 ^ by ≡ 0
        → NoneBetween p bytes place (i + 16)
    none_found place at none = λ k from to.
        let back : place + (k - place) ≡ k = omega (arith, from) in
        subst (λ j. p (get_or bytes j 0) ≡ false) back
        (clear_is place (k - place) at (omega (arith, from, to, at))
        (ap (λ m. bit_at m (k - place)) none ∙ bit_at-zero (k - place)))

    -- the lowest bit that is set is that of the first byte of the class
    pub first_found : (place : ℕ) → place ≡ i + by → mask / 2 ^ by ≢ 0 → mask < 2 ^ 64
        → IsNextAt p bytes place (place + trailing_zeros w64 (mask / 2 ^ by))
    first_found place at some fits =
        let found = mask / 2 ^ by in
        let run = trailing_zeros w64 found in
        let bit = bit_at-trailing_zeros w64 found (omega (arith, some)) (omega (arith, fits, div-le_self mask (2 ^ by))) in
        let within : by + run < 16 = bit_within (by + run) (sym (shifted run) ∙ bit.1) in
        record {
          behind = omega arith;
          within = omega (arith, at, within, room);
          none = λ k from to.
              let back : place + (k - place) ≡ k = omega (arith, from) in
              subst (λ j. p (get_or bytes j 0) ≡ false) back
              (clear_is place (k - place) at (omega (arith, from, to, within))
              (bit.2 (k - place) (omega (arith, from, to))));
          here = set_is place run at within bit.1;
        }

    -- it is one of the sixteen
    pub found_within : mask / 2 ^ by ≢ 0 → mask < 2 ^ 64
        → by + trailing_zeros w64 (mask / 2 ^ by) < 16
    found_within some fits =
        let found = mask / 2 ^ by in
        let run = trailing_zeros w64 found in
        let bit = bit_at-trailing_zeros w64 found (omega (arith, some)) (omega (arith, fits, div-le_self mask (2 ^ by))) in
        bit_within (by + run) (sym (shifted run) ∙ bit.1)

-- ---- one stretch after another

pub none_joined : (p : ℕ → Bool) (bytes : List ℕ) (from place to : ℕ)
    → NoneBetween p bytes from place → NoneBetween p bytes place to → NoneBetween p bytes from to
none_joined p bytes from place to early late = search rules

pub next_after : (p : ℕ → Bool) (bytes : List ℕ) (from place next : ℕ) → from ≤ place
    → NoneBetween p bytes from place → IsNextAt p bytes place next → IsNextAt p bytes from next
next_after p bytes from place next behind early is = search rules

-- the same of a whole vector
pub none_in : (p : ℕ → Bool) (bytes : List ℕ) (i mask : ℕ) → i + 16 ≤ length bytes
    → mask ≡ mask_l (map p (chunk i 16 bytes)) → mask ≡ 0 → NoneBetween p bytes i (i + 16)
none_in p bytes i mask room is none =
    none_found p bytes i mask room is 0 i (omega arith) (ap (λ m. m / 2 ^ 0) none)

pub first_in : (p : ℕ → Bool) (bytes : List ℕ) (i mask : ℕ) → i + 16 ≤ length bytes
    → mask ≡ mask_l (map p (chunk i 16 bytes)) → mask ≢ 0 → mask < 2 ^ 64
    → IsNextAt p bytes i (i + trailing_zeros w64 mask)
first_in p bytes i mask room is some fits =
    let same : mask / 2 ^ 0 ≡ mask = omega arith in
    subst (λ m. IsNextAt p bytes i (i + trailing_zeros w64 m)) same
    (first_found p bytes i mask room is 0 i (omega arith) (λ none. some (sym same ∙ none)) fits)

-- behind the first one, the mask of the sixteen is still theirs
pub marks_behind : (p : ℕ → Bool) (bytes : List ℕ) (from : ℕ) (marks : Marks)
    → AreMarks p bytes from marks → marks.bits / 2 ^ (from - marks.block) ≢ 0
    → AreMarks p bytes (from + trailing_zeros w64 (marks.bits / 2 ^ (from - marks.block)) + 1) marks
marks_behind p bytes from marks are some =
    let within = found_within p bytes marks.block marks.bits are.within are.bits
    (from - marks.block) some are.fits in
    record {
      behind = omega (arith, are.behind);
      near = omega (arith, are.behind, within);
      within = are.within;
      fits = are.fits;
      bits = are.bits;
    }

pub marks_found : (p : ℕ → Bool) (bytes : List ℕ) (from : ℕ) (marks : Marks)
    → AreMarks p bytes from marks → marks.bits / 2 ^ (from - marks.block) ≢ 0
    → IsNextAt p bytes from (from + trailing_zeros w64 (marks.bits / 2 ^ (from - marks.block)))
marks_found p bytes from marks are some =
    first_found p bytes marks.block marks.bits are.within are.bits (from - marks.block) from
    (omega (arith, are.behind)) some are.fits

-- none of the sixteen is left, and this is the first one behind them
pub marks_past : (p : ℕ → Bool) (bytes : List ℕ) (from place : ℕ) (marks : Marks)
    → AreMarks p bytes from marks → marks.bits / 2 ^ (from - marks.block) ≡ 0
    → IsNextAt p bytes (marks.block + 16) place → IsNextAt p bytes from place
marks_past p bytes from place marks are none is =
    next_after _ _ _ (marks.block + 16) _ are.near (none_found _ _ marks.block marks.bits are.within
    are.bits (from - marks.block) _ (omega (arith, are.behind)) none) is

-- the marks of a block in which the first one was found
pub marks_new : (p : ℕ → Bool) (bytes : List ℕ) (block bits : ℕ) → block + 16 ≤ length bytes
    → bits ≡ mask_l (map p (chunk block 16 bytes)) → bits ≢ 0 → bits < 2 ^ 64
    → AreMarks p bytes (block + trailing_zeros w64 bits + 1) (record { block = block; bits = bits })
marks_new p bytes block bits room is some fits =
    let same : bits / 2 ^ 0 ≡ bits = omega arith in
    let within : 0 + trailing_zeros w64 bits < 16 =
    subst (λ m. 0 + trailing_zeros w64 m < 16) same
    (found_within p bytes block bits room is 0 (λ none. some (sym same ∙ none)) fits) in
    record { behind = omega arith; near = omega (arith, within); within = room; fits = fits; bits = is }

-- ---- from the first place on

pub none_inside : (p : ℕ → Bool) (bytes : List ℕ) → NoneBetween p bytes 0 (length bytes)
    → All (λ byte. p byte ≡ false) bytes
none_inside p bytes none =
    All-from_get_or (λ byte. p byte ≡ false) bytes 0 (λ k within. none k (omega arith) within)

pub ends_at : (p : ℕ → Bool) (bytes : List ℕ) (place : ℕ) → IsNextAt p bytes 0 place
    → SeparatedAt p bytes place
ends_at p bytes place is = record {
  within = is.within;
  inside =
      All-from_get_or (λ byte. p byte ≡ false) (take place bytes) 0 (λ k before.
      let earlier : k < place =
      omega (arith, before, length-take-le place bytes (omega (arith, is.within))) in
      ap p (get_or-take place bytes k 0 earlier) ∙ is.none k (omega arith) earlier);
  ends = is.here;
}
