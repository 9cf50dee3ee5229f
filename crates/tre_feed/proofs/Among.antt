-- Where names stand among others: places stay when names come behind, and tell the bits.
use Rattle.std.proofs.Common.{◌≡◌, ◌≢◌, ℕ, zero, suc, ◌+◌, ◌*◌, ◌/◌, ◌%◌, ◌^◌, ◌<◌, ◌≤◌, Bool, true, false, List, [], ◌∷◌, ◌++◌, length, get_or, take, drop, Option, None, Some, refl, sym, ap, ◌∙◌, subst, arith, length-append, append_assoc}
use Rattle.std.proofs.lemmas.List.{append-nil, length-take, length-drop, take_all, take_more}
use Rattle.std.proofs.lemmas.Option.{get_or_from_slice_get, slice_get_within}
use Rattle.std.proofs.Math.Pow.{pow_mono}
use Rattle.std.specs.Prelude.{All, AllPairs, position, nat_lt, slice_get, IsSomeAnd}
use Rattle.std.specs.Int.{bit_at}
use Rattle.std.specs.Str.{bytes_eq}
use Rattle.std.proofs.lemmas.Bool.Decides.{nat_tests}
use Rattle.std.proofs.lemmas.List.Elements.{All-nil, All-cons, All-push}
use Rattle.std.proofs.lemmas.List.Quantifiers.{position-Some}
use Rattle.std.proofs.lemmas.List.Sums.{position_or_len_is}
use Rattle.std.proofs.lemmas.Nat.Bits.{bit_at-lt}
use Rattle.std.proofs.Math.Nat.{two-pow-succ, pow-suc, div-div-eq-div-mul, mod-one, div-one}
use Rattle.std.proofs.Math.Arith.{mod-mul}
use Rattle.std.proofs.lemmas.Nat.{pow_pos}
use Rattle.std.proofs.lemmas.Slice.Eq.{bytes_eq-Decides}
use Rattle.tre_trace.specs.Reading.{bits_of}
use Rattle.tre_trace.proofs.Naming.{bit, bit-at, first-bit}
use Rattle.tre_state.specs.Name.{IsName}
use Rattle.tre_state.specs.Names.{IsNameList, place_of}
use Rattle.tre_state.specs.declared.names.TheConstants.{NAMES_MAX}
use Rattle.tre_feed.specs.Growth.{Extends}
use Rattle.tre_feed.specs.Places.{ArePlaces}
use Rattle.tre_feed.specs.Taking.{bits_at, AreInOrder}

-- ---- the place of a name

less : (a b : ℕ) → a < b → nat_lt a b ≡ true
less a b h = grind (arith, nat_tests)

-- the first place that passes is the place
is_position : {X : Type 0} (p : X → Bool) (xs : List X) (i : ℕ) (d : X) → i < length xs
    → p (get_or xs i d) ≡ true → ((k : ℕ) → k < i → p (get_or xs k d) ≡ false)
    → position p xs ≡ Some i
is_position p xs i d within here before =
    rw (
      position_or_len_is p xs i d (omega (arith, within)) before (λ _. here),
      less i (length xs) within,
    ) refl

-- elements behind change none of those before
pub get_or-front : {X : Type 0} (xs ys : List X) (i : ℕ) (d : X) → i < length xs
    → get_or (xs ++ ys) i d ≡ get_or xs i d
get_or-front [] ys i d within = absurd (omega (arith, within))
get_or-front (x ∷ xs) ys zero d within = refl
get_or-front (x ∷ xs) ys (suc i) d within =
    get_or-front xs ys i d (omega (arith, within))

pub get_or-last : {X : Type 0} (xs : List X) (x : X) → get_or (xs ++ x ∷ []) (length xs) x ≡ x
get_or-last [] x = refl
get_or-last (y ∷ xs) x = get_or-last xs x

position-front : {X : Type 0} (p : X → Bool) (xs ys : List X) (i : ℕ) (d : X)
    → position p xs ≡ Some i → position p (xs ++ ys) ≡ Some i
position-front p xs ys i d is =
    let at = position-Some p xs i d is in
    is_position p (xs ++ ys) i d (omega (arith, at.0, length-append xs ys))
    (ap p (get_or-front xs ys i d at.0) ∙ at.1)
    (λ k early. ap p (get_or-front xs ys k d (omega (arith, early, at.0))) ∙ at.2 k early)

-- a name keeps its place where others come behind
pub place-kept : (old new : List (List ℕ)) (name : List ℕ) (i : ℕ) → Extends old new
    → place_of old name ≡ Some i → place_of new name ≡ Some i
place-kept old new name i more is =
    subst (λ all. place_of all name ≡ Some i) (sym more.new_is)
    (position-front (bytes_eq name) old more.added i [] is)

pub Extends-none : (names : List (List ℕ)) → Extends names names
Extends-none names = record { added = []; new_is = sym (append-nil names) }

pub Extends-trans : (old mid new : List (List ℕ)) → Extends old mid → Extends mid new
    → Extends old new
Extends-trans old mid new one two = record {
  added = one.added ++ two.added;
  new_is = two.new_is ∙ ap (λ front. front ++ two.added) one.new_is
      ∙ append_assoc old one.added two.added;
}

-- the place of a name that is among others
pub place-within : (names : List (List ℕ)) (name : List ℕ) (i : ℕ) → place_of names name ≡ Some i
    → i < length names
place-within names name i is = (position-Some (bytes_eq name) names i [] is).0

-- ---- the places of names

pub places-kept : (old new asked : List (List ℕ)) (places : List ℕ) → Extends old new
    → ArePlaces asked old places → ArePlaces asked new places
places-kept old new [] [] more are = are
places-kept old new [] (place ∷ places) more are = absurd are
places-kept old new (name ∷ asked) [] more are = absurd are
places-kept old new (name ∷ asked) (place ∷ places) more are =
    (place-kept old new name place more are.0, places-kept old new asked places more are.1)

pub places-push : (all asked : List (List ℕ)) (places : List ℕ) (name : List ℕ) (place : ℕ)
    → ArePlaces asked all places → place_of all name ≡ Some place
    → ArePlaces (asked ++ name ∷ []) all (places ++ place ∷ [])
places-push all [] [] name place are is = (is, tt)
places-push all [] (other ∷ places) name place are is = absurd are
places-push all (first ∷ asked) [] name place are is = absurd are
places-push all (first ∷ asked) (other ∷ places) name place are is =
    (are.0, places-push all asked places name place are.1 is)

pub places-within : (all asked : List (List ℕ)) (places : List ℕ) → length all ≤ NAMES_MAX
    → ArePlaces asked all places → All (λ place. place < NAMES_MAX) places
places-within all [] [] few are = All-nil _
places-within all [] (place ∷ places) few are = absurd are
places-within all (name ∷ asked) [] few are = absurd are
places-within all (name ∷ asked) (place ∷ places) few are =
    let within = place-within all name place are.0 in
    All-cons (λ place. place < NAMES_MAX) place places (omega (arith, within, few))
    (places-within all asked places few are.1)

pub places-count : (all asked : List (List ℕ)) (places : List ℕ) → ArePlaces asked all places
    → length places ≡ length asked
places-count all [] [] are = refl
places-count all [] (place ∷ places) are = absurd are
places-count all (name ∷ asked) [] are = absurd are
places-count all (name ∷ asked) (place ∷ places) are =
    ap suc (places-count all asked places are.1)

-- ---- what is seen by places

bit-of : (test : List ℕ → Bool) (all : List (List ℕ)) (name : List ℕ) (place : ℕ)
    → place_of all name ≡ Some place → bit_at (bits_of test all) place ≡ bit (test name)
bit-of test all name place is =
    let at = position-Some (bytes_eq name) all place [] is in
    bit-at test all place at.0
    ∙ ap (λ n. bit (test n)) (sym ((bytes_eq-Decides name (get_or all place [])).0 at.1))

-- The bits of the asked names, out of those of all.
pub seen-places : (asked all : List (List ℕ)) (places : List ℕ) (test : List ℕ → Bool)
    → ArePlaces asked all places → bits_at places (bits_of test all) ≡ bits_of test asked
seen-places [] all [] test are = refl
seen-places [] all (place ∷ places) test are = absurd are
seen-places (name ∷ asked) all [] test are = absurd are
seen-places (name ∷ asked) all (place ∷ places) test are =
    ap (λ n. n + 2 * bits_at places (bits_of test all)) (bit-of test all name place are.0)
    ∙ ap (λ rest. bit (test name) + 2 * rest) (seen-places asked all places test are.1)
    ∙ sym (first-bit test name asked)

pub bits_at-lt : (places : List ℕ) (bits : ℕ) → bits_at places bits < 2 ^ length places
bits_at-lt [] bits = omega arith
bits_at-lt (place ∷ places) bits =
    omega (arith, bit_at-lt bits place, bits_at-lt places bits, two-pow-succ (length places))

-- there is room for one more bit
pub seen-room : (places : List ℕ) (left bits : ℕ) → length places ≤ NAMES_MAX → 0 < left
    → left ≤ length places → 2 * bits_at (drop left places) bits + 1 < 2 ^ 64
seen-room places left bits few some within =
    let count = length (drop left places) in
    let short : count ≤ 63 = omega (arith, length-drop left places, few, some, within) in
    omega (arith, bits_at-lt (drop left places) bits, pow_mono {i = count} {j = 63} short)

-- ---- names among themselves

false_of : (b : Bool) → (b ≡ true → ⊥) → b ≡ false
false_of true wrong = absurd (wrong refl)
false_of false wrong = refl

-- where names differ, each stands at its own place
pub place-own : (names : List (List ℕ)) (i : ℕ) → AllPairs (λ name other. name ≢ other) names
    → i < length names → place_of names (get_or names i []) ≡ Some i
place-own names i distinct within =
    let name = get_or names i [] in
    is_position (bytes_eq name) names i [] within ((bytes_eq-Decides name name).1 refl)
    (λ k before.
    false_of (bytes_eq name (get_or names k [])) (λ same.
    distinct k i [] before within
    (sym ((bytes_eq-Decides name (get_or names k [])).0 same))))

-- the places of the first names, with one more
pub places-next : (all asked : List (List ℕ)) (places more : List ℕ) (i place : ℕ)
    → i < length asked → ArePlaces (take i asked) all places
    → place_of all (get_or asked i []) ≡ Some place → more ≡ places ++ place ∷ []
    → ArePlaces (take (i + 1) asked) all more
places-next all asked places more i place within are is new =
    rw (take_more asked i [] within, new)
    (places-push all (take i asked) places (get_or asked i []) place are is)

-- the places of the first names are those of all, where these are no more
pub places-all : (asked all : List (List ℕ)) (places : List ℕ) (i : ℕ) → length asked ≤ i
    → ArePlaces (take i asked) all places → ArePlaces asked all places
places-all asked all places i past are =
    subst (λ (names : List (List ℕ)). ArePlaces names all places) (take_all i asked past) are

-- what stands in a list of names is a name
pub name-at : (names : List (List ℕ)) (i : ℕ) (name : List ℕ) → IsNameList names
    → slice_get names i ≡ Some name → IsName name
name-at names i name list is =
    subst IsName (get_or_from_slice_get names i name [] is)
    (list.each i [] (slice_get_within names i name is))

-- they are few
pub places-few : (all asked : List (List ℕ)) (places : List ℕ) (i : ℕ) → length asked ≤ NAMES_MAX
    → ArePlaces (take i asked) all places → length places ≤ NAMES_MAX
places-few all asked places i few are =
    omega (arith, places-count all (take i asked) places are, length-take i asked, few)

-- a name that was put among others has its place behind the places so far
put-at : (found : Option ℕ) (old asked new : List (List ℕ)) (places more : List ℕ) (i : ℕ)
    → i < length asked → Extends old new → ArePlaces (take i asked) old places
    → place_of new (get_or asked i []) ≡ found
    → IsSomeAnd found (λ place. more ≡ places ++ place ∷ [])
    → ArePlaces (take (i + 1) asked) new more
put-at None old asked new places more i within wider are is at = absurd at
put-at (Some place) old asked new places more i within wider are is at =
    places-next new asked places more i place within
    (places-kept old new (take i asked) places wider are) is at

pub places-put : (old asked new : List (List ℕ)) (places more : List ℕ) (i : ℕ) (name : List ℕ)
    → Some name ≡ slice_get asked i → Extends old new → ArePlaces (take i asked) old places
    → IsSomeAnd (place_of new name) (λ place. more ≡ places ++ place ∷ [])
    → ArePlaces (take (i + 1) asked) new more
places-put old asked new places more i name is wider are at =
    let here : get_or asked i [] ≡ name = get_or_from_slice_get asked i name [] (sym is) in
    put-at (place_of new (get_or asked i [])) old asked new places more i
    (slice_get_within asked i name (sym is)) wider are refl
    (rw here at)

-- and is a place of a number of a name
within-at : (found : Option ℕ) (all : List (List ℕ)) (name : List ℕ) (places more : List ℕ)
    → length all ≤ NAMES_MAX → All (λ place. place < NAMES_MAX) places → place_of all name ≡ found
    → IsSomeAnd found (λ place. more ≡ places ++ place ∷ [])
    → All (λ place. place < NAMES_MAX) more
within-at None all name places more few within is at = absurd at
within-at (Some place) all name places more few within is at =
    let here = place-within all name place is in
    rw at (All-push (λ place. place < NAMES_MAX) places place within (omega (arith, here, few)))

pub within-put : (all : List (List ℕ)) (name : List ℕ) (places more : List ℕ)
    → length all ≤ NAMES_MAX → All (λ place. place < NAMES_MAX) places
    → IsSomeAnd (place_of all name) (λ place. more ≡ places ++ place ∷ [])
    → All (λ place. place < NAMES_MAX) more
within-put all name places more few within at =
    within-at (place_of all name) all name places more few within refl at

-- ---- places in order

module _ (bits : ℕ) where
  half : (base : ℕ) → bits / 2 ^ suc base ≡ bits / 2 ^ base / 2
  half base =
      ap (λ n. bits / n) (pow-suc 2 base) ∙ sym (div-div-eq-div-mul bits (2 ^ base) 2)

  -- the bits at the places from one on are those of what is left above it
  bits_at-from : (places : List ℕ) (base : ℕ)
      → ((k : ℕ) → k < length places → get_or places k 0 ≡ base + k)
      → bits_at places bits ≡ bits / 2 ^ base % 2 ^ length places
  bits_at-from [] base each = sym (mod-one (bits / 2 ^ base))
  bits_at-from (place ∷ places) base each =
      let above = bits / 2 ^ base in
      let count = length places in
      let first : place ≡ base = omega (arith, each 0 (omega arith)) in
      let later = λ (k : ℕ) (within : k < length places).
      each (suc k) (omega (arith, within)) ∙ omega arith in
      let low : bit_at bits place ≡ above % 2 = ap (λ at. bit_at bits at) first in
      let high : bits_at places bits ≡ above / 2 % 2 ^ count =
      bits_at-from places (suc base) later ∙ ap (λ rest. rest % 2 ^ count) (half base) in
      let power : above % 2 ^ suc count ≡ above % (2 ^ count * 2) =
      ap (λ n. above % n) (pow-suc 2 count) in
      let whole = mod-mul above {m = 2 ^ count} {c = 2} (pow_pos count) (omega arith) in
      by (bit_at bits place) (above % 2) (bits_at places bits) (above / 2 % 2 ^ count) low high
      ∙ sym (power ∙ whole)
    where
      by : (low bit high rest : ℕ) → low ≡ bit → high ≡ rest → low + 2 * high ≡ rest * 2 + bit
      by low bit high rest one other = omega arith

pub bits_at-order : (places : List ℕ) (bits : ℕ) → AreInOrder places
    → bits_at places bits ≡ bits % 2 ^ length places
bits_at-order places bits order =
    bits_at-from bits places 0 (λ k within. order.each k within ∙ omega arith)
    ∙ ap (λ rest. rest % 2 ^ length places) (div-one bits)
