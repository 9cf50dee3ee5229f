-- Numbers that were read in order stand in the order of their first use, and only those.
use Rattle.std.proofs.Common.{◌≡◌, ℕ, ◌+◌, ◌<◌, ◌≤◌, ◌↔◌, ◌⊎◌, List, [], ◌∷◌, ◌++◌, Some, refl, sym, ap, ◌∙◌, ⊎_elim, arith, rules}
use Rattle.std.specs.Prelude.{All, Contains}
use Rattle.std.proofs.lemmas.Bool.{cases_lt}
use Rattle.std.proofs.lemmas.Bool.Decides.{nat_tests}
use Rattle.std.proofs.lemmas.List.Elements.{All-nil, All-cons, All-contains, Contains-append_right}
use Rattle.tre_syntax.specs.FirstUse.{AreInOrderOfUse}
use Rattle.tre_syntax.specs.PatternTree.{seen_after}
use Rattle.tre_syntax.proofs.Counts.{seen_after_parts}

-- one number: it was seen already, or it is the next
first_number : (seen i : ℕ) (rest : List ℕ) (m : ℕ) → seen_after seen (i ∷ rest) ≡ Some m
    → ((i < seen) × (seen_after seen rest ≡ Some m))
    ⊎ ((i ≡ seen) × (seen_after (seen + 1) rest ≡ Some m))
first_number seen i rest m e = grind (arith, nat_tests)

pub seen_old : (seen i : ℕ) (rest : List ℕ) (m : ℕ) → i < seen → seen_after seen rest ≡ Some m
    → seen_after seen (i ∷ rest) ≡ Some m
seen_old seen i rest m lt e = grind (arith, nat_tests)

pub seen_new : (seen i : ℕ) (rest : List ℕ) (m : ℕ) → i ≡ seen → seen_after (seen + 1) rest ≡ Some m
    → seen_after seen (i ∷ rest) ≡ Some m
seen_new seen i rest m is e = grind (arith, nat_tests)

Contains-later : (x : ℕ) (xs : List ℕ) (i : ℕ) → Contains xs i → Contains (x ∷ xs) i
Contains-later x xs i h = Contains-append_right (x ∷ []) xs i h

Contains-first : (x : ℕ) (xs : List ℕ) (i : ℕ) → x ≡ i → Contains (x ∷ xs) i
Contains-first x xs i is = search rules

Contains-none : (i : ℕ) → Contains [] i → ⊥
Contains-none i (k, below, at) = absurd (omega (arith, below))

Contains-cases : (x : ℕ) (xs : List ℕ) (i : ℕ) → Contains (x ∷ xs) i → (x ≡ i) ⊎ Contains xs i
Contains-cases x xs i h = search rules

-- each number that was read was seen in the end
pub all_seen : (seen : ℕ) (xs : List ℕ) (m : ℕ) → seen_after seen xs ≡ Some m
    → All (λ i. i < m) xs × (seen ≤ m)
all_seen seen [] m e = let same : seen ≡ m = cc in (All-nil (λ i. i < m), omega arith)
all_seen seen (x ∷ xs) m e =
    ⊎_elim
    (λ old. let more = all_seen seen xs m old.1 in
    (All-cons (λ i. i < m) x xs (omega (arith, old.0, more.1)) more.0, more.1))
    (λ new. let more = all_seen (seen + 1) xs m new.1 in
    (All-cons (λ i. i < m) x xs (omega (arith, new.0, more.1)) more.0, omega (arith, more.1)))
    (first_number seen x xs m e)

-- and what was seen since was read
each_read : (seen : ℕ) (xs : List ℕ) (m : ℕ) → seen_after seen xs ≡ Some m → (i : ℕ) → seen ≤ i
    → i < m → Contains xs i
each_read seen [] m e i low high = let same : seen ≡ m = cc in absurd (omega arith)
each_read seen (x ∷ xs) m e i low high =
    ⊎_elim
    (λ old. Contains-later x xs i (each_read seen xs m old.1 i low high))
    (λ new. ⊎_elim
    (λ later. Contains-later x xs i (each_read (seen + 1) xs m new.1 i (omega (arith, later)) high))
    (λ here. Contains-first x xs i (omega (arith, new.0, low, here)))
    (cases_lt seen i))
    (first_number seen x xs m e)

-- where each number stands only behind all smaller ones that weren't seen, all are read through
read_through : (seen : ℕ) (xs : List ℕ)
    → ((front : List ℕ) (i : ℕ) (back : List ℕ) → xs ≡ front ++ i ∷ back → (j : ℕ) → seen ≤ j
    → j < i → Contains front j)
    → (m : ℕ) × (seen_after seen xs ≡ Some m)
read_through seen [] order = (seen, refl)
read_through seen (x ∷ xs) order =
    let behind : (j : ℕ) → x < j → seen ≤ j → (front : List ℕ) (i : ℕ) (back : List ℕ)
    → xs ≡ front ++ i ∷ back → j < i → Contains front j =
    λ j above low front i back parts high.
    ⊎_elim (λ is. absurd (omega (arith, is, above))) (λ more. more)
    (Contains-cases x front j
    (order (x ∷ front) i back (ap (λ (ys : List ℕ). x ∷ ys) parts) j low high)) in
    ⊎_elim
    (λ old.
    let more =
    read_through seen xs
    (λ front i back parts j low high.
    behind j (omega (arith, old, low)) low front i back parts high) in
    (more.0, seen_old seen x xs more.0 old more.1))
    (λ other. ⊎_elim
    (λ gap. absurd (Contains-none seen (order [] x xs refl seen (omega arith) gap)))
    (λ no.
    let is : x ≡ seen = omega (arith, other, no) in
    let more =
    read_through (seen + 1) xs
    (λ front i back parts j low high. behind j (omega (arith, is, low))
    (omega (arith, low)) front i back parts high) in
    (more.0, seen_new seen x xs more.0 is more.1))
    (cases_lt seen x))
    (cases_lt x seen)

in_order : (xs : List ℕ) (m : ℕ) → seen_after 0 xs ≡ Some m → AreInOrderOfUse m xs
in_order xs m e = record {
  used =
      λ i. (
        (λ below. each_read 0 xs m e i (omega arith) below),
        (λ stands. All-contains (λ i. i < m) xs i (all_seen 0 xs m e).0 stands),
      );
  order = λ front i back parts j below.
      let read = seen_after_parts 0 front (i ∷ back) m (ap (seen_after 0) (sym parts) ∙ e) in
      let seen : i ≤ read.0 =
      ⊎_elim (λ old. let lt = old.0 in omega (arith, lt)) (λ new. let is = new.0 in
      omega (arith, is)) (first_number read.0 i back m read.2) in
      each_read 0 front read.0 read.1 j (omega arith) (omega (arith, below, seen));
}

pub in_order_iff : (xs : List ℕ) (count : ℕ) → (seen_after 0 xs ≡ Some count)
    ↔ AreInOrderOfUse count xs
in_order_iff xs count = (
  λ e. in_order xs count e,
  λ h.
      let read =
      read_through 0 xs (λ front i back parts j low high. h.order front i back parts j high) in
      let found = in_order xs read.0 read.1 in
      let same : read.0 ≡ count =
      ⊎_elim
      (λ fewer. absurd (let lt = (found.used read.0).1 ((h.used read.0).0 fewer) in
      omega (arith, lt)))
      (λ no. ⊎_elim
      (λ more. absurd (let lt = (h.used count).1 ((found.used count).0 more) in omega (arith, lt)))
      (λ none. omega (arith, no, none))
      (cases_lt count read.0))
      (cases_lt read.0 count) in
      read.1 ∙ ap (λ (m : ℕ). Some m) same,
)
