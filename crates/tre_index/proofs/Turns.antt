-- Items in the order of time, and those of them that can reach a key.
use Rattle.std.proofs.Common.{◌≡◌, ℕ, ◌+◌, ◌-◌, ◌<◌, ◌≤◌, ◌⊎◌, ◌↔◌, Bool, true, false, not, IsTrue, refl, List, [], length, get_or, map, take, ap, sym, subst, ◌∙◌, inl, inr, ⊎_elim, arith}
use Rattle.std.proofs.lemmas.Bool.{cases_lt}
use Rattle.std.proofs.lemmas.Int.{ints}
use Rattle.std.proofs.lemmas.List.{get_or-map, get_or-take, length-map, length-take-le, take_all, take-map}
use Rattle.std.specs.Prelude.{ℤ, pos, negsuc, ◌<ℤ◌, ◌≤ℤ◌, slice_index_or}
use Rattle.tre_lanes.specs.Rows.{Reaches, HasNone}
use Rattle.tre_index.specs.Turn.{IsNoEarlier, AreInTurnTo, AreInTurn, IsEarly, IsLate, AreNotLate, IsFirst, IsStretch}

-- The row of the item at a place.
pub row_at : {X : Type 0} (f : X → List ℤ) (items : List X) (place : ℕ) (item : X) (row : List ℤ)
    → place < length items → item ≡ get_or items place item → row ≡ f item
    → get_or (map f items) place [] ≡ row
row_at f items place item row inside is row_is =
    get_or-map f items place item [] inside ∙ ap f (sym is) ∙ sym row_is

itself : (row : List ℤ) → IsNoEarlier row row
itself row = record { least = omega (arith, ints); most = omega (arith, ints) }

lt_or_ge : (a b : ℤ) → (a <ℤ b) ⊎ (b ≤ℤ a)
lt_or_ge (pos m) (pos n) =
    ⊎_elim (λ x. inl (omega (arith, ints, x))) (λ x. inr (omega (arith, ints, x))) (cases_lt m n)
lt_or_ge (pos m) (negsuc n) = inr (omega (arith, ints))
lt_or_ge (negsuc m) (pos n) = inl (omega (arith, ints))
lt_or_ge (negsuc m) (negsuc n) =
    ⊎_elim (λ x. inl (omega (arith, ints, x))) (λ x. inr (omega (arith, ints, x))) (cases_lt n m)

-- It is told by both tests.
pub IsNoEarlier-told : (row before : List ℤ) (early : Bool) → (IsLate before row → ⊥)
    → (IsTrue early ↔ IsEarly row before) → IsTrue (not early) ↔ IsNoEarlier row before
IsNoEarlier-told row before true not_late is = (
  (λ t. absurd (cc)),
  (λ h. let early = is.0 refl in absurd (omega (arith, ints, early.below, h.most))),
)
IsNoEarlier-told row before false not_late is = (
  (λ t. record {
    least = ⊎_elim (λ less. absurd (not_late (record { below = less }))) (λ x. x)
        (lt_or_ge (slice_index_or before 0 (pos 0)) (slice_index_or row 0 (pos 0)));
    most = ⊎_elim (λ less. let e = is.1 (record { below = less }) in absurd (cc)) (λ x. x)
        (lt_or_ge (slice_index_or row 1 (pos 0)) (slice_index_or before 1 (pos 0)));
  }),
  (λ h. refl),
)

pub not_late : (row before : List ℤ) → IsNoEarlier row before → IsLate before row → ⊥
not_late row before h late = omega (arith, ints, late.below, h.least)

trans : {one two three : List ℤ} → IsNoEarlier two one → IsNoEarlier three two
    → IsNoEarlier three one
trans first second = record {
  least = omega (arith, ints, first.least, second.least);
  most = omega (arith, ints, first.most, second.most);
}

-- One more row, which begins no earlier than the one before it.
pub AreInTurnTo-more : (rows : List (List ℤ)) (place : ℕ) (row before : List ℤ) → 1 ≤ place
    → get_or rows place [] ≡ row → get_or rows (place - 1) [] ≡ before → IsNoEarlier row before
    → AreInTurnTo place rows → AreInTurnTo (place + 1) rows
AreInTurnTo-more rows place row before some row_is before_is later old = record {
  each = λ early late le within.
      elim (cases_lt late place) [
        | inl inside ↦ old.each early late le inside
        | inr last ↦
            let here : late ≡ place = omega arith in
            rw here
            (elim (cases_lt early place) [
              | inl first ↦
                  trans (old.each early (place - 1) (omega arith) (omega arith))
                  (rw (row_is, before_is) later)
              | inr same ↦
                  let there : early ≡ place = omega arith in
                  rw there (itself (get_or rows place []))
            ])
      ];
}

pub not_early : {row key : List ℤ} → IsEarly row key → Reaches row key → ⊥
not_early early reaches = omega (arith, ints, early.below, reaches.each 1)

-- Before an item that is too early each is.
pub HasNone-early : (rows : List (List ℤ)) (key row : List ℤ) (place : ℕ) → AreInTurn rows
    → place ≤ length rows → 1 ≤ place → get_or rows (place - 1) [] ≡ row → IsEarly row key
    → HasNone rows key 0 place
HasNone-early rows key row place turn inside some is early = record {
  none = λ k starts ends within reaches.
      let later = turn.each k (place - 1) (omega arith) (omega arith) in
      let most = rw is at later.most in
      omega (arith, ints, most, early.below, reaches.each 1);
}

pub HasNone-through : (rows : List (List ℤ)) (key row : List ℤ) (place : ℕ) → AreInTurn rows
    → place < length rows → get_or rows place [] ≡ row → IsEarly row key
    → HasNone rows key 0 (place + 1)
HasNone-through rows key row place turn inside is early = record {
  none = λ k starts ends within reaches.
      let later = turn.each k place (omega arith) inside in
      let most = rw is at later.most in
      omega (arith, ints, most, early.below, reaches.each 1);
}

-- Behind an item that is too late each is.
pub HasNone-late : (rows : List (List ℤ)) (key row : List ℤ) (place to : ℕ) → AreInTurn rows
    → get_or rows place [] ≡ row → IsLate row key → HasNone rows key place to
HasNone-late rows key row place to turn is late = record {
  none = λ k starts ends within reaches.
      let later = turn.each place k starts within in
      let least = rw is at later.least in
      omega (arith, ints, least, late.below, reaches.each 0);
}

-- A row that begins earlier than the one before it is out of turn.
pub AreInTurnTo-not : (rows : List (List ℤ)) (place : ℕ) (row before : List ℤ) → 1 ≤ place
    → get_or rows place [] ≡ row → get_or rows (place - 1) [] ≡ before
    → (IsNoEarlier row before → ⊥) → AreInTurnTo (place + 1) rows → ⊥
AreInTurnTo-not rows place row before some row_is before_is not turn =
    not (rw (row_is, before_is) at (turn.each (place - 1) place (omega arith) (omega arith)))

pub AreInTurnTo-fewer : (rows : List (List ℤ)) (count fewer : ℕ) → fewer ≤ count
    → AreInTurnTo count rows → AreInTurnTo fewer rows
AreInTurnTo-fewer rows count fewer le turn = record {
  each = λ early late rises within. turn.each early late rises (omega (arith, within, le));
}

-- The first items are in turn as they are among all.
pub AreInTurn-take : {X : Type 0} (f : X → List ℤ) (items : List X) (count : ℕ)
    → count ≤ length items → AreInTurnTo count (map f items) → AreInTurn (map f (take count items))
AreInTurn-take f items count within turn =
    let long : length (take count (map f items)) ≡ count =
    length-take-le count (map f items) (omega (arith, within, length-map items f)) in
    rw (← take-map f count items) (record {
      each = λ early late le inside.
          let last : late < count = omega (arith, inside, long) in
          rw (
            get_or-take count (map f items) late [] last,
            get_or-take count (map f items) early [] (omega (arith, le, last)),
          )
          (turn.each early late le last);
    })

-- All items are in turn where so many of the first ones are that no more can be.
pub AreInTurn-same : {X : Type 0} (f : X → List ℤ) (items : List X) (count : ℕ)
    → count ≡ length items → AreInTurn (map f (take count items)) → AreInTurn (map f items)
AreInTurn-same f items count same turn =
    subst (λ (list : List _). AreInTurn (map f list)) (take_all count items (omega (arith, same)))
    turn

pub AreInTurn-fewer : {X : Type 0} (f : X → List ℤ) (items : List X) (count : ℕ)
    → count < length items → (AreInTurnTo (count + 1) (map f items) → ⊥)
    → AreInTurn (map f items) → ⊥
AreInTurn-fewer f items count less most turn =
    most (record {
      each = λ early late le inside.
          turn.each early late le (omega (arith, inside, less, length-map items f));
    })

-- Behind a row that is not too early none is.
pub not_early-from : (rows : List (List ℤ)) (key : List ℤ) (from k : ℕ) → AreInTurn rows
    → from ≤ k → k < length rows → (IsEarly (get_or rows from []) key → ⊥)
    → IsEarly (get_or rows k []) key → ⊥
not_early-from rows key from k turn starts within not early =
    let most = (turn.each from k starts within).most in
    not (record { below = omega (arith, ints, most, early.below) })

-- One more row that is not too late.
pub AreNotLate-more : (rows : List (List ℤ)) (key row : List ℤ) (from to : ℕ)
    → get_or rows to [] ≡ row → (IsLate row key → ⊥) → AreNotLate rows key from to
    → AreNotLate rows key from (to + 1)
AreNotLate-more rows key row from to is not old = record {
  each = λ k starts ends late.
      elim (cases_lt k to) [
        | inl inside ↦ old.each k starts inside late
        | inr last ↦
            let same : k ≡ to = omega arith in
            not (rw (same, is) at late)
      ];
}

-- Every row of a stretch meets the key's begins.
pub IsStretch-of : (rows : List (List ℤ)) (key : List ℤ) (from to count : ℕ) → AreInTurn rows
    → count ≡ length rows → IsFirst rows key from → from ≤ to → to ≤ count
    → HasNone rows key to count → AreNotLate rows key from to
    → IsStretch rows key (record { from = from; to = to })
IsStretch-of rows key from to count turn long first rising ends behind near = record {
  rising = rising;
  ends = omega (arith, ends, long);
  before = first.before;
  behind = subst (HasNone rows key to) long behind;
  not_early = λ k starts within.
      not_early-from rows key from k turn starts (omega (arith, within, ends, long))
      (first.here (omega (arith, starts, within, ends, long)));
  not_late = λ k starts within. near.each k starts within;
}
