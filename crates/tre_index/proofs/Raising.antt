-- Levels of bounds, after one place of each was made to reach a row.
use Rattle.std.proofs.Common.{◌≡◌, ◌≢◌, ℕ, ◌+◌, ◌-◌, ◌*◌, ◌/◌, ◌<◌, ◌≤◌, List, [], ◌∷◌, length, get_or, map, set, refl, sym, ap, subst, ◌∙◌, inl, inr, arith}
use Rattle.std.proofs.lemmas.Bool.{cases_lt, cases_eq}
use Rattle.std.proofs.lemmas.List.{get_or-map, get_or-set_same, get_or-set_other, get_or_default, length-set}
use Rattle.std.specs.Prelude.{ℤ}
use Rattle.tre_lanes.specs.Rows.{Reaches}
use Rattle.tre_index.specs.Index.{IsUpper, IsUnder, IsIndex, Lifted, HasRoom, HasBound, IsRisen, AreRisen}
use Rattle.tre_index.proofs.Searching.{Reaches-trans, Reaches-itself}

abbrev Rows : Type 0
Rows = List (List ℤ)

-- A bound that is raised where it stands.
module _ (old : Rows) (place : ℕ) (one row high : List ℤ) (inside : place < length old)
    (is : one ≡ get_or old place one) (upper : IsUpper high one row) where
  abbrev changed : Rows
  changed = set old place high

  here : get_or changed place [] ≡ high
  here = get_or-set_same old place high [] inside

  there : (k : ℕ) → k ≢ place → get_or changed k [] ≡ get_or old k []
  there k other = get_or-set_other old place k high [] other

  was : get_or old place [] ≡ one
  was = get_or_default old place [] one inside ∙ sym is

  pub lifted_in_place : Lifted old changed place row
  lifted_in_place = record {
    wider = omega (arith, length-set old place high);
    narrow = omega (arith, length-set old place high);
    within = omega (arith, length-set old place high, inside);
    reaches = rw here upper.second;
    risen = λ k less.
        elim (cases_eq k place) [
          | inl same ↦ rw (same, here, was) upper.first
          | inr other ↦ rw (there k other) (Reaches-itself (get_or old k []))
        ];
    least = λ k bound less old_reached row_reached.
        elim (cases_eq k place) [
          | inl same ↦
              rw (same, here)
              (upper.least bound (rw (same, was) at (old_reached (omega (arith, same, inside))))
              (row_reached same))
          | inr other ↦
              rw (there k other) (old_reached (omega (arith, less, length-set old place high)))
        ];
  }

pub risen_none : (levels : List Rows) → length levels ≡ 0 → AreRisen levels levels
unfolding AreRisen
risen_none [] none = refl
risen_none (bounds ∷ above) none = absurd (omega arith)

pub bound_none : (levels : List Rows) (place : ℕ) (row : List ℤ) → length levels ≡ 0
    → HasBound levels place row
unfolding HasBound
bound_none [] place row none = tt
bound_none (bounds ∷ above) place row none = absurd (omega arith)

IsRisen-itself : (rows : Rows) → IsRisen rows rows
IsRisen-itself rows = record {
  wider = omega arith;
  risen = λ k within. Reaches-itself (get_or rows k []);
}

-- Rows stay under bounds that rise.
pub under_risen : (rows : Rows) (above higher : List Rows) → AreRisen above higher
    → IsUnder rows above → IsUnder rows higher
unfolding AreRisen IsUnder
under_risen rows [] higher risen under = subst (IsUnder rows) (sym risen) tt
under_risen rows (bounds ∷ above) [] risen under = absurd risen
under_risen rows (bounds ∷ above) (new ∷ higher) risen under = record {
  room = λ k within. omega (arith, under.room k within, risen.wider);
  reaches = λ k within. Reaches-trans (risen.risen (k / 8) (under.room k within))
      (under.reaches k within);
}

-- One more row goes under the bounds where its block has one.
pub room_above : (rows : Rows) (above : List Rows) (place : ℕ) → IsUnder rows above
    → place ≤ length rows
    → HasRoom above (place / 8)
unfolding IsUnder HasRoom
room_above rows [] place under small = tt
room_above rows (bounds ∷ above) place under small =
    elim (cases_eq (place / 8) 0) [
      | inl first ↦ omega arith
      | inr later ↦ omega (arith, under.room ((place / 8) * 8 - 1) (omega arith))
    ]

-- Rows of which one was made to reach a row stay under bounds that reach it too.
lifted_under : (old new : Rows) (higher : List Rows) (place : ℕ) (row : List ℤ)
    → place ≤ length old → Lifted old new place row → IsUnder old higher
    → HasBound higher (place / 8) row → IsUnder new higher
unfolding IsUnder HasBound
lifted_under old new [] place row small lifted under bound = tt
lifted_under old new (bounds ∷ above) place row small lifted under bound = record {
  room = λ k within.
      elim (cases_lt k (length old)) [
        | inl early ↦ under.room k early
        | inr late ↦
            let here : k ≡ place = omega (arith, lifted.narrow, small) in
            omega (arith, bound.0, ap (λ i. i / 8) here)
      ];
  reaches = λ k within.
      lifted.least k (get_or bounds (k / 8) []) within (under.reaches k)
      (λ here. subst (λ i. Reaches (get_or bounds (i / 8) []) row) (sym here) bound.1);
}

module _ (levels : List Rows) (first : Rows) (above : List Rows) (are : levels ≡ first ∷ above)
    (index : IsIndex levels) where
  under : IsUnder first above
  unfolding IsIndex
  under = (subst IsIndex are index).0

  pub index_above : IsIndex above
  unfolding IsIndex
  index_above = (subst IsIndex are index).1

  pub room_first : (place : ℕ) → HasRoom levels place → place ≤ length first
  unfolding HasRoom
  room_first place room = subst (λ (l : List Rows). HasRoom l place) are room

  pub room_others : (place : ℕ) → HasRoom levels place → HasRoom above (place / 8)
  room_others place room = room_above first above place under (room_first place room)

  module _ (higher : List Rows) (higher_index : IsIndex higher)
      (risen : AreRisen above higher) where
    -- The first level stays as it was.
    pub kept_index : (new : Rows) → new ≡ first → IsIndex (new ∷ higher)
    unfolding IsIndex
    kept_index new same = (
      subst (λ (rows : Rows). IsUnder rows higher) (sym same)
          (under_risen first above higher risen under),
      higher_index,
    )

    pub kept_risen : (new : Rows) → new ≡ first → AreRisen levels (new ∷ higher)
    unfolding AreRisen
    kept_risen new same =
        subst (λ (l : List Rows). AreRisen l (new ∷ higher)) (sym are)
        (subst (IsRisen first) (sym same) (IsRisen-itself first))

    module _ (new : Rows) (place : ℕ) (row : List ℤ) (lifted : Lifted first new place row) where
      pub lifted_index : place ≤ length first → HasBound higher (place / 8) row
          → IsIndex (new ∷ higher)
      unfolding IsIndex
      lifted_index small bound = (
        lifted_under first new higher place row small lifted
            (under_risen first above higher risen under) bound,
        higher_index,
      )

      pub lifted_risen : AreRisen levels (new ∷ higher)
      unfolding AreRisen
      lifted_risen =
          subst (λ (l : List Rows). AreRisen l (new ∷ higher)) (sym are)
          (record { wider = lifted.wider; risen = lifted.risen })

      pub lifted_bound : HasBound (new ∷ higher) place row
      unfolding HasBound
      lifted_bound = (lifted.within, lifted.reaches)

-- The rows before the place have a bound, and no bound is above none of them.
pub record IsAboveFirst (rows bounds : List (List ℤ)) (place : ℕ) : Type 0 where
  pub blocks : length bounds ≡ (place + 7) / 8
  pub reaches : (k : ℕ) → k < place → k < length rows
      → Reaches (get_or bounds (k / 8) []) (get_or rows k [])

-- Bounds that are made one row after another.
pub above_more : {X : Type 0} (f : X → List ℤ) (items : List X) (place : ℕ) (item : X)
    (row : List ℤ) (old new : Rows)
    → place < length items → item ≡ get_or items place item → row ≡ f item
    → Lifted old new (place / 8) row
    → IsAboveFirst (map f items) old place → IsAboveFirst (map f items) new (place + 1)
above_more f items place item row old new inside is row_is lifted above = record {
  blocks = omega (arith, above.blocks, lifted.wider, lifted.narrow, lifted.within);
  reaches = λ k ends within.
      elim (cases_lt k place) [
        | inl early ↦
            Reaches-trans (lifted.risen (k / 8) (omega (arith, above.blocks)))
            (above.reaches k early within)
        | inr late ↦
            let here : place ≡ k = omega arith in
            let same : row ≡ get_or (map f items) place [] =
            row_is ∙ ap f is ∙ sym (get_or-map f items place item [] inside) in
            subst (λ i. Reaches (get_or new (i / 8) []) (get_or (map f items) i [])) here
            (subst (Reaches (get_or new (place / 8) [])) same lifted.reaches)
      ];
}
