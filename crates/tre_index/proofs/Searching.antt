-- The search for the next row that reaches a key: from block to block, by the bounds above them.
use Rattle.std.proofs.Common.{◌≡◌, ℕ, ◌+◌, ◌*◌, ◌/◌, ◌<◌, ◌≤◌, min, List, [], ◌∷◌, length, get_or, map, Option, Some, None, refl, sym, ap, subst, ◌∙◌, inl, inr, arith}
use Rattle.std.proofs.lemmas.Bool.{cases_lt}
use Rattle.std.proofs.lemmas.Int.{ints}
use Rattle.std.proofs.lemmas.List.{get_or-map}
use Rattle.std.specs.Prelude.{ℤ}
use Rattle.tre_lanes.specs.Rows.{Reaches, HasNone, IsNext, FindsNext}
use Rattle.tre_index.specs.Index.{IsAbove, IsUnder, IsIndex, FindsBlock}

pub Reaches-trans : {a b c : List ℤ} → Reaches a b → Reaches b c → Reaches a c
Reaches-trans above below = record {
  each = λ lane. omega (arith, ints, above.each lane, below.each lane);
}

pub Reaches-itself : (row : List ℤ) → Reaches row row
Reaches-itself row = record { each = λ lane. omega (arith, ints) }

-- A search from `from` on has come to the place, and passed no row that reaches the key.
pub record HasPassed (rows : List (List ℤ)) (key : List ℤ) (from place : ℕ) : Type 0 where
  pub starts : from ≤ place
  pub passed : HasNone rows key from place

-- One more item, whose row does not reach the key.
pub HasNone-more : {X : Type 0} (f : X → List ℤ) (items : List X) (key : List ℤ) (from place : ℕ)
    (item : X)
    (row : List ℤ) → HasNone (map f items) key from place → place < length items
    → item ≡ get_or items place item → row ≡ f item → (Reaches row key → ⊥)
    → HasNone (map f items) key from (place + 1)
HasNone-more f items key from place item row none inside is row_is below = record {
  none = λ k starts ends within reaches.
      elim (cases_lt k place) [
        | inl early ↦ none.none k starts early within reaches
        | inr late ↦
            let here : k ≡ place = omega arith in
            let at = get_or-map f items place item [] inside in
            let same : get_or (map f items) k [] ≡ row =
            ap (λ i. get_or (map f items) i []) here ∙ at ∙ ap f (sym is) ∙ sym row_is in
            below (subst (λ r. Reaches r key) same reaches)
      ];
}

module _ (rows : List (List ℤ)) (key : List ℤ) (from place : ℕ)
    (passed : HasPassed rows key from place) where
  -- Between the place and another there is none either.
  joined : (to : ℕ) → HasNone rows key place to → HasNone rows key from to
  joined to none = record {
    none = λ k starts ends within reaches.
        elim (cases_lt k place) [
          | inl early ↦ passed.passed.none k starts early within reaches
          | inr late ↦ none.none k late ends within reaches
        ];
  }

  pub passed_all : length rows ≤ place → HasNone rows key from (length rows)
  passed_all all = record {
    none = λ k starts ends within reaches. passed.passed.none k starts (omega arith) within reaches;
  }

  pub found_next : (found : ℕ) → IsNext rows key place found → IsNext rows key from found
  found_next found next = record {
    starts = omega (arith, passed.starts, next.starts);
    ends = next.ends;
    reaches = next.reaches;
    first = joined found next.first;
  }

  -- The rest of the block of the place was looked at, up to where the next block begins.
  module _ (block end : ℕ) (end_is : end ≡ min (block * 8) (length rows))
      (none : HasNone rows key place end) where
    -- The rows from the place on, up to the block that was found.
    skipped : (bounds : List (List ℤ)) → IsAbove rows bounds → (to next : ℕ)
        → HasNone bounds key block next → to ≤ next * 8 → HasNone rows key place to
    skipped bounds above to next no_bound small = record {
      none = λ k starts ends within reaches.
          elim (cases_lt k end) [
            | inl early ↦ none.none k starts early within reaches
            | inr late ↦
                no_bound.none (k / 8) (omega arith) (omega arith) (above.room k within)
                (Reaches-trans (above.reaches k within) reaches)
          ];
    }

    -- The block that was found is the one that was asked for, or a later one.
    comes_later : (levels : List (List (List ℤ))) (next : ℕ)
        → FindsBlock levels key block (Some next) → block ≤ next
    unfolding FindsBlock
    comes_later [] next finds = let same : next ≡ block = cc in omega arith
    comes_later (bounds ∷ above) next finds = finds.starts

    to_next : (levels : List (List (List ℤ))) (next start : ℕ)
        → start ≡ min (next * 8) (length rows)
        → IsUnder rows levels → FindsBlock levels key block (Some next)
        → HasNone rows key place start
    unfolding FindsBlock IsUnder
    to_next [] next start start_is under finds =
        let same : next ≡ block = cc in
        let ends : end ≡ start = end_is ∙ ap (λ b. min (b * 8) (length rows)) (sym same)
        ∙ sym start_is in
        subst (HasNone rows key place) ends none
    to_next (bounds ∷ above) next start start_is under finds =
        skipped bounds under start next finds.first (omega arith)

    module _ (levels : List (List (List ℤ))) (next start : ℕ)
        (finds : FindsBlock levels key block (Some next)) (inside : place < length rows)
        (up : place ≤ block * 8) (start_is : start ≡ min (next * 8) (length rows)) where
      -- The search has come to the block that was found.
      pub comes_to : IsUnder rows levels → HasPassed rows key from start
      comes_to under = record {
        starts = let later = comes_later levels next finds in omega (arith, passed.starts);
        passed = joined start (to_next levels next start start_is under finds);
      }

      pub moves_on : (end : ℕ) → end ≡ min (next * 8 + 8) (length rows) → place < end
      moves_on end end_is = let later = comes_later levels next finds in omega arith

    pub found_none : (levels : List (List (List ℤ))) → IsUnder rows levels
        → FindsBlock levels key block None
        → HasNone rows key from (length rows)
    unfolding FindsBlock IsUnder
    found_none [] under finds = absurd (cc)
    found_none (bounds ∷ above) under finds =
        joined (length rows)
        (record {
          none = λ k starts ends within reaches.
              let room : k / 8 < length bounds = under.room k within in
              let all = skipped bounds under (length bounds * 8) (length bounds) finds
              (omega arith) in
              all.none k starts (omega (arith, room)) within reaches;
        })

-- No row of the block that was found reaches the key.
pub goes_on : (rows : List (List ℤ)) (key : List ℤ) (from start end : ℕ)
    → HasPassed rows key from start → start ≤ end → HasNone rows key start end
    → HasPassed rows key from end
goes_on rows key from start end passed rises none = record {
  starts = omega (arith, passed.starts, rises);
  passed = joined rows key from start passed end none;
}

-- Levels, the rows of the first of them, and the others.
module _ (levels : List (List (List ℤ))) (first : List (List ℤ)) (above : List (List (List ℤ)))
    (are : levels ≡ first ∷ above) where
  module _ (rows : List (List ℤ)) (same : rows ≡ first) where
    pub finds_at : (key : List ℤ) (from : ℕ) (answer : Option ℕ) → FindsNext rows key from answer
        → FindsBlock levels key from answer
    unfolding FindsBlock
    finds_at key from answer finds =
        subst (λ (l : List (List (List ℤ))). FindsBlock l key from answer) (sym are)
        (subst (λ (r : List (List ℤ)). FindsNext r key from answer) same finds)

    pub first_under : IsIndex levels → IsUnder rows above
    unfolding IsIndex
    first_under index =
        subst (λ (r : List (List ℤ)). IsUnder r above) (sym same) (subst IsIndex are index).0

  pub others_index : IsIndex levels → IsIndex above
  unfolding IsIndex
  others_index index = (subst IsIndex are index).1

-- The rows of a list of rows.
pub map-itself : (rows : List (List ℤ)) → map (λ row. row) rows ≡ rows
map-itself [] = refl
map-itself (row ∷ rows) = ap (λ (rest : List (List ℤ)). row ∷ rest) (map-itself rows)

pub finds_any : (levels : List (List (List ℤ))) (key : List ℤ) (from : ℕ) → length levels ≡ 0
    → FindsBlock levels key from (Some from)
unfolding FindsBlock
finds_any [] key from none = refl
finds_any (bounds ∷ above) key from none = absurd (omega arith)
