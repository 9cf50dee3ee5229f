-- An index that gets one more level, or one more row.
use Rattle.std.proofs.Common.{◌≡◌, ℕ, zero, suc, ◌+◌, ◌/◌, ◌<◌, List, [], ◌∷◌, ◌++◌, length, get_or, map, take, drop, Option, Some, None, Result, Ok, Err, refl, sym, ap, subst, ◌∙◌, inl, inr, arith}
use Rattle.std.proofs.lemmas.Bool.{cases_lt}
use Rattle.std.proofs.lemmas.List.{append-nil, map-append, take_all, drop_all, length-append, length-map, get_or_append_left}
use Rattle.std.specs.Prelude.{ℤ, IfOk, IfSome}
use Rattle.std.specs.declared.alloc.AllocError.{AllocError}
use Rattle.tre_lanes.specs.Rows.{Reaches}
use Rattle.tre_index.specs.Index.{IsAbove, IsUnder, IsIndex, IsIndexOf, IsOnTop, HasRoom, HasBound, AreRisen}
use Rattle.tre_index.proofs.Raising.{under_risen, room_above}

abbrev Rows : Type 0
Rows = List (List ℤ)

pub indexed_none : (rows : Rows) (levels : List Rows) → levels ≡ [] → IsIndexOf rows levels
unfolding IsUnder IsIndex
indexed_none rows levels none = subst (IsIndexOf rows) (sym none)
    (record { under = tt; index = tt })

-- What a search for more bounds found.
pub found_as : (P Q : Rows → Type 0) → ((top : Rows) → P top → Q top)
    → (found : Result (Option Rows) AllocError)
    → IfOk found (λ level. IfSome level P) → IfOk found (λ level. IfSome level Q)
found_as P Q follows (Err e) is = tt
found_as P Q follows (Ok None) is = tt
found_as P Q follows (Ok (Some top)) is = follows top is

pub found_at : {X : Type 0} (f : X → List ℤ) (lent items : List X) (above levels : List Rows)
    (found : Option Rows)
    (top : Rows) → found ≡ Some top → lent ≡ items → above ≡ levels
    → IfSome found (IsOnTop (map f lent) above) → IsOnTop (map f items) levels top
found_at f lent items above levels found top is were same on_top =
    let there = subst (λ (o : Option Rows). IfSome o (IsOnTop (map f lent) above)) is on_top in
    subst (λ (l : List Rows). IsOnTop (map f items) l top) same
    (subst (λ l. IsOnTop (map f l) above top) were there)

pub on_top_none : (rows : Rows) (levels : List Rows) (top : Rows) → length levels ≡ 0
    → IsAbove rows top → IsOnTop rows levels top
unfolding IsOnTop
on_top_none rows [] top none above = above
on_top_none rows (bounds ∷ levels) top none above = absurd (omega arith)

pub on_top_last : (rows : Rows) (levels : List Rows) (bounds top : Rows) (k : ℕ)
    → k + 1 ≡ length levels
    → bounds ≡ get_or levels k bounds → IsAbove bounds top → IsOnTop rows levels top
unfolding IsOnTop
on_top_last rows [] bounds top k last is above = absurd (omega arith)
on_top_last rows (level ∷ []) bounds top zero last is above = subst (λ (b : Rows). IsAbove b top)
    is above
on_top_last rows (level ∷ []) bounds top (suc k) last is above = absurd (omega arith)
on_top_last rows (level ∷ next ∷ levels) bounds top zero last is above = absurd (omega arith)
on_top_last rows (level ∷ next ∷ levels) bounds top (suc k) last is above =
    on_top_last level (next ∷ levels) bounds top k (omega arith) is above

index_more : (rows : Rows) (levels : List Rows) (top : Rows) → IsUnder rows levels → IsIndex levels
    → IsOnTop rows levels top
    → IsUnder rows (levels ++ top ∷ []) × IsIndex (levels ++ top ∷ [])
unfolding IsUnder IsIndex IsOnTop
index_more rows [] top under index above = (above, (tt, tt))
index_more rows (bounds ∷ levels) top under index above =
    (under, index_more bounds levels top index.0 index.1 above)

pub indexed_more : (rows : Rows) (levels next : List Rows) (top : Rows) → IsIndexOf rows levels
    → IsOnTop rows levels top
    → next ≡ levels ++ top ∷ [] → IsIndexOf rows next
indexed_more rows levels next top indexed above are =
    let both = index_more rows levels top indexed.under indexed.index above in
    subst (IsIndexOf rows) (sym are) (record { under = both.0; index = both.1 })

-- The levels that were lent, as they came back.
came_back : (old new : List Rows) (len : ℕ) → length new ≡ length old → length new ≡ len
    → take len (new ++ drop (length new) old) ≡ new
came_back old new len same long =
    ap (λ (rest : List Rows). take len (new ++ rest)) (drop_all (length new) old (omega arith))
    ∙ ap (take len) (append-nil new) ∙ take_all len new (omega arith)

last_row : (rows : Rows) (row : List ℤ) → get_or (rows ++ row ∷ []) (length rows) [] ≡ row
last_row [] row = refl
last_row (first ∷ rows) row = last_row rows row

under_push : (rows : Rows) (row : List ℤ) (levels : List Rows) → IsUnder rows levels
    → HasBound levels (length rows / 8) row → IsUnder (rows ++ row ∷ []) levels
unfolding IsUnder HasBound
under_push rows row [] under bound = tt
under_push rows row (bounds ∷ levels) under bound = record {
  room = λ k within.
      elim (cases_lt k (length rows)) [
        | inl early ↦ under.room k early
        | inr late ↦
            let here : length rows ≡ k = omega (arith, length-append rows (row ∷ [])) in
            subst (λ i. i / 8 < length bounds) here bound.0
      ];
  reaches = λ k within.
      elim (cases_lt k (length rows)) [
        | inl early ↦
            let same : get_or rows k [] ≡ get_or (rows ++ row ∷ []) k [] =
            sym (get_or_append_left rows (row ∷ []) [] k early) in
            subst (Reaches (get_or bounds (k / 8) [])) same (under.reaches k early)
        | inr late ↦
            let here : length rows ≡ k = omega (arith, length-append rows (row ∷ [])) in
            let same : row ≡ get_or (rows ++ row ∷ []) (length rows) [] = sym (last_row rows row) in
            subst (λ i. Reaches (get_or bounds (i / 8) []) (get_or (rows ++ row ∷ []) i [])) here
            (subst (Reaches (get_or bounds (length rows / 8) [])) same bound.1)
      ];
}

module _ (rows : Rows) (old lent new : List Rows) (len : ℕ) (were : lent ≡ old)
    (indexed : IsIndexOf rows old)
    (same : length new ≡ length lent) (long : length lent ≡ len) (index : IsIndex new)
    (risen : AreRisen lent new) where
  back : take len (new ++ drop (length new) old) ≡ new
  back = came_back old new len (same ∙ ap length were) (same ∙ long)

  under_new : IsUnder rows new
  under_new = under_risen rows old new (subst (λ (l : List Rows). AreRisen l new) were risen)
      indexed.under

  pub indexed_risen : IsIndexOf rows (take len (new ++ drop (length new) old))
  indexed_risen = subst (IsIndexOf rows) (sym back) (record { under = under_new; index = index })

  pub indexed_push : (row : List ℤ) → HasBound new (length rows / 8) row
      → IsIndexOf (rows ++ row ∷ []) (take len (new ++ drop (length new) old))
  indexed_push row bound =
      subst (IsIndexOf (rows ++ row ∷ [])) (sym back)
      (record { under = under_push rows row new under_new bound; index = index })

  -- One more item at the end of a list of items.
  module _ {X : Type 0} (f : X → List ℤ) (items next : List X) (item : X) (row : List ℤ) (count : ℕ)
      (rows_are : rows ≡ map f items) (next_is : next ≡ items ++ item ∷ []) (row_is : row ≡ f item)
      (count_is : count ≡ length items) (bound : HasBound new (count / 8) row) where
    pub indexed_items : IsIndexOf (map f next) (take len (new ++ drop (length new) old))
    indexed_items =
        let long : count ≡ length rows = count_is ∙ sym (length-map items f)
        ∙ ap length (sym rows_are) in
        let are : rows ++ row ∷ [] ≡ map f next =
        ap (λ (r : Rows). r ++ row ∷ []) rows_are ∙ ap (λ r. map f items ++ r ∷ []) row_is
        ∙ sym (map-append f items (item ∷ [])) ∙ ap (map f) (sym next_is) in
        subst (λ (r : Rows). IsIndexOf r (take len (new ++ drop (length new) old))) are
        (indexed_push row (subst (λ n. HasBound new (n / 8) row) long bound))

pub room_at_end : {X : Type 0} (f : X → List ℤ) (items : List X) (levels lent : List Rows)
    (count : ℕ)
    → IsIndexOf (map f items) levels → lent ≡ levels → count ≡ length items
    → HasRoom lent (count / 8)
room_at_end f items levels lent count indexed were count_is =
    subst (λ (l : List Rows). HasRoom l (count / 8)) (sym were)
    (room_above (map f items) levels count indexed.under (omega (arith, length-map items f)))
