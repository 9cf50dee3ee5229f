-- The columns of names, one more at a time.
use Rattle.std.proofs.Common.{◌≡◌, ℕ, ◌+◌, ◌<◌, Option, Some, None, List, [], ◌∷◌, ◌++◌, length, get_or, drop, flat_map, ◌≤◌, append_assoc, append-nil, refl, sym, ap, ◌∙◌}
use Rattle.std.specs.Option.{option_and_then, option_map}
use Rattle.std.proofs.lemmas.List.{drop_all, drop_more}
use Rattle.tre_num.specs.declared.column.Column.{Column}
use Rattle.tre_num.specs.Defined.{Defined}
use Rattle.tre_num.specs.Rows.{compared_column, columns_of}
use Rattle.tre_trace.specs.Reading.{Vocabulary}

-- columns in front of the others, in two steps
in_front : (items : List Column) (column : Column) (others : Option (List Column))
    → option_map (λ rest. items ++ rest) (option_map (λ rest. column ∷ rest) others)
    ≡ option_map (λ rest. (items ++ column ∷ []) ++ rest) others
in_front items column None = refl
in_front items column (Some rest) = ap Some (sym (append_assoc items (column ∷ []) rest))

none_before : (items : List Column) (others : Option (List Column)) → items ≡ []
    → others ≡ option_map (λ rest. items ++ rest) others
none_before items None none = refl
none_before items (Some rest) none = ap (λ front. Some (front ++ rest)) (sym none)

-- ---- the names of some, and then those of others

some-more : (column : Column) (own : List Column) (others : Option (List Column))
    → option_map (λ rest. column ∷ rest) (option_map (λ rest. own ++ rest) others)
    ≡ option_map (λ rest. (column ∷ own) ++ rest) others
some-more column own None = refl
some-more column own (Some rest) = refl

nothing-more : (others : Option (List Column)) → others ≡ option_map (λ rest. [] ++ rest) others
nothing-more None = refl
nothing-more (Some rest) = refl

module _ (definitions : List Defined) (header : List (List ℕ)) where
  -- the columns of the first stand before those of the others
  abbrev IsBefore : List (List ℕ) → Option (List Column) → Type 0
  IsBefore first own = (others : List (List ℕ)) → columns_of definitions header (first ++ others)
      ≡ option_and_then (λ own. option_map (λ rest. own ++ rest)
      (columns_of definitions header others)) own

  pub columns-append : (first : List (List ℕ)) → IsBefore first (columns_of definitions header first)
  columns-append [] others = nothing-more (columns_of definitions header others)
  columns-append (name ∷ first) others =
      by (compared_column definitions header name) (columns_of definitions header first)
      (columns-append first others)
    where
      by : (column : Option Column) (own : Option (List Column))
          → columns_of definitions header (first ++ others)
          ≡ option_and_then (λ own. option_map (λ rest. own ++ rest)
          (columns_of definitions header others)) own
          → option_and_then (λ column. option_map (λ rest. column ∷ rest)
          (columns_of definitions header (first ++ others))) column
          ≡ option_and_then (λ own. option_map (λ rest. own ++ rest)
          (columns_of definitions header others))
          (option_and_then (λ column. option_map (λ rest. column ∷ rest) own) column)
      by None own is = refl
      by (Some column) None is = ap (option_map (λ rest. column ∷ rest)) is
      by (Some column) (Some own) is =
          ap (option_map (λ rest. column ∷ rest)) is
          ∙ some-more column own (columns_of definitions header others)

module _ (definitions : List Defined) (header : List (List ℕ)) (all : List Vocabulary) where
  abbrev from : List Vocabulary → Option (List Column)
  from asked = columns_of definitions header (flat_map (λ asked. asked.names) asked)

  -- nobody's columns are there yet
  pub all-begin : (items : List Column) → items ≡ []
      → from all ≡ option_map (λ others. items ++ others) (from all)
  all-begin items none = none_before items (from all) none

  -- those of the next one, if there are any
  next : (items : List Column) (i : ℕ) (asked : Vocabulary) (own : Option (List Column))
      → i < length all → asked ≡ get_or all i asked
      → columns_of definitions header asked.names ≡ own
      → from all ≡ option_map (λ others. items ++ others) (from (drop i all))
      → from all ≡ option_map (λ others. items ++ others)
      (option_and_then (λ own. option_map (λ rest. own ++ rest) (from (drop (i + 1) all))) own)
  next items i asked own below here found is =
      let rest = flat_map (λ (asked : Vocabulary). asked.names) (drop (i + 1) all) in
      is
      ∙ ap (λ left. option_map (λ others. items ++ others) (from left)) (drop_more all i asked below)
      ∙ ap (λ (one : Vocabulary). option_map (λ others. items ++ others)
      (columns_of definitions header (one.names ++ rest))) (sym here)
      ∙ ap (option_map (λ others. items ++ others))
      (columns-append definitions header asked.names rest)
      ∙ ap (λ own. option_map (λ others. items ++ others)
      (option_and_then (λ own. option_map (λ rest. own ++ rest) (from (drop (i + 1) all))) own))
      found

  joined : (items own : List Column) (others : Option (List Column))
      → option_map (λ rest. items ++ rest) (option_map (λ rest. own ++ rest) others)
      ≡ option_map (λ rest. (items ++ own) ++ rest) others
  joined items own None = refl
  joined items own (Some rest) = ap Some (sym (append_assoc items own rest))

  pub all-more : (items own : List Column) (i : ℕ) (asked : Vocabulary)
      → i < length all → asked ≡ get_or all i asked
      → columns_of definitions header asked.names ≡ Some own
      → from all ≡ option_map (λ others. items ++ others) (from (drop i all))
      → from all ≡ option_map (λ others. (items ++ own) ++ others) (from (drop (i + 1) all))
  all-more items own i asked below here found is =
      next items i asked (Some own) below here found is
      ∙ joined items own (from (drop (i + 1) all))

  -- one of them has a name without a column
  pub all-none : (items : List Column) (i : ℕ) (asked : Vocabulary)
      → i < length all → asked ≡ get_or all i asked
      → columns_of definitions header asked.names ≡ None
      → from all ≡ option_map (λ others. items ++ others) (from (drop i all))
      → from all ≡ None
  all-none items i asked below here found is = next items i asked None below here found is

  -- there are those of all
  pub all-are : (items : List Column) (i : ℕ) → length all ≤ i
      → from all ≡ option_map (λ others. items ++ others) (from (drop i all))
      → from all ≡ Some items
  all-are items i past is =
      is
      ∙ ap (λ left. option_map (λ others. items ++ others) (from left)) (drop_all i all past)
      ∙ ap Some (append-nil items)

-- ---- one name more at a time

module _ (definitions : List Defined) (header names : List (List ℕ)) where
  -- there is no column yet
  pub begins : (items : List Column) → items ≡ []
      → columns_of definitions header names
      ≡ option_map (λ others. items ++ others) (columns_of definitions header names)
  begins items none = none_before items (columns_of definitions header names) none

  pub one-more : (items : List Column) (i : ℕ) (column : Column) → i < length names
      → compared_column definitions header (get_or names i []) ≡ Some column
      → columns_of definitions header names
      ≡ option_map (λ others. items ++ others) (columns_of definitions header (drop i names))
      → columns_of definitions header names
      ≡ option_map (λ others. (items ++ column ∷ []) ++ others)
      (columns_of definitions header (drop (i + 1) names))
  one-more items i column below found is =
      let rest = columns_of definitions header (drop (i + 1) names) in
      is
      ∙ ap (λ left. option_map (λ others. items ++ others) (columns_of definitions header left))
      (drop_more names i [] below)
      ∙ ap (λ one. option_map (λ others. items ++ others) (option_and_then
      (λ column. option_map (λ others. column ∷ others) rest) one)) found
      ∙ in_front items column rest

  -- the next name has none
  pub none-here : (items : List Column) (i : ℕ) → i < length names
      → compared_column definitions header (get_or names i []) ≡ None
      → columns_of definitions header names
      ≡ option_map (λ others. items ++ others) (columns_of definitions header (drop i names))
      → columns_of definitions header names ≡ None
  none-here items i below none is =
      let rest = columns_of definitions header (drop (i + 1) names) in
      is
      ∙ ap (λ left. option_map (λ others. items ++ others) (columns_of definitions header left))
      (drop_more names i [] below)
      ∙ ap (λ one. option_map (λ others. items ++ others) (option_and_then
      (λ column. option_map (λ others. column ∷ others) rest) one)) none

  -- there are those of all names
  pub all-found : (items : List Column) (i : ℕ) → length names ≤ i
      → columns_of definitions header names
      ≡ option_map (λ others. items ++ others) (columns_of definitions header (drop i names))
      → columns_of definitions header names ≡ Some items
  all-found items i past is =
      is
      ∙ ap (λ left. option_map (λ others. items ++ others) (columns_of definitions header left))
      (drop_all i names past)
      ∙ ap Some (append-nil items)
