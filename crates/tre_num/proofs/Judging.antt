-- Which columns must be judged, where those of some names were.
use Rattle.std.proofs.Common.{◌≡◌, slice_get, ℕ, ◌==◌, ◌&&◌, ◌||◌, cond, not, Bool, true, false, List, [], ◌∷◌, Option, None, Some, refl, sym, ap, ◌∙◌, arith, if◌then◌else◌}
use Rattle.std.specs.List.{list_all, list_any}
use Rattle.std.specs.Option.{is_some, option_and_then, option_map}
use Rattle.std.proofs.lemmas.Bool.Decides.{nat_tests}
use Rattle.tre_num.specs.Rows.{are_whole, told_by}
use Rattle.tre_num.specs.Told.{is_whole_in, others_of, stands_at}
use Rattle.tre_num.specs.Whole.{whole_of}
use Rattle.tre_num.specs.declared.column.Column.{Column}

-- Whether a column has a whole number hangs on its place alone.
abbrev number_at : List (List ℕ) → ℕ → Bool
number_at fields place = is_some (option_and_then whole_of (slice_get fields place))

mapped-some : {X Y : Type 0} (f : X → Y) (value : Option X)
    → is_some (option_map f value) ≡ is_some value
mapped-some f None = refl
mapped-some f (Some x) = refl

at-place : (column : Column) (fields : List (List ℕ))
    → is_some (told_by column fields) ≡ number_at fields column.place
at-place column fields = mapped-some _ (option_and_then whole_of (slice_get fields column.place))

-- Where a column stands at the place and all are whole, there is a number at the place.
number-there : (fields : List (List ℕ)) (place : ℕ) (own : List (Option Column))
    → list_any (stands_at place) own ≡ true → list_all (is_whole_in fields) own ≡ true
    → number_at fields place ≡ true
number-there fields place [] there whole = cc
number-there fields place (None ∷ own) there whole = number-there fields place own there whole
number-there fields place (Some column ∷ own) there whole =
    by (column.place == place) refl (is_some (told_by column fields)) refl there whole
    (number-there fields place own)
  where
    by : (here : Bool) → (column.place == place) ≡ here → (number : Bool)
        → is_some (told_by column fields) ≡ number
        → (here || list_any (stands_at place) own) ≡ true
        → (number && list_all (is_whole_in fields) own) ≡ true
        → (list_any (stands_at place) own ≡ true → list_all (is_whole_in fields) own ≡ true
        → number_at fields place ≡ true)
        → number_at fields place ≡ true
    by true is true number there whole later =
        let same : column.place ≡ place = grind (arith, nat_tests) in
        ap (number_at fields) (sym same) ∙ sym (at-place column fields) ∙ number
    by true is false number there whole later = cc
    by false is true number there whole later = later there whole
    by false is false number there whole later = cc

-- Where its own are whole, all are where the others are.
others-are : (own : List (Option Column)) (all : List Column) (fields : List (List ℕ))
    → list_all (is_whole_in fields) own ≡ true
    → are_whole (others_of own all) fields ≡ are_whole all fields
others-are own [] fields whole = refl
others-are own (column ∷ all) fields whole =
    by (list_any (stands_at column.place) own) refl (others-are own all fields whole)
  where
    by : (there : Bool) → list_any (stands_at column.place) own ≡ there
        → are_whole (others_of own all) fields ≡ are_whole all fields
        → are_whole (cond (not there) (column ∷ others_of own all) (others_of own all)) fields
        ≡ (is_some (told_by column fields) && are_whole all fields)
    by false is later = ap (λ rest. is_some (told_by column fields) && rest) later
    by true is later =
        later
        ∙ ap (λ number. number && are_whole all fields)
        (sym (at-place column fields ∙ number-there fields column.place own is whole))

-- So all are whole exactly where those that must be judged are.
pub judged-are : (own : List (Option Column)) (all others : List Column) (fields : List (List ℕ))
    → others ≡ others_of own all
    → are_whole (if list_all (is_whole_in fields) own then others else all) fields
    ≡ are_whole all fields
judged-are own all others fields is = by (list_all (is_whole_in fields) own) refl where
  by : (whole : Bool) → list_all (is_whole_in fields) own ≡ whole
      → are_whole (if whole then others else all) fields ≡ are_whole all fields
  by true e = ap (λ columns. are_whole columns fields) is ∙ others-are own all fields e
  by false e = refl
