-- Where a list first has an element that passes a test, and what an element at its end changes.
use Rattle.std.proofs.Common.{◌≡◌, ◌≢◌, ◌↔◌, ℕ, suc, ◌+◌, ◌<◌, ◌≤◌, Bool, true, false, cond, not, List, [], ◌∷◌, ◌++◌, length, get_or, map, Option, None, Some, refl, sym, ap, ◌∙◌, subst, arith, length-append}
use Rattle.std.proofs.lemmas.Bool.{false≢true}
use Rattle.std.specs.Prelude.{String, position, nat_lt, All, AllPairs, slice_get, if◌then◌else◌}
use Rattle.std.specs.List.{position_or_len, prefix_len, AllZip}
use Rattle.std.specs.String.{string_bytes, string_eq}
use Rattle.indexmap.specs.IndexSet.{insert_key}
use Rattle.std.specs.Str.{bytes_eq}
use Rattle.std.proofs.lemmas.Bool.Decides.{nat_tests}
use Rattle.std.proofs.lemmas.List.{map-append, length-map}
use Rattle.std.proofs.lemmas.List.Elements.{All-push, All-nil, All-cons}
use Rattle.std.proofs.lemmas.List.Folds.{list_any_none, position_or_len_push}
use Rattle.std.proofs.lemmas.List.Quantifiers.{all_pairs_push}
use Rattle.std.proofs.lemmas.List.Sums.{prefix_len-le-length, position_or_len_is}
use Rattle.std.proofs.lemmas.Option.{slice_get_within, get_or_from_slice_get, slice_get-get_or}
use Rattle.std.proofs.lemmas.Slice.Eq.{bytes_eq-Decides}
use Rattle.tre_state.specs.Name.{IsName}
use Rattle.tre_state.specs.Names.{place_of, IsNameList}
use Rattle.tre_state.specs.declared.names.TheConstants.{NAMES_MAX}

module _ {X Y : Type 0} (f : X → Y) (p : Y → Bool) where
  -- the first place of a mapped list is that of the list
  pub prefix_len-map : (xs : List X) → prefix_len p (map f xs) ≡ prefix_len (λ x. p (f x)) xs
  prefix_len-map [] = refl
  prefix_len-map (x ∷ xs) = ap (λ n. cond (p (f x)) (1 + n) 0) (prefix_len-map xs)

pub position-map : {X Y : Type 0} (f : X → Y) (p : Y → Bool) (xs : List X)
    → position p (map f xs) ≡ position (λ x. p (f x)) xs
position-map f p xs =
    ap (λ n. cond (nat_lt n (length (map f xs))) (Some n) None)
    (prefix_len-map f (λ y. not (p y)) xs)
    ∙ ap
    (λ n. cond (nat_lt (position_or_len (λ x. p (f x)) xs) n)
    (Some (position_or_len (λ x. p (f x)) xs)) None) (length-map xs f)

module _ {X : Type 0} (p : X → Bool) where
  absent_len : (n m : ℕ) → n ≤ m → cond (nat_lt n m) (Some n) None ≡ None → n ≡ m
  absent_len n m le e = grind (arith, nat_tests)

  pub none_len : (xs : List X) → position p xs ≡ None → position_or_len p xs ≡ length xs
  none_len xs e =
      absent_len (position_or_len p xs) (length xs) (prefix_len-le-length (λ x. not (p x)) xs) e

  first_fails : (x : X) (xs : List X) (b : Bool) → p x ≡ b
      → cond (not (p x)) (1 + position_or_len p xs) 0 ≡ suc (length xs)
      → (position_or_len p xs ≡ length xs → All (λ y. p y ≡ false) xs)
      → All (λ y. p y ≡ false) (x ∷ xs)
  first_fails x xs true t e rest = let none : cond (not true) (1 + position_or_len p xs) 0
      ≡ suc (length xs) =
      subst (λ b. cond (not b) (1 + position_or_len p xs) 0 ≡ suc (length xs)) t e in
      absurd (omega (arith, none))
  first_fails x xs false t e rest = let one : cond (not false) (1 + position_or_len p xs) 0
      ≡ suc (length xs) =
      subst (λ b. cond (not b) (1 + position_or_len p xs) 0 ≡ suc (length xs)) t e in
      All-cons (λ y. p y ≡ false) x xs t (rest (omega (arith, one)))

  -- where the first place is past the end, every element fails the test
  pub len_fails : (xs : List X) → position_or_len p xs ≡ length xs → All (λ x. p x ≡ false) xs
  len_fails [] e = All-nil _
  len_fails (x ∷ xs) e = first_fails x xs (p x) refl e (len_fails xs)

  pub pushed_len : (xs : List X) (y : X) → position_or_len p xs ≡ length xs → p y ≡ true
      → position_or_len p (xs ++ y ∷ []) ≡ length xs
  pushed_len xs y e t = grind (arith, position_or_len_push p xs y)

  -- an element at the end that passes is the first that does, where no other did
  pub pushed : (xs : List X) (y : X) → position_or_len p xs ≡ length xs → p y ≡ true
      → position p (xs ++ y ∷ []) ≡ Some (length xs)
  pushed xs y e t = by (pushed_len xs y e t) (length-append xs (y ∷ []))
    where
      by : {n m : ℕ} → n ≡ length xs → m ≡ length xs + 1
          → cond (nat_lt n m) (Some n) None ≡ Some (length xs)
      by same more = grind (arith, nat_tests)

-- two lists of bytes that the test tells apart are not the same
differ : (x y : List ℕ) → bytes_eq y x ≡ false → x ≢ y
differ x y e same = false≢true (sym e ∙ (bytes_eq-Decides y x).1 (sym same))

-- the names stay a list of names with one more that was not among them
pub IsNameList-push : (names : List (List ℕ)) (name : List ℕ) → IsNameList names → IsName name
    → length names < NAMES_MAX → place_of names name ≡ None → IsNameList (names ++ name ∷ [])
IsNameList-push names name list is room absent =
    let fails = len_fails (bytes_eq name) names (none_len (bytes_eq name) names absent) in
    record {
      few = omega (arith, length-append names (name ∷ []));
      each = All-push IsName names name list.each is;
      distinct = all_pairs_push (λ x y. x ≢ y) names name list.distinct
          (λ k d lt. differ (get_or names k d) name (fails k d lt));
    }

-- and its number is their count
pub place_of-push : (names : List (List ℕ)) (name : List ℕ) → place_of names name ≡ None
    → place_of (names ++ name ∷ []) name ≡ Some (length names)
place_of-push names name absent =
    pushed (bytes_eq name) names name (none_len (bytes_eq name) names absent)
    ((bytes_eq-Decides name name).1 refl)

module _ {Y : Type 0} (keys : List (String Y)) (owned : String Y)
    (absent : place_of (map string_bytes keys) (string_bytes owned) ≡ None) where
  at_end : position_or_len (string_eq owned) keys ≡ length keys
  at_end =
      none_len (string_eq owned) keys
      (sym (position-map string_bytes (bytes_eq (string_bytes owned)) keys) ∙ absent)

  -- the place at which a text goes into the set
  pub insert_index-absent : position_or_len (string_eq owned) keys ≡ length (map string_bytes keys)
  insert_index-absent = at_end ∙ sym (length-map keys string_bytes)

  -- and the texts of the set after it
  pub texts-insert_key : map string_bytes (insert_key string_eq keys owned) ≡ map string_bytes keys
      ++ string_bytes owned ∷ []
  texts-insert_key =
      ap (λ b. map string_bytes (if b then keys else keys ++ owned ∷ []))
      (list_any_none (string_eq owned) keys (len_fails (string_eq owned) keys at_end))
      ∙ map-append string_bytes keys (owned ∷ [])

-- clones of texts are the same texts
pub texts-clone : {Y : Type 0} (old new : List (String Y))
    → AllZip (λ s t. string_bytes t ≡ string_bytes s) old new
    → map string_bytes new ≡ map string_bytes old
texts-clone [] [] h = refl
texts-clone [] (t ∷ ts) h = absurd h
texts-clone (s ∷ ss) [] h = absurd h
texts-clone (s ∷ ss) (t ∷ ts) h = ap (λ b. b ∷ map string_bytes ts) h.0
    ∙ ap (λ l. string_bytes s ∷ l) (texts-clone ss ts h.1)

false_of : (b : Bool) → (b ≡ true → ⊥) → b ≡ false
false_of true wrong = absurd (wrong refl)
false_of false wrong = refl

yes : (a b : ℕ) → a < b → nat_lt a b ≡ true
yes a b h = grind (arith, nat_tests)

no : (a b : ℕ) → b ≤ a → nat_lt a b ≡ false
no a b h = grind (arith, nat_tests)

-- the number of the name that has some bytes, where names differ
pub place-held : (names : List (List ℕ)) (bytes : List ℕ) (i : ℕ)
    → AllPairs (λ name other. name ≢ other) names → slice_get names i ≡ Some bytes
    → Some i ≡ place_of names bytes
place-held names bytes i distinct held =
    let within = slice_get_within names i bytes held in
    let here : get_or names i [] ≡ bytes = get_or_from_slice_get names i bytes [] held in
    rw (
      position_or_len_is (bytes_eq bytes) names i [] (omega (arith, within)) (λ k before.
          false_of (bytes_eq bytes (get_or names k [])) (λ same.
          distinct k i [] before within
          (sym ((bytes_eq-Decides bytes (get_or names k [])).0 same) ∙ sym here)))
          (λ _. (bytes_eq-Decides bytes (get_or names i [])).1 (sym here)),
      yes i (length names) within,
    ) refl

-- no name has them
pub place-none : (names : List (List ℕ)) (bytes : List ℕ)
    → ((k : ℕ) → slice_get names k ≡ Some bytes → ⊥) → None ≡ place_of names bytes
place-none names bytes none =
    rw (
      position_or_len_is (bytes_eq bytes) names (length names) [] (omega arith) (λ k within.
          false_of (bytes_eq bytes (get_or names k [])) (λ same.
          none k (slice_get-get_or names k [] within
          ∙ ap Some (sym ((bytes_eq-Decides bytes (get_or names k [])).0 same)))))
          (λ past. absurd (omega (arith, past))),
      no (length names) (length names) (omega arith),
    ) refl

-- whether a name that was asked for has some bytes
pub has_these : (held : Option (List ℕ)) (bytes name : List ℕ) (same : Bool) → Some name ≡ held
    → same ≡ bytes_eq bytes name → (same ≡ true) ↔ (held ≡ Some bytes)
has_these held bytes name same some is = (
  λ yes. sym some ∙ ap Some (sym ((bytes_eq-Decides bytes name).0 (sym is ∙ yes))),
  λ equal.
      let both : Some name ≡ Some bytes = some ∙ equal in
      let alike : name ≡ bytes = cc in
      is ∙ (bytes_eq-Decides bytes name).1 (sym alike),
)

pub has_none : (held : Option (List ℕ)) (bytes : List ℕ) → None ≡ held
    → (false ≡ true) ↔ (held ≡ Some bytes)
has_none held bytes none = (λ wrong. cc, λ some. cc)
