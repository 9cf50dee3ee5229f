-- An input of which nothing was read.
use Rattle.std.proofs.Common.{◌≡◌, ◌∙◌, List, [], ◌∷◌, ◌++◌, length, map, refl, sym, ap, subst, append_assoc}
use Rattle.std.proofs.lemmas.List.{length-map, map-append}
use Rattle.std.specs.List.{AllByRecursion}
use Rattle.tre_trace.specs.Reading.{Vocabulary}
use Rattle.tre_feed.specs.Each.{groups_in, readers_in}
use Rattle.tre_feed.specs.declared.each.Fed.{Fed}

module _ {R : Type 0} where
  pub readers_count : (each : List (Fed R)) (readers : List R) → readers_in each ≡ readers
      → length each ≡ length readers
  readers_count each readers are =
      sym (length-map each (λ (fed : Fed R). fed.reader)) ∙ ap length are

  pub readers_names : (names : R → Vocabulary) (each : List (Fed R)) (readers : List R)
      → readers_in each ≡ readers → map names readers ≡ groups_in names each
  readers_names names each readers are = ap (map names) (sym are) ∙ names_in each
    where
      names_in : (each : List (Fed R)) → map names (readers_in each) ≡ groups_in names each
      names_in [] = refl
      names_in (fed ∷ each) = ap (λ rest. names fed.reader ∷ rest) (names_in each)

  -- what is so of each reader is so where it is fed
  pub readers_so : (P : R → Type 0) (each : List (Fed R)) (readers : List R)
      → readers_in each ≡ readers → AllByRecursion P readers
      → AllByRecursion (λ fed. P fed.reader) each
  readers_so P each readers are all =
      so each (subst (λ (read : List R). AllByRecursion P read) (sym are) all)
    where
      so : (each : List (Fed R)) → AllByRecursion P (readers_in each)
          → AllByRecursion (λ fed. P fed.reader) each
      so [] all = tt
      so (fed ∷ each) all = (all.0, so each all.1)

  -- one reader more
  pub readers_more : (each : List (Fed R)) (fed : Fed R) (reader : R) (rest all : List R)
      → fed.reader ≡ reader → readers_in each ++ reader ∷ rest ≡ all
      → readers_in (each ++ fed ∷ []) ++ rest ≡ all
  readers_more each fed reader rest all same so_far =
      ap (λ (front : List R). front ++ rest)
      (map-append (λ (one : Fed R). one.reader) each (fed ∷ []))
      ∙ (append_assoc (readers_in each) (fed.reader ∷ []) rest
      ∙ (ap (λ (one : R). readers_in each ++ one ∷ rest) same ∙ so_far))

  pub none_more : (each : List (Fed R)) (fed : Fed R)
      → AllByRecursion (λ one. one.row.items ≡ []) each → fed.row.items ≡ []
      → AllByRecursion (λ one. one.row.items ≡ []) (each ++ fed ∷ [])
  none_more [] fed none is = (is, tt)
  none_more (one ∷ each) fed none is = (none.0, none_more each fed none.1 is)

pub none_left : {X : Type 0} (rest : List X) → length rest ≡ 0 → rest ≡ []
none_left [] none = refl
none_left (x ∷ rest) none = cc
