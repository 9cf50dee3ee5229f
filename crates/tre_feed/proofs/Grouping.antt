-- Readers of groups, one after the other.
use Rattle.std.proofs.Common.{◌≡◌, ◌∙◌, ℕ, ◌+◌, ◌<◌, ◌≤◌, List, [], ◌∷◌, ◌++◌, length, get_or, map, take, refl, sym, ap, ap₂, subst, arith}
use Rattle.std.specs.Prelude.{All}
use Rattle.std.specs.List.{AllByRecursion, AllZip}
use Rattle.std.proofs.lemmas.List.{length-map, map-append, take_more, take_all}
use Rattle.std.proofs.lemmas.List.Elements.{All-cons, All-nil}
use Rattle.std.proofs.lemmas.Option.{slice_get_within}
use Rattle.tre_feed.specs.Shares.{IsViewOf, group_of}
use Rattle.tre_feed.specs.declared.view.View.{View}
use Rattle.tre_trace.specs.Reading.{Vocabulary}

-- Each group has a reader at its place, and each reader is so.
pub record HaveReaders {R : Type 0} (names : R → Vocabulary) (P : R → Type 0)
    (groups : List Vocabulary) (readers : List R) : Type 0 where
  pub are : map names readers ≡ groups
  pub each : AllByRecursion P readers

all-push : {R : Type 0} (P : R → Type 0) (readers : List R) (reader : R)
    → AllByRecursion P readers → P reader → AllByRecursion P (readers ++ reader ∷ [])
all-push P [] reader all is = (is, tt)
all-push P (first ∷ readers) reader all is = (all.0, all-push P readers reader all.1 is)

pub readers-none : {R : Type 0} (names : R → Vocabulary) (P : R → Type 0) (readers : List R)
    → readers ≡ [] → HaveReaders names P [] readers
readers-none names P [] none = record { are = refl; each = tt }
readers-none names P (reader ∷ readers) none = cc (none)

pub readers-next : {R : Type 0} (names : R → Vocabulary) (P : R → Type 0)
    (groups : List Vocabulary) (readers new : List R) (i : ℕ) (group : Vocabulary) (reader : R)
    → i < length groups → HaveReaders names P (take i groups) readers
    → group ≡ get_or groups i group → names reader ≡ group → P reader
    → new ≡ readers ++ reader ∷ [] → HaveReaders names P (take (i + 1) groups) new
readers-next names P groups readers new i group reader below have here named is more =
    subst (HaveReaders names P (take (i + 1) groups)) (sym more) (record {
      are =
          map-append names readers (reader ∷ [])
          ∙ ap₂ (λ (front : List Vocabulary) (last : Vocabulary). front ++ last ∷ []) have.are
          (named ∙ here)
          ∙ sym (take_more groups i group below);
      each = all-push P readers reader have.each is;
    })

pub readers-all : {R : Type 0} (names : R → Vocabulary) (P : R → Type 0)
    (groups : List Vocabulary) (readers : List R) (i : ℕ) → length groups ≤ i
    → HaveReaders names P (take i groups) readers → HaveReaders names P groups readers
readers-all names P groups readers i past have =
    subst (λ all. HaveReaders names P all readers) (take_all i groups past) have

-- ---- views of groups

-- each view is of one of the readers
views-within : {R : Type 0} (names : R → Vocabulary) (asked : List Vocabulary)
    (groups : List Vocabulary) (views : List View) (readers : List R)
    → map names readers ≡ groups → AllZip (IsViewOf groups) asked views
    → All (λ view. group_of view < length readers) views
views-within names [] groups [] readers same are = All-nil _
views-within names [] groups (view ∷ views) readers same are = absurd are
views-within names (own ∷ asked) groups [] readers same are = absurd are
views-within names (own ∷ asked) groups (view ∷ views) readers same are =
    let within = slice_get_within groups (group_of view) are.0.all are.0.group in
    let long : length readers ≡ length groups =
    sym (length-map readers names) ∙ ap length same in
    All-cons (λ view. group_of view < length readers) view views (omega (arith, within, long))
    (views-within names asked groups views readers same are.1)

-- where someone asks, there is a reader
readers-some : {R : Type 0} (names : R → Vocabulary) (asked : List Vocabulary)
    (groups : List Vocabulary) (views : List View) (readers : List R)
    → map names readers ≡ groups → AllZip (IsViewOf groups) asked views → 0 < length asked
    → 0 < length readers
readers-some names [] groups views readers same are some = absurd (omega (arith, some))
readers-some names (own ∷ asked) groups [] readers same are some = absurd are
readers-some names (own ∷ asked) groups (view ∷ views) readers same are some =
    let within = slice_get_within groups (group_of view) are.0.all are.0.group in
    let long : length readers ≡ length groups =
    sym (length-map readers names) ∙ ap length same in
    omega (arith, within, long)

-- Readers at the places of groups, and views of these, for those who ask.
pub record AreRead {R : Type 0} (names : R → Vocabulary) (asked : List Vocabulary)
    (readers : List R) (views : List View) : Type 0 where
  pub each : AllZip (IsViewOf (map names readers)) asked views
  pub some : 0 < length asked → 0 < length readers
  pub within : All (λ view. group_of view < length readers) views

-- the groups and views of those who share
pub AreRead-shared : {R : Type 0} (names : R → Vocabulary) (asked : List Vocabulary)
    (groups : List Vocabulary) (views same_views : List View) (readers : List R)
    → map names readers ≡ groups → same_views ≡ views → AllZip (IsViewOf groups) asked views
    → AreRead names asked readers same_views
AreRead-shared names asked groups views same_views readers same is are =
    subst (AreRead names asked readers) (sym is) (record {
      each = subst (λ (all : List Vocabulary). AllZip (IsViewOf all) asked views) (sym same) are;
      some = readers-some names asked groups views readers same are;
      within = views-within names asked groups views readers same are;
    })
