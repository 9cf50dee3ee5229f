-- Readers of one input, each with the row that it has read for its names.
use Rattle.std.specs.Prelude.{◌≡◌, ℕ, ◌<◌, ◌≤◌, Bool, true, false, List, [], ◌∷◌, length, map, take, Option, None, IfSome}
use Rattle.std.specs.List.{AllByRecursion}
use Rattle.tre_trace.specs.Reading.{Recording, Stretch, Vocabulary, Adds, AddsSome, events_for, segments_for}
use Rattle.tre_trace.specs.declared.fault.TraceFault.{TraceFault}
use Rattle.tre_trace.specs.declared.segment.Segment.{Segment}
use Rattle.tre_feed.specs.Outcome.{IsInputKind}
use Rattle.tre_feed.specs.declared.each.Fed.{Fed}

-- What a reader reads by: its names, and the terms of its format.
pub record ReadBy (Terms : Type 0) : Type 0 where
  pub names : Vocabulary
  pub terms : Terms

abbrev pub asked_by : {R Terms : Type 0} → (R → Vocabulary) → (R → Terms) → R → ReadBy Terms
asked_by names terms reader = record { names = names reader; terms = terms reader }

-- what each reads by
abbrev pub all_asked : {R Terms : Type 0} → (R → Vocabulary) → (R → Terms) → List (Fed R) →
    List (ReadBy Terms)
all_asked names terms each = map (λ fed. asked_by names terms fed.reader) each

-- the readers alone
abbrev pub readers_in : {R : Type 0} → List (Fed R) → List R
readers_in each = map (λ fed. fed.reader) each

-- the names that each reads for
abbrev pub groups_in : {R : Type 0} → (R → Vocabulary) → List (Fed R) → List Vocabulary
groups_in names each = map (λ fed. names fed.reader) each

-- where nobody reads, nothing is said
abbrev pub nothing_said : Recording
nothing_said = record { stretches = []; last = λ name. false; fault = None }

-- what bytes say by the terms of the first, which are those of all
abbrev pub recording_by : {R Terms : Type 0} → (Terms → Bool → List ℕ → Recording) →
    (R → Terms) → List (Fed R) → Bool → List ℕ → Recording
recording_by recording terms [] = λ closed bytes. nothing_said
recording_by recording terms (fed ∷ others) = recording (terms fed.reader)

-- Each reads by these terms, was fed these bytes, and found no fault in them.
abbrev pub AllStand : {R Terms : Type 0} → (R → Terms) → (R → List ℕ → Type 0) → Terms →
    List ℕ → List (Fed R) → Type 0
AllStand terms represents all bytes each =
    AllByRecursion (λ fed. (terms fed.reader ≡ all) × represents fed.reader bytes) each

-- So it is, by some terms.
pub record AllWereFed {R Terms : Type 0} (terms : R → Terms) (represents : R → List ℕ → Type 0)
    (each : List (Fed R)) (bytes : List ℕ) : Type 0 where
  pub all : Terms
  pub stand : AllStand terms represents all bytes each

-- There are readers, and none was fed more than so many bytes.
pub record WereGiven {R : Type 0} (fed_of : R → ℕ) (count : ℕ) (each : List (Fed R)) : Type 0 where
  pub some : 0 < length each
  pub few : AllByRecursion (λ fed. fed_of fed.reader ≤ count) each

-- The row of each is these stretches, as they are for its names.
abbrev pub RowsAre : {R : Type 0} → (R → Vocabulary) → List (Fed R) → List Stretch → Type 0
RowsAre names each stretches = AllByRecursion
    (λ fed. fed.row.items ≡ segments_for (names fed.reader) stretches) each

-- So each row begins.
abbrev pub RowsBegin : {R : Type 0} → (R → Vocabulary) → List (Fed R) → List Stretch → Type 0
RowsBegin names each stretches = AllByRecursion (λ fed.
    take (length stretches) fed.row.items ≡ segments_for (names fed.reader) stretches) each

-- These stretches wait.
pub record AllWait {R : Type 0} (names : R → Vocabulary) (each : List (Fed R))
    (stretches : List Stretch) : Type 0 where
  pub rows : RowsAre names each stretches

-- Each has told the events at the end that it asks for, where these happen.
abbrev pub LastsAre : {R : Type 0} → (R → Vocabulary) → List (Fed R) → (List ℕ → Bool) → Type 0
LastsAre names each last =
    AllByRecursion (λ fed. fed.last ≡ events_for (names fed.reader) last) each

-- They were told the end, where these events happen.
pub record AllEnded {R : Type 0} (names : R → Vocabulary) (each : List (Fed R))
    (last : List ℕ → Bool) : Type 0 where
  pub lasts : LastsAre names each last

-- It is the first fault of the input, and no want of memory.
pub record HasFirstFault (now : Recording) (found : Option TraceFault) : Type 0 where
  pub told : now.fault ≡ found
  pub kind : IfSome found (λ fault. IsInputKind fault.kind)

-- Each has told the first fault of the input, or none.
abbrev pub FaultsAre : {R : Type 0} → Recording → List (Fed R) → Type 0
FaultsAre now each = AllByRecursion (λ fed. HasFirstFault now fed.fault) each

-- How a call ended that had one reader read on from one recording to another. It says whether there
-- was memory.
abbrev pub TakesOne : Vocabulary → List Segment → List Segment → Recording → Recording →
    Option TraceFault → Bool → Type 0
TakesOne asked old new before now found true =
    Adds asked old new before now × HasFirstFault now found
TakesOne asked old new before now found false = AddsSome asked old new before now
