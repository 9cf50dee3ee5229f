-- An input that is told, from before it is opened to its end.
use Rattle.std.proofs.Common.{◌≡◌, ◌≢◌, ◌∙◌, ℕ, ◌<◌, Bool, true, false, List, [], ◌∷◌, ◌++◌, length, take, map, MatchBool, Option, None, Some, IsTrue, Result, Err, refl, sym, ap, subst, arith}
use Rattle.std.specs.Io.KnownBytes.{Keeps}
use Rattle.std.proofs.KnownBytes.{Consumes-kept, Consumes-nil}
use Rattle.std.proofs.lemmas.List.{length-map, take_all}
use Rattle.tre_feed.specs.Input.{HasReadCause, InputTold, WereRead}
use Rattle.tre_feed.specs.Each.{AllStand, recording_by}
use Rattle.tre_feed.specs.Standing.{IsAsked, IsNew, recording_of}
use Rattle.tre_feed.specs.declared.each.Fed.{Fed}
use Rattle.tre_feed.specs.declared.input.Input.{Input}
use Rattle.tre_feed.proofs.Pieces.{found_behind}
use Rattle.tre_online.specs.Watch.{trees_of, ended_of_each, Watches}
use Rattle.tre_online.specs.declared.watch.Watch.{Watch}
use Rattle.tre_syntax.specs.Pattern.{names_of, pattern_tree}
use Rattle.tre_syntax.specs.declared.pattern.Pattern.{Pattern}
use Rattle.tre_trace.specs.Reading.{Grows, Recording, Stretch, Vocabulary, events_for, reading_for}
use Rattle.tre_trace.specs.Trace.{IsTrace}
use Rattle.tre_trace.specs.declared.segment.Segment.{Segment}
use Rattle.tre_tell.specs.Ends.{EndsTelling, ReadsInput, StandsAtMemory, as_it_comes}
use Rattle.tre_feed.specs.Turn.{TurnIsFed}
use Rattle.tre_tell.specs.Outputs.{OutputTold, NothingWritten}
use Rattle.tre_tell.specs.Sought.{Sought, all_names, sought_by}
use Rattle.tre_tell.specs.Online.{BlocksStand}
use Rattle.tre_tell.specs.Request.{Request}
use Rattle.tre_tell.specs.Telling.{rows_for, HasTold}
use Rattle.tre_feed.specs.declared.fault.Fault.{Fault}
use Rattle.tre_feed.specs.declared.fault.Fault.TheVariants.{Trace, TooLong, TooManyZones, Read, Write, Memory}
use Rattle.tre_tell.proofs.Closing.{BlocksStand-none, HasTold-start}
use Rattle.tre_tell.proofs.Rows.{count_asked}
use Rattle.tre_tell.proofs.Tellings.{HasLaws}

-- a cause, counted from where nothing was counted before
pub HasReadCause-from : {T : Type 0} (before before' now : ℕ) (result : Result T Fault)
    → before ≡ before' → HasReadCause before now result → HasReadCause before' now result
HasReadCause-from before before' now result same cause =
    subst (λ n. HasReadCause n now result) same cause

-- These bytes were fed, and the blocks of the stretches that they say were written.
pub record IsTelling (request : Request) (were_fed : List ℕ → Type 0) (input : InputTold)
    (count : ℕ) (watch : Watch) (labels : List (List ℕ)) (before now : Option (List ℕ)) : Type 0
  where
    pub bytes : List ℕ
    pub fed : TurnIsFed were_fed request.job.max_bytes input count bytes
    pub told : HasTold watch labels request.job.scale request.patterns
        (rows_for (all_names request.patterns)
        (request.recording false (take request.job.max_bytes bytes)).stretches) before now

-- there are as many labels as patterns
pub labels_count : {watch : Watch} {labels : List (List ℕ)} {scale : ℕ} {patterns : List Sought}
    {rows : List (List Segment)} {before now : Option (List ℕ)}
    → HasTold watch labels scale patterns rows before now
    → length labels ≡ length (trees_of watch)
labels_count {patterns = patterns} told =
    ap length told.same_labels
    ∙ (length-map patterns (λ (pattern : Sought). pattern.label)
    ∙ (sym (length-map patterns (λ (pattern : Sought). pattern.tree))
    ∙ ap length (sym told.same_trees)))

-- there is an event at the end for each
pub count_lasts : (watch : Watch) (asked : List Vocabulary) (told : List Stretch)
    (last : List ℕ → Bool) → Watches watch (rows_for asked told)
    → length (map (λ names. events_for names last) asked) ≡ length (trees_of watch)
count_lasts watch asked told last stands =
    length-map asked (λ names. events_for names last) ∙ count_asked watch asked told stands

-- what is looked for by patterns has their names
pub asked_sought : (labels : List (List ℕ)) (patterns : List Pattern)
    → length labels ≡ length patterns
    → all_names (sought_by labels patterns) ≡ map names_of patterns
asked_sought [] [] same = refl
asked_sought [] (pattern ∷ patterns) same = absurd (omega (arith, same))
asked_sought (label ∷ labels) [] same = absurd (omega (arith, same))
asked_sought (label ∷ labels) (pattern ∷ patterns) same =
    ap (λ rest. names_of pattern ∷ rest) (asked_sought labels patterns (omega (arith, same)))

pub some_sought : (labels : List (List ℕ)) (patterns : List Pattern)
    → length labels ≡ length patterns → 0 < length patterns
    → 0 < length (sought_by labels patterns)
some_sought labels patterns same some = omega (
  arith,
  some,
  length-map patterns names_of,
  ap length (asked_sought labels patterns same),
  length-map (sought_by labels patterns) (λ (pattern : Sought). pattern.names),
)

-- an input that is asked as it was, and asked so again
pub IsAsked-next : {R Terms : Type 0} {names : R → Vocabulary} {terms : R → Terms}
    {recording : Terms → Bool → List ℕ → Recording} {first second third : Input R}
    → IsAsked names terms recording first second → IsAsked names terms recording second third
    → IsAsked names terms recording first third
IsAsked-next one two = record {
  asks = λ asked asks. two.asks asked (one.asks asked asks);
  said = two.said ∙ one.said;
  limit = two.limit ∙ one.limit;
}

-- what is known of what bytes say by the terms of a reader
module _ {R Terms : Type 0} (recording : Terms → Bool → List ℕ → Recording) (terms : R → Terms)
  where
    pub starts_of : ((all : Terms) → (recording all false []).stretches ≡ [])
        → (each : List (Fed R)) → (recording_by recording terms each false []).stretches ≡ []
    starts_of starts [] = refl
    starts_of starts (fed ∷ others) = starts (terms fed.reader)

    pub laws_of : ((all : Terms) → (recording all false []).stretches ≡ [])
        → ((all : Terms) (closed : Bool) (first more : List ℕ)
        → Grows (recording all false first) (recording all closed (first ++ more)))
        → ((all : Terms) (asked : Vocabulary) (closed : Bool) (bytes : List ℕ)
        → IsTrace (reading_for asked (recording all closed bytes)).segments)
        → (each : List (Fed R)) → HasLaws (recording_by recording terms each)
    laws_of starts grows is_trace [] = record {
      starts = refl;
      grows = λ closed first more.
          record { added = []; stretches = refl; fault = λ fault told. refl };
      is_trace = λ names closed bytes. record { long = tt; in_time = omega arith };
    }
    laws_of starts grows is_trace (fed ∷ others) = record {
      starts = starts (terms fed.reader);
      grows = grows (terms fed.reader);
      is_trace = is_trace (terms fed.reader);
    }

    -- readers that were fed nothing found no fault
    pub faultless_new : (represents : R → List ℕ → Type 0) (names : R → Vocabulary)
        → ((reader : R) (bytes : List ℕ) → represents reader bytes
        → (recording (terms reader) false bytes).fault ≡ None)
        → (input : Input R) → IsNew terms represents names input
        → (recording_of recording terms input false []).fault ≡ None
    faultless_new represents names faultless input new = each input.each.items new.fed.stand
      where
        each : (readers : List (Fed R)) → AllStand terms represents new.fed.all [] readers
            → (recording_by recording terms readers false []).fault ≡ None
        each [] stand = refl
        each (first ∷ others) stand = faultless first.reader [] stand.0.1

none_taken : (limit : ℕ) → take {A = ℕ} limit [] ≡ []
none_taken limit = take_all {A = ℕ} limit [] (omega arith)

none_read : (input : InputTold) → (IsTrue input.now.opened → Keeps input.before.file input.now.left)
    → WereRead input []
none_read input kept = record {
  of_open = λ is_open. Consumes-kept input.before.file input.before.file input.now.left []
      (Consumes-nil input.before.file)
      (kept is_open);
  of_closed = λ closed. refl;
}

-- an input of which nothing was read
module _ (labels : List (List ℕ)) (patterns : List Pattern)
    (recording : Bool → List ℕ → Recording) (limit scale : ℕ)
    (nothing : (recording false []).stretches ≡ []) where
  -- what a new watch has told are the rows of no bytes
  pub HasTold-nothing : (watch : Watch) (told : Option (List ℕ))
      → length labels ≡ length patterns → Watches watch (map (λ _. []) patterns)
      → ended_of_each watch ≡ map (λ _. []) patterns
      → trees_of watch ≡ map pattern_tree patterns
      → HasTold watch labels scale (sought_by labels patterns)
      (rows_for (all_names (sought_by labels patterns)) (recording false (take limit [])).stretches)
      told told
  HasTold-nothing watch told same stands ended trees = rw (none_taken limit, nothing)
      (HasTold-start watch labels scale patterns told same stands ended trees)

-- an input of which nothing was read, for a request
module _ (request : Request) (nothing : (request.recording false []).stretches ≡ [])
    (input : InputTold) (output : OutputTold)
    (kept : IsTrue input.now.opened → Keeps input.before.file input.now.left)
    (none : NothingWritten output) where
  -- no block stands there
  nothing_stands : (told : Bool)
      → MatchBool told (BlocksStand request output []) (NothingWritten output)
  nothing_stands true = BlocksStand-none request output none
  nothing_stands false = none

  none_known : (request.recording false (take request.job.max_bytes [])).stretches ≡ []
  none_known =
      ap (λ (bytes : List ℕ). (request.recording false bytes).stretches)
      (none_taken request.job.max_bytes) ∙ nothing

  -- none was held back
  pub StandsAtMemory-unread
      : (IsTrue input.now.opened → Keeps input.now.found input.before.file)
      → StandsAtMemory request input output
  StandsAtMemory-unread finds = (
    [],
    [],
    nothing_stands (as_it_comes request.job.mode),
    λ so. record {
      earlier = [];
      piece = [];
      short = omega arith;
      behind = λ is_open. found_behind input.before.file input.before.file input.now.found []
          (Consumes-nil input.before.file) (finds is_open);
      read = none_read input kept;
      closed = false;
      ended = λ e. cc;
      known = sym none_known;
      prompt = omega (arith, ap length none_known);
    },
  )

  -- it couldn't be opened, or memory was wanting then
  pub EndsTelling-unread : (fault : Fault) → ReadsInput request.job.mode
      → (request.recording false []).fault ≡ None
      → (IsTrue input.now.opened → Keeps input.now.found input.before.file)
      → HasReadCause {T = Bool} input.before.faults input.now.faults (Err fault)
      → (fault ≢ Read → fault ≢ Memory → ⊥)
      → (IsTrue input.before.sound → input.before.name ≡ Some request.job.input → fault ≢ Read)
      → EndsTelling {T = Unit {0}} request input output (Err fault)
  EndsTelling-unread Read reads faultless finds read only sound = record {
    reads_input = reads;
    unread = record { cause = read; unsound = λ good named. sound good named refl };
    bytes = [];
    read = none_read input kept;
    within = omega arith;
    faultless = faultless;
    stands = rw nothing (nothing_stands (as_it_comes request.job.mode));
  }
  EndsTelling-unread Memory reads faultless finds read only sound =
      (read, StandsAtMemory-unread finds)
  EndsTelling-unread (Trace fault) reads faultless finds read only sound =
      absurd (only (λ e. cc) (λ e. cc))
  EndsTelling-unread TooLong reads faultless finds read only sound =
      absurd (only (λ e. cc) (λ e. cc))
  EndsTelling-unread (TooManyZones zones) reads faultless finds read only sound =
      absurd (only (λ e. cc) (λ e. cc))
  EndsTelling-unread Write reads faultless finds read only sound =
      absurd (only (λ e. cc) (λ e. cc))
