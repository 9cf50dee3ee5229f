-- How the readers of one input stand.
use Rattle.std.proofs.Common.{◌≡◌, ◌≢◌, ◌∙◌, ◌+◌, ◌-◌, ◌<◌, ◌≤◌, ℕ, Bool, true, false, List, [], ◌∷◌, ◌++◌, length, take, Option, None, Some, Result, Ok, Err, OnOk, refl, sym, ap, ap₂, subst, arith, append-nil, rules}
use Rattle.std.proofs.lemmas.List.{append_cancel_left, length-map, map-append, take_all, take-append-le}
use Rattle.std.specs.List.{AllByRecursion}
use Rattle.tre_trace.specs.Reading.{Recording, Stretch, Vocabulary, Adds, Grows, IsRefused, segment_for, segments_for}
use Rattle.tre_trace.specs.declared.segment.Segment.{Segment}
use Rattle.tre_trace.specs.declared.fault.TraceFault.{TraceFault}
use Rattle.tre_trace.specs.declared.fault.TraceKind.TheVariants.{Memory as NoMemory}
use Rattle.tre_feed.specs.Each.{AllStand, AllWereFed, ReadBy, RowsAre, RowsBegin, TakesOne, all_asked, asked_by, groups_in, recording_by}
use Rattle.tre_feed.specs.Stops.{IsToldOf, TakesIn}
use Rattle.tre_feed.specs.Turn.{TakesOn}
use Rattle.tre_feed.specs.declared.fault.Fault.{Fault}
use Rattle.tre_feed.specs.declared.fault.Fault.TheVariants.{Trace, TooLong, TooManyZones, Read, Write, Memory}
use Rattle.tre_feed.specs.declared.each.Fed.{Fed}
use Rattle.tre_feed.proofs.Outcomes.{GrowsOn}

pub each_so : {A : Type 0} (P Q : A → Type 0) → ((x : A) → P x → Q x) → (xs : List A)
    → AllByRecursion P xs → AllByRecursion Q xs
each_so P Q so [] all = tt
each_so P Q so (x ∷ xs) all = (so x all.0, each_so P Q so xs all.1)

-- what a reader is asked is two lists of names and terms
module _ {R Terms : Type 0} (names : R → Vocabulary) (terms : R → Terms) where
  pub recording_same : (recording : Terms → Bool → List ℕ → Recording) (new old : List (Fed R))
      → all_asked names terms new ≡ all_asked names terms old
      → recording_by recording terms new ≡ recording_by recording terms old
  recording_same recording [] [] same = refl
  recording_same recording [] (o ∷ old) same = absurd (omega (arith, ap length same))
  recording_same recording (n ∷ new) [] same = absurd (omega (arith, ap length same))
  recording_same recording (n ∷ new) (o ∷ old) same = search rules

  pub groups_same : (new old : List (Fed R))
      → all_asked names terms new ≡ all_asked names terms old
      → groups_in names new ≡ groups_in names old
  groups_same [] [] same = refl
  groups_same [] (o ∷ old) same = absurd (omega (arith, ap length same))
  groups_same (n ∷ new) [] same = absurd (omega (arith, ap length same))
  groups_same (n ∷ new) (o ∷ old) same =
      let first : asked_by names terms n.reader ≡ asked_by names terms o.reader = cc same in
      let others : all_asked names terms new ≡ all_asked names terms old = cc same in
      ap₂ (λ (group : Vocabulary) (groups : List Vocabulary). group ∷ groups)
      (ap (λ (asked : ReadBy Terms). asked.names) first) (groups_same new old others)

module _ {R Terms : Type 0} (terms : R → Terms) (recording : Terms → Bool → List ℕ → Recording)
  where
    -- nothing is taken back
    pub grows_by : ((all : Terms) (closed : Bool) (first more : List ℕ)
        → Grows (recording all false first) (recording all closed (first ++ more)))
        → (each : List (Fed R)) → GrowsOn (recording_by recording terms each)
    grows_by grows [] = λ closed first more. record {
      added = [];
      stretches = refl;
      fault = λ fault is. refl;
    }
    grows_by grows (fed ∷ each) = grows (terms fed.reader)

    -- readers that were fed bytes found no fault in them
    pub faultless_by : (represents : R → List ℕ → Type 0)
        → ((reader : R) (bytes : List ℕ) → represents reader bytes
        → (recording (terms reader) false bytes).fault ≡ None)
        → (each : List (Fed R)) (bytes : List ℕ) → AllWereFed terms represents each bytes
        → (recording_by recording terms each false bytes).fault ≡ None
    faultless_by represents faultless [] bytes were = refl
    faultless_by represents faultless (fed ∷ each) bytes were =
        faultless fed.reader bytes were.stand.0.1

    -- all say what any of them does
    pub by_terms : (represents : R → List ℕ → Type 0) (each : List (Fed R)) (bytes : List ℕ)
        (all : Terms) → 0 < length each → AllStand terms represents all bytes each
        → recording_by recording terms each ≡ recording all
    by_terms represents [] bytes all some stand = absurd (omega (arith, some))
    by_terms represents (fed ∷ each) bytes all some stand = ap recording stand.0.0

-- a first one and others that are asked what they were
pub asked_again : {R Terms : Type 0} (names : R → Vocabulary) (terms : R → Terms)
    (each new old : List (Fed R)) (first one : Fed R) → each ≡ first ∷ old
    → asked_by names terms one.reader ≡ asked_by names terms first.reader
    → all_asked names terms new ≡ all_asked names terms old
    → all_asked names terms (one ∷ new) ≡ all_asked names terms each
asked_again {Terms = Terms} names terms each new old first one is same others = search rules

-- readers that were fed at most this much
pub room_each : {R : Type 0} (fed_of : R → ℕ) (each : List (Fed R)) (taken limit most : ℕ)
    → AllByRecursion (λ fed. fed_of fed.reader ≤ taken) each → taken ≤ limit → limit ≤ most
    → AllByRecursion (λ fed. fed_of fed.reader + (limit - taken) ≤ most) each
room_each fed_of each taken limit most few inside fits = search (rules, each_so)

pub room_less : {R : Type 0} (fed_of : R → ℕ) (each : List (Fed R)) (more less most : ℕ)
    → AllByRecursion (λ fed. fed_of fed.reader + more ≤ most) each → less ≤ more
    → AllByRecursion (λ fed. fed_of fed.reader + less ≤ most) each
room_less fed_of each more less most room within = search (rules, each_so)

pub segments_more : (asked : Vocabulary) (waiting added : List Stretch)
    → segments_for asked waiting ++ segments_for asked added
    ≡ segments_for asked (waiting ++ added)
segments_more asked waiting added = sym (map-append (segment_for asked) waiting added)

-- a row behind which these stretches stand
pub row_more : (asked : Vocabulary) (old new : List Segment) (before now : Recording)
    → Adds asked old new before now → (waiting added : List Stretch)
    → now.stretches ≡ before.stretches ++ added → old ≡ segments_for asked waiting
    → new ≡ segments_for asked (waiting ++ added)
row_more asked old new before now adds waiting added beyond are =
    search (rules, append_cancel_left, segments_for, segments_more, adds.added, before.stretches)

-- a row in front of which what waited stands
row_front : (asked : Vocabulary) (old new more : List Segment) (waiting : List Stretch)
    → new ≡ old ++ more → old ≡ segments_for asked waiting
    → take (length waiting) new ≡ segments_for asked waiting
row_front asked old new more waiting is are =
    search (rules, length-map, segment_for, take-append-le, take_all)

pub row_begins : (asked : Vocabulary) (old new : List Segment) (before now : Recording)
    (found : Option TraceFault) (ok : Bool) → TakesOne asked old new before now found ok
    → (waiting : List Stretch) → old ≡ segments_for asked waiting
    → take (length waiting) new ≡ segments_for asked waiting
row_begins asked old new before now found true takes waiting are =
    row_front asked old new (segments_for asked takes.0.added) waiting takes.0.new_is are
row_begins asked old new before now found false takes waiting are =
    row_front asked old new (segments_for asked takes.added) waiting takes.new_is are

-- rows that nothing was done to begin as they are
pub rows_begin : {R : Type 0} (names : R → Vocabulary) (each : List (Fed R))
    (waiting : List Stretch) → RowsAre names each waiting → RowsBegin names each waiting
rows_begin names each waiting rows =
    each_so (λ fed. fed.row.items ≡ segments_for (names fed.reader) waiting)
    (λ fed. take (length waiting) fed.row.items ≡ segments_for (names fed.reader) waiting)
    (λ fed are. row_front (names fed.reader) fed.row.items fed.row.items [] waiting
    (sym (append-nil fed.row.items)) are) each rows

pub first_length : {R : Type 0} (names : R → Vocabulary) (fed : Fed R) (each : List (Fed R))
    (waiting : List Stretch) → RowsAre names (fed ∷ each) waiting
    → length fed.row.items ≡ length waiting
first_length names fed each waiting rows =
    ap length rows.0 ∙ length-map waiting (segment_for (names fed.reader))

-- what all have read on, and what the first has told
pub takes_told : (waits then_waits : List Stretch → Type 0) (before now : Recording)
    (told : Result (Unit {0}) Fault) → TakesOn waits then_waits before now
    → IsToldOf now told → TakesIn waits then_waits before now told
takes_told waits then_waits before now (Ok done) takes is = (takes, is)
takes_told waits then_waits before now (Err (Trace fault)) takes is = (is.0, takes, is.1)
takes_told waits then_waits before now (Err TooLong) takes is = absurd is
takes_told waits then_waits before now (Err (TooManyZones zones)) takes is = absurd is
takes_told waits then_waits before now (Err Write) takes is = absurd is
takes_told waits then_waits before now (Err Read) takes is = absurd is
takes_told waits then_waits before now (Err Memory) takes is = absurd is

pub on_ok_told : (now : Recording) (told : Result (Unit {0}) Fault) (P : Type 0)
    → IsToldOf now told → (now.fault ≡ None → P) → OnOk told P
on_ok_told now (Ok done) P is then = then is
on_ok_told now (Err fault) P is then = tt

-- nothing is taken back at the end
pub grows_closed : (recording : Bool → List ℕ → Recording) → GrowsOn recording
    → (bytes : List ℕ) → Grows (recording false bytes) (recording true bytes)
grows_closed recording grows bytes = subst (λ all. Grows (recording false bytes)
    (recording true all)) (append-nil bytes) (grows true bytes [])

-- why a reader refused, by whether that was a want of memory
pub takes_refused : (asked : Vocabulary) (old new : List Segment) (before now : Recording)
    (fault : TraceFault) (more : Bool) → IsRefused asked old new before now fault
    → (more ≡ true → fault.kind ≢ NoMemory)
    → TakesOne asked old new before now (Some fault) more
takes_refused asked old new before now fault true refused kind = search rules
takes_refused asked old new before now fault false refused kind = refused.adds_some

-- then there is a fault
pub refused_faulty : (asked : Vocabulary) (old new : List Segment) (before now : Recording)
    (fault : TraceFault) → IsRefused asked old new before now fault
    → fault.kind ≢ NoMemory → now.fault ≡ None → ⊥
refused_faulty asked old new before now fault refused kind none = search rules

-- no test says both
pub no_both : (test : Bool) → test ≡ false → test ≡ true → ⊥
no_both test fails passes = cc
