-- What was read of an input, from no bytes to its end.
use Rattle.std.proofs.Common.{◌≡◌, ◌≢◌, ◌∙◌, ◌+◌, ◌<◌, ℕ, Bool, true, false, List, [], ◌∷◌, ◌++◌, All, length, get_or, map, take, Option, None, Some, IsTrue, Result, Ok, Err, refl, sym, subst, arith, rules}
use Rattle.std.specs.Io.KnownBytes.{Consumes, IsAtEnd}
use Rattle.std.proofs.lemmas.List.{length-map}
use Rattle.tre_trace.specs.Reading.{Recording, Stretch, Vocabulary, no_names, reading_for, segments_for}
use Rattle.tre_trace.specs.Trace.{Timeline, IsTrace}
use Rattle.tre_feed.specs.Each.{recording_by}
use Rattle.tre_feed.specs.Input.{InputTold, WereRead, AllReadsGood, AreAllBytes, HasReadCause}
use Rattle.tre_feed.specs.Traces.{IsWhole, StopsReading, trace_for}
use Rattle.tre_feed.specs.Turn.{TurnIsFed, EndsTurn, TakesOn}
use Rattle.tre_feed.specs.declared.fault.Fault.{Fault}
use Rattle.tre_feed.specs.declared.fault.Fault.TheVariants.{Trace, TooLong, TooManyZones, Read, Write, Memory}
use Rattle.tre_feed.specs.declared.each.Fed.{Fed}
use Rattle.tre_feed.proofs.Seeing.{at_mapped}

module _ {R Terms : Type 0} (terms : R → Terms) (recording : Terms → Bool → List ℕ → Recording)
  where
    -- no bytes say nothing
    pub starts_by : ((all : Terms) → (recording all false []).stretches ≡ [])
        → (each : List (Fed R)) → (recording_by recording terms each false []).stretches ≡ []
    starts_by starts [] = refl
    starts_by starts (fed ∷ each) = starts (terms fed.reader)

    -- what bytes say is a trace, for any names
    pub traces_by : ((all : Terms) (asked : Vocabulary) (closed : Bool) (bytes : List ℕ)
        → IsTrace (reading_for asked (recording all closed bytes)).segments)
        → (each : List (Fed R)) (closed : Bool) (bytes : List ℕ) (asked : Vocabulary)
        → IsTrace (segments_for asked (recording_by recording terms each closed bytes).stretches)
    traces_by traces [] closed bytes asked = record { long = tt; in_time = omega arith }
    traces_by traces (fed ∷ each) closed bytes asked = traces (terms fed.reader) asked closed bytes

-- These bytes were fed, and what they say is packed.
pub record IsCollected (were_fed : List ℕ → Type 0) (waits : List Stretch → Type 0)
    (recording : Bool → List ℕ → Recording) (limit : ℕ) (input : InputTold) (count : ℕ)
    : Type 0 where
  pub bytes : List ℕ
  pub fed : TurnIsFed were_fed limit input count bytes
  pub told : waits (recording false (take limit bytes)).stretches

-- what is packed before a byte is read
pub told_start : (waits : List Stretch → Type 0) (recording : Bool → List ℕ → Recording)
    (limit : ℕ) → (recording false []).stretches ≡ [] → waits []
    → waits (recording false (take limit [])).stretches
told_start waits recording limit nothing none = search rules

-- what is packed behind a turn before which nothing waited
pub told_more : (packs : List Stretch → Type 0) {waits then_waits : List Stretch → Type 0}
    {before now : Recording} → TakesOn waits then_waits before now → waits []
    → ((added : List Stretch) → then_waits added → packs (before.stretches ++ added))
    → packs now.stretches
told_more packs takes none pack = search rules

-- a turn went on, and what it completed was packed
pub IsCollected-more : {were_fed then_fed : List ℕ → Type 0} {has_ended : (List ℕ → Bool) → Type 0}
    (recording : Bool → List ℕ → Recording) (limit : ℕ) (input : InputTold) (count taken : ℕ)
    (bytes : List ℕ) (packs : List Stretch → Type 0) {waits then_waits : List Stretch → Type 0}
    → EndsTurn were_fed has_ended recording limit input count bytes waits then_waits (Ok true)
    → waits [] → ((added : List Stretch) → then_waits added
    → packs ((recording false (take limit bytes)).stretches ++ added))
    → ((fed : List ℕ) → were_fed fed → then_fed fed) → taken ≡ count
    → IsCollected then_fed packs recording limit input taken
IsCollected-more recording limit input count taken bytes packs ends none pack kept same = record {
  bytes = bytes ++ ends.piece;
  fed = record {
    front = ends.front;
    last = ends.last;
    size = ends.finds.1 ∙ sym same;
    few = omega (arith, ends.finds.1, ends.few, same);
    fed = kept _ ends.finds.2;
  };
  told = rw ends.finds.0 at (told_more packs ends.adds none pack);
}

-- so it is by what is asked now, which is the same
pub IsCollected-as : (were_fed : List ℕ → Type 0) (packs : List Timeline → List Stretch → Type 0)
    (said now : Bool → List ℕ → Recording) (limit most : ℕ) (traces items : List Timeline)
    {input : InputTold} {taken : ℕ} → now ≡ said → most ≡ limit → items ≡ traces
    → IsCollected were_fed (packs traces) said limit input taken
    → IsCollected were_fed (packs items) now most input taken
IsCollected-as were_fed packs said now limit most traces items same limited are read = search rules

-- the bytes of an open input
were_read : (input : InputTold) (bytes : List ℕ) → input.now.opened ≡ true
    → Consumes input.before.file input.now.left bytes → WereRead input bytes
were_read input bytes opened front = search rules

-- of one that was read to its end
AreAllBytes-read : (input : InputTold) (bytes : List ℕ) → input.now.opened ≡ true
    → Consumes input.before.file input.now.left bytes → IsAtEnd input.now.left → AreAllBytes input
    bytes
AreAllBytes-read input bytes opened front all = search rules

module _ (recording : Bool → List ℕ → Recording) (limit : ℕ) (name : List ℕ)
    (input : InputTold) where
  -- a turn stopped
  pub StopsReading-turn : {were_fed : List ℕ → Type 0} {has_ended : (List ℕ → Bool) → Type 0}
      {count : ℕ} {bytes : List ℕ} {waits then_waits : List Stretch → Type 0} (fault : Fault)
      → input.now.opened ≡ true
      → HasReadCause {T = Bool} input.before.faults input.now.faults (Err fault)
      → (IsTrue input.before.sound → fault ≢ Read)
      → EndsTurn were_fed has_ended recording limit input count bytes waits then_waits (Err fault)
      → StopsReading recording limit name input fault
  StopsReading-turn (Trace fault) opened cause sound ends = (
    ends.finds.0,
    record { opened = opened; stretches = _; cause = ends.finds.1; reads = cause },
  )
  StopsReading-turn TooLong opened cause sound ends =
      record { opened = opened; stretches = _; cause = ends.finds; reads = cause }
  StopsReading-turn {bytes = bytes} Read opened cause sound ends = (
    record { cause = cause; unsound = λ good. absurd (sound good refl) },
    record {
      bytes = bytes;
      read = were_read input bytes opened (rw ends.finds.1 at ends.front);
      within = ends.finds.2;
      faultless = ends.finds.3;
    },
  )
  StopsReading-turn (TooManyZones zones) opened cause sound ends = absurd ends.finds
  StopsReading-turn Write opened cause sound ends = absurd ends.finds
  StopsReading-turn Memory opened cause sound ends = cause

  -- the input couldn't be opened
  pub StopsReading-unread : (fault : Fault) → fault ≡ Read
      → (recording false []).fault ≡ None → input.now.opened ≡ false
      → HasReadCause {T = Unit {0}} input.before.faults input.now.faults (Err fault)
      → (IsTrue input.before.sound → input.before.name ≡ Some name → fault ≢ Read)
      → StopsReading recording limit name input fault
  StopsReading-unread Read is none closed cause sound = search rules
  StopsReading-unread Memory is none closed cause sound = cc
  StopsReading-unread (Trace fault) is none closed cause sound = cc
  StopsReading-unread TooLong is none closed cause sound = cc
  StopsReading-unread (TooManyZones zones) is none closed cause sound = cc
  StopsReading-unread Write is none closed cause sound = cc

traces_each : (said : Recording) (asked : List Vocabulary)
    → ((names : Vocabulary) → IsTrace (segments_for names said.stretches))
    → All (λ (trace : Timeline). IsTrace trace.segments) (map (trace_for said) asked)
traces_each said asked traces = λ k d below.
    let inside : k < length asked = omega (arith, below, length-map asked (trace_for said)) in
    subst (λ (trace : Timeline). IsTrace trace.segments)
    (sym (at_mapped (trace_for said) asked k no_names d inside))
    (traces (get_or asked k no_names))

-- the whole input was read, and these are the traces of all its bytes
pub IsWhole-ended : (asked : List Vocabulary) (recording : Bool → List ℕ → Recording)
    (limit : ℕ) (input : InputTold) (traces : List Timeline) {were_fed : List ℕ → Type 0}
    {has_ended : (List ℕ → Bool) → Type 0} {count : ℕ} {bytes : List ℕ}
    {waits then_waits : List Stretch → Type 0} → input.now.opened ≡ true → AllReadsGood input
    → (ends : EndsTurn were_fed has_ended recording limit input count bytes waits then_waits
    (Ok false))
    → traces ≡ map (trace_for (recording true (bytes ++ ends.piece))) asked
    → ((names : Vocabulary) → IsTrace (segments_for names
    (recording true (bytes ++ ends.piece)).stretches))
    → IsWhole asked recording limit input traces
IsWhole-ended asked recording limit input traces {bytes = bytes} opened reads ends are is_trace =
    let end = ends.ended ends.finds.0 in
    record {
      reads = reads;
      bytes = bytes ++ ends.piece;
      all = AreAllBytes-read input (bytes ++ ends.piece) opened ends.front end.0;
      within = end.1;
      faultless = ends.finds.1;
      reads_as = are;
      are_traces = rw are (traces_each (recording true (bytes ++ ends.piece)) asked is_trace);
    }
