-- What was found over a whole input, and the text that tells it.
use Rattle.std.proofs.Common.{◌≡◌, ◌∙◌, ℕ, ◌+◌, ◌≤◌, ◌<◌, Bool, true, false, List, [], ◌∷◌, length, get_or, map, Option, None, Some, IfSome, IsSomeAnd, is_some, IsTrue, inr, refl, sym, ap, subst, arith}
use Rattle.std.proofs.lemmas.List.{length-map}
use Rattle.tre_feed.specs.Input.{InputTold, AllReadsGood}
use Rattle.tre_feed.specs.Comes.{Outcome, refuses, exceeds}
use Rattle.tre_feed.specs.Traces.{IsWhole, IsDecided, StopsReading, trace_for}
use Rattle.tre_feed.specs.declared.fault.Fault.{Fault}
use Rattle.tre_feed.specs.declared.fault.Fault.TheVariants.{Trace, TooLong, TooManyZones, Read, Write, Memory}
use Rattle.tre_show.specs.Line.{offline_text}
use Rattle.tre_trace.specs.Reading.{Recording, Stretch, Vocabulary, no_names, segments_for}
use Rattle.tre_trace.specs.Trace.{Timeline, end_of}
use Rattle.tre_words.specs.Job.{IsJob, is_whole}
use Rattle.tre_words.specs.declared.job.Job.{Job}
use Rattle.tre_words.specs.declared.job.Mode.{Mode}
use Rattle.tre_words.specs.declared.job.Mode.TheVariants.{Offline, Online, Show, Generate, Watch, Check}
use Rattle.tre_zone.specs.ZoneList.{SetHolds, HoldExactly}
use Rattle.tre_zone.specs.declared.zone_bounds.ZoneBounds.{ZoneBounds}
use Rattle.tre_zoneset.specs.ZoneSet.{IsZoneSet}
use Rattle.tre_tell.specs.Ends.{EndsAtInput, ReadsInput, StandsSoFar, as_it_comes}
use Rattle.tre_tell.specs.Outputs.{OutputTold, NothingWritten}
use Rattle.tre_tell.specs.Request.{Request}
use Rattle.tre_tell.specs.Streams.{OfBytes}
use Rattle.tre_tell.specs.Sought.{Sought, all_names}
use Rattle.tre_tell.proofs.Tellings.{at_input, of_all}
use Rattle.tre_answer.specs.Ends.{AreTooManyIn, IsAnswerIn}
use Rattle.tre_answer.specs.Parts.{IsFound, IsFoundFor, IsReadAs, StopsAs}
use Rattle.tre_answer.specs.Wanted.{IsWanted, AreZonesOf, AreZonesFor, AreTooMany, IsOfflineAnswer}
use Rattle.tre_answer.proofs.Wanted.{AreZonesOf-wanted}

-- a limit of zones is one of canonical ones
pub normal_limit : (job : Job) → IsJob job → (count : ℕ)
    → IsSomeAnd job.max_zones (λ most. most < count) → job.normal ≡ true
normal_limit job is count many = is.together.max_zones (is_limited job.max_zones many)
  where
    is_limited : (most : Option ℕ) → IsSomeAnd most (λ limit. limit < count)
        → is_some most ≡ true
    is_limited None many = absurd many
    is_limited (Some limit) many = refl

-- there is a trace for each list of names
pub a_trace_each : {asked : List Vocabulary} {recording : Bool → List ℕ → Recording} {limit : ℕ}
    {input : InputTold} {traces : List Timeline} → IsWhole asked recording limit input traces
    → length traces ≡ length asked
a_trace_each {asked} {recording} whole =
    ap length whole.reads_as ∙ length-map asked (trace_for (recording true whole.bytes))

-- what bytes say ends where each of their traces does
ends_alike : (start : ℕ) (names : Vocabulary) (stretches : List Stretch)
    → end_of start (segments_for names stretches) ≡ end_of start (segments_for no_names stretches)
ends_alike start names [] = refl
ends_alike start names (stretch ∷ stretches) = ends_alike (start + stretch.len) names stretches

first_ends : (said : Recording) (asked : List Vocabulary) (traces : List Timeline) (d : Timeline)
    → traces ≡ map (trace_for said) asked → 0 < length traces
    → end_of 0 (get_or traces 0 d).segments ≡ end_of 0 (segments_for no_names said.stretches)
first_ends said [] traces d are some = absurd (omega (arith, some, ap length are))
first_ends said (names ∷ asked) traces d are some = rw are (ends_alike 0 names said.stretches)

-- the traces of names are those of the patterns that have them
of_patterns : (said : Recording) (patterns : List Sought)
    → map (trace_for said) (all_names patterns)
    ≡ map (λ pattern. trace_for said pattern.names) patterns
of_patterns said [] = refl
of_patterns said (pattern ∷ patterns) =
    ap (λ rest. trace_for said pattern.names ∷ rest) (of_patterns said patterns)

-- the traces that a whole input is
pub IsReadAs-whole : (request : Request) (input : InputTold)
    (limit : ℕ) (traces : List Timeline) (d : Timeline) (end : ℕ)
    → limit ≡ request.job.max_bytes
    → IsWhole (all_names request.patterns) request.recording limit input traces → 0 < length traces
    → end ≡ end_of 0 (get_or traces 0 d).segments → IsReadAs request input traces end
IsReadAs-whole request input limit traces d end limited read some ends =
    let whole = rw limited at read in
    let said = request.recording true whole.bytes in
    record {
      reads = whole.reads;
      bytes = whole.bytes;
      all = whole.all;
      are = record {
        within = whole.within;
        whole = whole.faultless;
        are = whole.reads_as ∙ of_patterns said request.patterns;
        are_traces = whole.are_traces;
      };
      ends = ends ∙ first_ends said (all_names request.patterns) traces d whole.reads_as some;
    }

-- what is wanted over them
pub IsFound-whole : (request : Request) (input : InputTold)
    (limit : ℕ) (traces : List Timeline) (d : Timeline) (set : List ZoneBounds) (end : ℕ)
    → limit ≡ request.job.max_bytes
    → IsWhole (all_names request.patterns) request.recording limit input traces → 0 < length traces
    → HoldExactly set (IsWanted request.patterns traces)
    → end ≡ end_of 0 (get_or traces 0 d).segments → IsFound request input set end
IsFound-whole request input limit traces d set end limited read some exact ends = record {
  traces = traces;
  read = IsReadAs-whole request input limit traces d end limited read some ends;
  exact = exact;
}

-- what is so of the bytes that were read is so of all
pub of_read : (request : Request) (input : InputTold) (traces : List Timeline) (end : ℕ)
    (read : IsReadAs request input traces end) (IsSo : List ℕ → Type 0) → IsSo read.bytes
    → OfBytes input IsSo
of_read request input traces end read IsSo so = of_all input read.bytes IsSo read.all.opened
    (read.all.read.of_open read.all.opened) read.all.all_read read.reads so

module _ (request : Request) (input : InputTold) (set zones : List ZoneBounds) (end : ℕ)
    (found : IsFound request input set end) (is_set : IsZoneSet set)
    (asked : AreZonesOf request.job.normal (SetHolds set) zones) where
  right_zones : AreZonesFor request found.read.bytes zones
  right_zones = record {
    traces = found.traces;
    are = found.read.are;
    found = AreZonesOf-wanted request.job.normal request.patterns found.traces set zones
        is_set.canonical found.exact asked;
  }

  of_found : (IsSo : List ℕ → Type 0) → IsSo found.read.bytes → OfBytes input IsSo
  of_found = of_read request input found.traces end found.read

  -- the text of an answer
  pub IsFoundFor-text : request.job.mode ≡ Offline → (text : List ℕ)
      → IfSome request.job.max_zones (λ most. length zones ≤ most)
      → text ≡ offline_text request.job.scale zones end → IsFoundFor 0 request input text
  IsFoundFor-text offline text few printed = record {
    reads = found.read.reads;
    right = subst (λ mode. IsAnswerIn mode 0 request input [] text) (sym offline) (
      found.read.all.all_read,
      of_found (λ bytes. IsOfflineAnswer request bytes text) (record {
        zones = zones;
        right = right_zones;
        few = few;
        printed = printed ∙ ap (offline_text request.job.scale zones) found.read.ends;
      }),
    );
    unchecked = inr refl;
  }

  -- there are too many zones
  pub StopsAs-over : request.job.mode ≡ Offline → request.job.normal ≡ true
      → IsSomeAnd request.job.max_zones (λ most. most < length zones)
      → StopsAs request input (TooManyZones (length zones))
  StopsAs-over offline normal many = λ output unwritten. record {
    whole = ap is_whole offline;
    ended = found.read.all.all_read;
    cause = subst (λ mode. OfBytes input (λ bytes. AreTooManyIn mode request bytes (length zones)))
        (sym offline) (of_found (λ bytes. AreTooMany request bytes (length zones)) (record {
          normal = normal;
          zones = zones;
          right = right_zones;
          counted = refl;
          many = many;
        }));
    nothing = unwritten;
  }

-- an answer over a whole input reads it, and isn't told as it comes
whole_reads : (mode : Mode) → is_whole mode ≡ true → ReadsInput mode
whole_reads Offline whole = tt
whole_reads Online whole = tt
whole_reads Show whole = absurd (cc)
whole_reads (Generate count) whole = absurd (cc)
whole_reads (Watch file) whole = tt
whole_reads (Check file) whole = tt

whole_waits : (mode : Mode) → is_whole mode ≡ true → as_it_comes mode ≡ false
whole_waits Offline whole = refl
whole_waits Online whole = absurd (cc)
whole_waits Show whole = refl
whole_waits (Generate count) whole = refl
whole_waits (Watch file) whole = absurd (cc)
whole_waits (Check file) whole = refl

module _ (request : Request) (input : InputTold) (whole : is_whole request.job.mode ≡ true) where
  reads_here : ReadsInput request.job.mode
  reads_here = whole_reads request.job.mode whole

  nothing_so_far : (output : OutputTold) (stretches : List Stretch) → NothingWritten output
      → StandsSoFar request output stretches
  nothing_so_far output stretches unwritten =
      rw (whole_waits request.job.mode whole) unwritten

  -- memory was wanting
  pub StopsAs-wanting : AllReadsGood input → StopsAs request input Memory
  StopsAs-wanting reads = λ output unwritten.
      (reads, ([], [], nothing_so_far output [] unwritten, λ comes. not_told comes))
    where
      not_told : {X : Type 0} → IsTrue (as_it_comes request.job.mode) → X
      not_told comes =
          let waits = whole_waits request.job.mode whole in
          absurd (cc)

  stops_decided : (outcome : Outcome) (output : OutputTold)
      → IsDecided request.recording request.job.max_bytes input outcome
      → NothingWritten output → EndsAtInput outcome request input output
  stops_decided outcome output decided unwritten =
      at_input request outcome input output reads_here decided.opened decided.reads decided.cause
      (nothing_so_far output _ unwritten)

  -- the input couldn't be read as traces
  StopsAs-unread : (fault : Fault)
      → StopsReading request.recording request.job.max_bytes request.job.input input fault
      → StopsAs request input fault
  StopsAs-unread (Trace fault) stops = λ output unwritten.
      (stops.0, stops_decided (refuses fault) output stops.1 unwritten)
  StopsAs-unread TooLong stops = λ output unwritten. stops_decided exceeds output stops unwritten
  StopsAs-unread (TooManyZones zones) stops = absurd stops
  StopsAs-unread Read stops = λ output unwritten. record {
    reads_input = reads_here;
    unread = stops.0;
    bytes = stops.1.bytes;
    read = stops.1.read;
    within = stops.1.within;
    faultless = stops.1.faultless;
    stands = nothing_so_far output _ unwritten;
  }
  StopsAs-unread Write stops = absurd stops
  StopsAs-unread Memory stops = StopsAs-wanting stops

  -- nor by an input that may have so many bytes
  pub StopsAs-input : (limit : ℕ) (name : List ℕ) (fault : Fault)
      → limit ≡ request.job.max_bytes → name ≡ request.job.input
      → StopsReading request.recording limit name input fault → StopsAs request input fault
  StopsAs-input limit name fault limited named stops =
      StopsAs-unread fault (rw (limited, named) at stops)
