-- How the telling of an input ends.
use Rattle.std.proofs.Common.{◌≡◌, ◌∙◌, ℕ, ◌-◌, ◌<◌, ◌≤◌, Bool, true, false, All, List, [], ◌∷◌, ◌++◌, length, take, drop, map, MatchBool, Option, None, Some, IfSome, IsErrOf, IsTrue, Result, Ok, Err, refl, sym, ap, subst, inl, inr, arith, length-append, append-nil, append_assoc, take-append-drop}
use Rattle.std.specs.Io.KnownBytes.{Consumes, IsAtEnd}
use Rattle.std.proofs.KnownBytes.{Consumes-whole}
use Rattle.std.proofs.Math.Seq.{take-append_seam}
use Rattle.std.proofs.lemmas.List.{take-append-le, take_all, length-map}
use Rattle.std.proofs.lemmas.List.Elements.{All-map}
use Rattle.tre_feed.specs.Comes.{InputComesTo, Outcome, exceeds, outcome_of, refuses}
use Rattle.tre_feed.specs.Input.{HasReadCause, InputTold, AllReadsGood, WereRead}
use Rattle.tre_feed.proofs.Cuts.{take_split}
use Rattle.tre_feed.proofs.Pieces.{TakesOn-same, said_whole}
use Rattle.tre_io.specs.Faults.{count_after}
use Rattle.tre_online.specs.declared.watch.Watch.{Watch}
use Rattle.tre_trace.specs.Reading.{Grows, Recording, Stretch, Vocabulary, segments_for, events_for}
use Rattle.tre_trace.specs.Trace.{Timeline, IsTrace}
use Rattle.tre_tell.specs.Blocks.{AreAccounts, blocks_text, ending_text}
use Rattle.tre_tell.specs.Transcript.{Account, IsClosing}
use Rattle.tre_tell.specs.Ends.{EndsTelling, EndsAtInput, ReadsInput, StandsAtMemory, StandsSoFar, TellsWhole, as_it_comes}
use Rattle.tre_feed.specs.Turn.{EndsTurn, TakesOn, TakesRead}
use Rattle.tre_feed.specs.Traces.{trace_for}
use Rattle.tre_tell.specs.Online.{BlocksStand, IsPrompt, blocks_for}
use Rattle.tre_tell.specs.Outputs.{OutputTold, AllWritesGood, NothingWritten, IsCutBehind}
use Rattle.tre_tell.specs.Request.{Request, outcome_for}
use Rattle.tre_tell.specs.Sought.{Sought, all_names}
use Rattle.tre_tell.specs.Streams.{OfBytes, WroteFront}
use Rattle.tre_tell.specs.Telling.{first_row, rows_for, timelines, BlocksWritten, CanTellAll, StopsWithin, HasWriteCause, HasClosed, ClosingIsCut, EndsClosing}
use Rattle.tre_feed.specs.declared.fault.Fault.{Fault}
use Rattle.tre_feed.specs.declared.fault.Fault.TheVariants.{Trace, TooLong, TooManyZones, Read, Write, Memory}
use Rattle.tre_online.specs.Watch.{Watches}
use Rattle.tre_words.specs.declared.job.Mode.{Mode}
use Rattle.tre_words.specs.declared.job.Mode.TheVariants.{Offline, Online, Show, Generate, Watch as WatchMode, Check}
use Rattle.tre_tell.proofs.Stretches.{blocks_for-rows, ending_for-rows, pushed_for, quiet_rows}

-- the bytes of an open input
were_read : (input : InputTold) (bytes : List ℕ) → input.now.opened ≡ true
    → Consumes input.before.file input.now.left bytes → WereRead input bytes
were_read input bytes opened front = record {
  of_open = λ is_open. front;
  of_closed = λ closed. cc;
}

-- what is so of those of one that was read to its end
pub of_all : (input : InputTold) (bytes : List ℕ) (IsSo : List ℕ → Type 0)
    → IsTrue input.now.opened → Consumes input.before.file input.now.left bytes
    → IsAtEnd input.now.left → AllReadsGood input → IsSo bytes → OfBytes input IsSo
of_all input bytes IsSo opened front all reads so = record {
  opened = opened;
  reads = reads;
  bytes = bytes;
  front = front;
  is_so = so;
  whole = Consumes-whole input.before.file input.now.left bytes IsSo front all so;
}

-- of two ways to cut a list, the shorter front is the front of the longer
front_of : (xs ys zs ws : List ℕ) → xs ++ ys ≡ zs ++ ws → length zs ≤ length xs
    → xs ≡ zs ++ drop (length zs) xs
front_of xs ys zs ws same shorter =
    sym (take-append-drop (length zs) xs)
    ∙ ap (λ front. front ++ drop (length zs) xs)
    (sym (take-append-le (length zs) xs ys shorter)
    ∙ (ap (take (length zs)) same ∙ take-append_seam zs ws))

-- What is known of whatever bytes say: without a byte it is nothing, nothing is taken back when more
-- come, and it is a trace for any names.
pub record HasLaws (recording : Bool → List ℕ → Recording) : Type 0 where
  pub starts : (recording false []).stretches ≡ []
  pub grows : (closed : Bool) (first more : List ℕ)
      → Grows (recording false first) (recording closed (first ++ more))
  pub is_trace : (names : Vocabulary) (closed : Bool) (bytes : List ℕ)
      → IsTrace (segments_for names (recording closed bytes).stretches)

-- The first of the stretches that one recording has beyond another wait.
pub record WaitsOf (before now : Recording) (waits : List Stretch → Type 0) : Type 0 where
  pub added : List Stretch
  pub left : List Stretch
  pub beyond : now.stretches ≡ before.stretches ++ (added ++ left)
  pub wait : waits added
  pub is_trace : (names : Vocabulary)
      → IsTrace (segments_for names (before.stretches ++ added))

-- a mode in which an answer is told as its input comes reads its input
pub told_reads : (mode : Mode) → as_it_comes mode ≡ true → ReadsInput mode
told_reads Offline comes = tt
told_reads Online comes = tt
told_reads Show comes = absurd (cc)
told_reads (Generate count) comes = absurd (cc)
told_reads (WatchMode file) comes = tt
told_reads (Check file) comes = absurd (cc)

-- what bytes come to, in the words of a request
outcome_as : (request : Request) (bytes : List ℕ)
    → outcome_of request.recording request.job.max_bytes bytes ≡ outcome_for request bytes
unfolding outcome_of outcome_for
outcome_as request bytes = refl

-- what is so of both of some bytes
of_both : (o : Option (List ℕ)) {P Q R : List ℕ → Type 0} → ((x : List ℕ) → P x → Q x → R x)
    → IfSome o P → IfSome o Q → IfSome o R
of_both None f p q = tt
of_both (Some x) f p q = f x p q

-- the input came to this
pub at_input : (request : Request) (outcome : Outcome) (input : InputTold) (output : OutputTold)
    {stretches : List Stretch} → ReadsInput request.job.mode → IsTrue input.now.opened
    → AllReadsGood input
    → InputComesTo request.recording request.job.max_bytes input outcome stretches
    → StandsSoFar request output stretches → EndsAtInput outcome request input output
at_input request outcome input output {stretches} reads_input opened reads cause stands = record {
  reads_input = reads_input;
  stretches = stretches;
  comes = record {
    opened = opened;
    reads = reads;
    bytes = cause.bytes;
    front = cause.front;
    is_so = (sym (outcome_as request cause.bytes) ∙ cause.comes, cause.here);
    whole = of_both input.before.file
        (λ all is same. (sym (outcome_as request all) ∙ is, same)) cause.whole cause.same;
  };
  stands = stands;
}

-- a text was cut behind its front
cut_by : (output : OutputTold) (front text : List ℕ)
    → output.now.faults ≡ count_after output.before.faults
    → IsCutBehind front text output.before.written output.now.written
    → WroteFront output front text
cut_by output front text cause cut = record {
  cause = cause;
  count = cut.part.count;
  behind = cut.behind;
  short = cut.part.short;
  written = cut.part.appends;
}

-- the blocks of these stretches were written
abbrev pub Written : Request → OutputTold → List Stretch → Type 0
Written request output stretches = BlocksWritten request.job.scale request.patterns
    (rows_for (all_names request.patterns) stretches) output.before.written output.now.written

-- what bytes said before a turn, as far as the limit
abbrev pub before_turn : Request → List ℕ → Recording
before_turn request bytes = request.recording false (take request.job.max_bytes bytes)

-- how many stretches that has
abbrev count_before : Request → List ℕ → ℕ
count_before request bytes = length (before_turn request bytes).stretches

-- Whatever waits was written behind the blocks before the turn.
abbrev pub AllWritten : Request → (List Stretch → Type 0) → OutputTold → List ℕ → Type 0
AllWritten request then_waits output bytes = (waiting : List Stretch) → then_waits waiting
    → Written request output ((before_turn request bytes).stretches ++ waiting)

-- The telling stopped at a stretch of whatever waits.
abbrev pub StopsAtOne : Request → (List Stretch → Type 0) → OutputTold → List ℕ → Fault → Type 0
StopsAtOne request then_waits output bytes fault = (waiting : List Stretch) → then_waits waiting
    → StopsWithin request.job.scale request.patterns (before_turn request bytes).stretches waiting
    output.before.written output.now.written fault

-- A turn of the telling of a request that read on behind these bytes, where nothing waited before.
pub record IsTurn (request : Request) (input : InputTold) (bytes : List ℕ)
    (waits then_waits : List Stretch → Type 0) (were_fed : List ℕ → Type 0)
    (has_ended : (List ℕ → Bool) → Type 0) (count : ℕ) (result : Result Bool Fault) : Type 0 where
  pub comes : as_it_comes request.job.mode ≡ true
  pub some : 0 < length request.patterns
  pub laws : HasLaws request.recording
  pub ends : EndsTurn were_fed has_ended request.recording request.job.max_bytes input count bytes
      waits then_waits result
  pub none : waits []
  pub opened : input.now.opened ≡ true
  pub cause : HasReadCause input.before.faults input.now.faults result
  pub sound : IsTrue input.before.sound → IsErrOf result Read → ⊥

module _ {request : Request} {input : InputTold} {bytes : List ℕ}
    {waits then_waits : List Stretch → Type 0} {were_fed : List ℕ → Type 0}
    {has_ended : (List ℕ → Bool) → Type 0} {count : ℕ} {result : Result Bool Fault}
    (turn : IsTurn request input bytes waits then_waits were_fed has_ended count result) where
  -- what all that was read says
  abbrev now : Recording
  now = request.recording turn.ends.closed
      (take request.job.max_bytes (bytes ++ turn.ends.piece))

  some_asked : 0 < length (all_names request.patterns)
  some_asked = rw (length-map request.patterns (λ pattern. pattern.names)) turn.some

  -- what was written stands there, as far as the input has come
  stand_by : (stretches : List Stretch) (output : OutputTold) → AllWritesGood output
      → Written request output stretches → StandsSoFar request output stretches
  stand_by stretches output writes stand =
      let stands : BlocksStand request output stretches = record {
        accounts = stand.accounts;
        are = rw (quiet_rows request.patterns stretches) at stand.are;
        stand = record {
          writes = writes;
          written = rw (blocks_for-rows request.job.scale stand.accounts stretches
              (all_names request.patterns) some_asked) stand.written;
        };
      } in
      subst (λ told. MatchBool told (BlocksStand request output stretches) (NothingWritten output))
      (sym turn.comes) stands

  -- what is known of more bytes
  grows_on : (closed : Bool) (first piece : List ℕ) → Grows (before_turn request first)
      (request.recording closed (take request.job.max_bytes (first ++ piece)))
  grows_on closed first piece =
      rw (take_split request.job.max_bytes first piece)
      (turn.laws.grows closed (take request.job.max_bytes first)
      (take (request.job.max_bytes - length first) piece))

  counts_on : (first piece : List ℕ)
      → count_before request first ≤ count_before request (first ++ piece)
  counts_on first piece =
      let more = grows_on false first piece in
      omega (
        arith,
        ap length more.stretches,
        length-append (before_turn request first).stretches more.added,
      )

  waits_all : TakesOn waits then_waits (before_turn request bytes) now
      → WaitsOf (before_turn request bytes) now then_waits
  waits_all takes = record {
    added = takes.added;
    left = [];
    beyond = rw (append-nil takes.added) takes.beyond;
    wait = takes.then [] turn.none;
    is_trace = λ names. subst (λ all. IsTrace (segments_for names all)) takes.beyond
        (turn.laws.is_trace names turn.ends.closed
        (take request.job.max_bytes (bytes ++ turn.ends.piece)));
  }

  waits_by : (told : Result Bool Fault)
      → TakesRead waits then_waits (before_turn request bytes) now told
      → WaitsOf (before_turn request bytes) now then_waits
  waits_by (Ok more) takes = waits_all takes
  waits_by (Err (Trace fault)) takes = waits_all takes
  waits_by (Err TooLong) takes = waits_all takes
  waits_by (Err (TooManyZones zones)) takes = waits_all takes
  waits_by (Err Read) takes = waits_all takes
  waits_by (Err Write) takes = waits_all takes
  waits_by (Err Memory) keeps =
      let more = grows_on turn.ends.closed bytes turn.ends.piece in
      record {
        added = [];
        left = more.added;
        beyond = more.stretches;
        wait = keeps.same [] turn.none;
        is_trace = λ names. rw (append-nil (before_turn request bytes).stretches)
            (turn.laws.is_trace names false (take request.job.max_bytes bytes));
      }

  -- what waits then
  pub known : WaitsOf (before_turn request bytes) now then_waits
  known = waits_by result turn.ends.adds

  -- it can be told
  pub CanTell-turn : (watch : Watch)
      → Watches watch (rows_for (all_names request.patterns) (before_turn request bytes).stretches)
      → CanTellAll watch (all_names request.patterns) known.added
  CanTell-turn watch stands = record {
    told = (before_turn request bytes).stretches;
    some = some_asked;
    stands = stands;
    is_trace = known.is_trace;
  }

  -- no stretch was complete when the last read began that wasn't told before the turn
  prompt_with : (front rest : List Stretch) → known.added ≡ front ++ rest
      → IsPrompt request input ((before_turn request bytes).stretches ++ front)
      (rest ++ known.left)
  prompt_with front rest split =
      let last = turn.ends.last in
      let old = (before_turn request bytes).stretches in
      let behind = drop (length last.earlier) bytes in
      let longer : bytes ≡ last.earlier ++ behind =
      front_of bytes turn.ends.piece last.earlier last.piece last.split turn.ends.early in
      let early : count_before request last.earlier ≤ count_before request bytes =
      subst (λ all. count_before request last.earlier ≤ count_before request all) (sym longer)
      (counts_on last.earlier behind) in
      record {
        earlier = last.earlier;
        piece = last.piece;
        short = last.short;
        behind = λ is_open. last.behind;
        read = subst (WereRead input) last.split
            (were_read input (bytes ++ turn.ends.piece) turn.opened turn.ends.front);
        closed = turn.ends.closed;
        ended = λ closed. subst (λ (all : List ℕ). IsAtEnd input.now.left
            × (length all ≤ request.job.max_bytes)) last.split (turn.ends.ended closed);
        known = append_assoc old front (rest ++ known.left)
            ∙ (ap (λ more. old ++ more) (sym (append_assoc front rest known.left))
            ∙ (ap (λ more. old ++ (more ++ known.left)) (sym split)
            ∙ (sym known.beyond
            ∙ ap (λ (all : List ℕ). (request.recording turn.ends.closed
            (take request.job.max_bytes all)).stretches) last.split)));
        prompt = omega (arith, early, length-append old front);
      }

  -- the first blocks stand there
  first_at : (output : OutputTold) (front rest : List Stretch) → known.added ≡ front ++ rest
      → AllWritesGood output → Written request output ((before_turn request bytes).stretches ++ front)
      → StandsAtMemory request input output
  first_at output front rest split writes stand =
      let told = (before_turn request bytes).stretches ++ front in
      (told, rest ++ known.left, stand_by told output writes stand, λ so. prompt_with front rest split)

  -- all blocks of the turn
  pub first_stand : (output : OutputTold) → AllWritesGood output
      → AllWritten request then_waits output bytes → StandsAtMemory request input output
  first_stand output writes written = first_at output known.added []
      (sym (append-nil known.added)) writes (written known.added known.wait)

-- all that a turn took on was written
all_stand : {request : Request} {input : InputTold} {bytes : List ℕ}
    {waits then_waits : List Stretch → Type 0} {were_fed : List ℕ → Type 0}
    {has_ended : (List ℕ → Bool) → Type 0} {count : ℕ} {result : Result Bool Fault}
    (turn : IsTurn request input bytes waits then_waits were_fed has_ended count result)
    (output : OutputTold) → TakesOn waits then_waits (before_turn request bytes) (now turn)
    → AllWritesGood output → AllWritten request then_waits output bytes
    → StandsSoFar request output (now turn).stretches
all_stand turn output takes writes written = rw takes.beyond (stand_by turn _ output writes
    (written takes.added (takes.then [] turn.none)))

-- where a read failed nothing waits
unread_none : {request : Request} {input : InputTold} {bytes : List ℕ}
    {waits then_waits : List Stretch → Type 0} {were_fed : List ℕ → Type 0}
    {has_ended : (List ℕ → Bool) → Type 0} {count : ℕ}
    (turn : IsTurn request input bytes waits then_waits were_fed has_ended count (Err Read))
    → then_waits []
unread_none {request = request} turn =
    let found = turn.ends.finds in
    (TakesOn-same turn.ends.adds (rw (found.0, found.1) refl)).same [] turn.none

-- a telling that stopped at a stretch
module _ {request : Request} {input : InputTold} {bytes : List ℕ}
    {waits then_waits : List Stretch → Type 0} {were_fed : List ℕ → Type 0}
    {has_ended : (List ℕ → Bool) → Type 0} {count : ℕ} where
  -- then no read failed
  reads_good : (result : Result Bool Fault) (fault : Fault) (output : OutputTold)
      → IsTurn request input bytes waits then_waits were_fed has_ended count result
      → StopsAtOne request then_waits output bytes fault → AllReadsGood input
  reads_good (Ok more) fault output turn one = turn.cause
  reads_good (Err (Trace first)) fault output turn one = turn.cause
  reads_good (Err TooLong) fault output turn one = turn.cause
  reads_good (Err Memory) fault output turn one = turn.cause
  reads_good (Err (TooManyZones zones)) fault output turn one = turn.cause
  reads_good (Err Write) fault output turn one = turn.cause
  reads_good (Err Read) fault output turn one =
      let within = one [] (unread_none turn) in
      absurd (omega (
        arith,
        ap length within.split,
        length-append within.front (within.next ∷ within.rest),
      ))

  pub EndsTelling-within : (result : Result Bool Fault)
      (turn : IsTurn request input bytes waits then_waits were_fed has_ended count result)
      (output : OutputTold) (fault : Fault) {first : ℕ} → first ≡ output.before.faults
      → HasWriteCause {T = Watch} first output.now.faults (Err fault)
      → StopsAtOne request then_waits output bytes fault
      → EndsTelling {T = Unit {0}} request input output (Err fault)
  EndsTelling-within result turn output Write good write one =
      let waiting = known turn in
      let within = one waiting.added waiting.wait in
      let next = within.next in
      let told = (before_turn request bytes).stretches ++ within.front in
      let accounts = within.stops.accounts in
      let asked = all_names request.patterns in
      record {
        reads = reads_good result Write output turn one;
        front = blocks_for request accounts told;
        text = blocks_for request accounts (told ++ next ∷ []);
        right = inr (record {
          opened = turn.opened;
          told = told;
          next = next;
          more = within.rest ++ waiting.left;
          prompt = prompt_with turn within.front (next ∷ within.rest) within.split;
          accounts = accounts;
          are = rw (
            pushed_for asked told next,
            quiet_rows request.patterns (told ++ next ∷ []),
          ) at within.stops.are;
          front_is = refl;
          text_is = refl;
        });
        cut = cut_by output _ _ (write ∙ ap count_after good) (rw (
          blocks_for-rows request.job.scale accounts told asked (some_asked turn),
          blocks_for-rows request.job.scale accounts (told ++ next ∷ []) asked (some_asked turn),
        ) (rw (pushed_for asked told next) at within.stops.cut));
      }
  EndsTelling-within result turn output Memory good write one =
      let waiting = known turn in
      let within = one waiting.added waiting.wait in (
        reads_good result Memory output turn one,
        first_at turn output within.front (within.next ∷ within.rest) within.split (write ∙ good)
            within.stops,
      )
  EndsTelling-within result turn output (Trace fault) good write one =
      absurd (one (known turn).added (known turn).wait).stops
  EndsTelling-within result turn output TooLong good write one =
      absurd (one (known turn).added (known turn).wait).stops
  EndsTelling-within result turn output (TooManyZones zones) good write one =
      absurd (one (known turn).added (known turn).wait).stops
  EndsTelling-within result turn output Read good write one =
      absurd (one (known turn).added (known turn).wait).stops

  -- the input stopped, and all that it gave was told
  pub EndsTelling-stopped : (fault : Fault)
      → IsTurn request input bytes waits then_waits were_fed has_ended count (Err fault)
      → (output : OutputTold) → AllWritesGood output → AllWritten request then_waits output bytes
      → EndsTelling {T = Unit {0}} request input output (Err fault)
  EndsTelling-stopped (Trace fault) turn output writes written = (
    turn.ends.finds.0,
    at_input request (refuses fault) input output (told_reads request.job.mode turn.comes)
        turn.opened turn.cause turn.ends.finds.1
        (all_stand turn output turn.ends.adds writes written),
  )
  EndsTelling-stopped TooLong turn output writes written =
      at_input request exceeds input output (told_reads request.job.mode turn.comes) turn.opened
      turn.cause turn.ends.finds (all_stand turn output turn.ends.adds writes written)
  EndsTelling-stopped Read turn output writes written =
      let found = turn.ends.finds in
      record {
        reads_input = told_reads request.job.mode turn.comes;
        unread = record { cause = turn.cause; unsound = λ good. absurd (turn.sound good refl) };
        bytes = bytes;
        read = were_read input bytes turn.opened (rw found.1 at turn.ends.front);
        within = found.2;
        faultless = found.3;
        stands = subst
            (λ (all : List ℕ). StandsSoFar request output (request.recording false all).stretches)
            (take_all request.job.max_bytes bytes found.2)
            (stand_by turn _ output writes
            (rw (append-nil (before_turn request bytes).stretches) at
            (written [] (unread_none turn))));
      }
  EndsTelling-stopped Memory turn output writes written =
      (turn.cause, first_stand turn output writes written)
  EndsTelling-stopped (TooManyZones zones) turn output writes written = absurd turn.ends.finds
  EndsTelling-stopped Write turn output writes written = absurd turn.ends.finds

-- the rows of a recording with its ends are its traces
lines_whole : (said : Recording) (patterns : List Sought)
    → timelines (rows_for (all_names patterns) said.stretches)
    (map (λ names. events_for names said.last) (all_names patterns))
    ≡ map (λ pattern. trace_for said pattern.names) patterns
lines_whole said [] = refl
lines_whole said (pattern ∷ patterns) =
    ap (λ rest. trace_for said pattern.names ∷ rest) (lines_whole said patterns)

-- a turn that ended the input
module _ {request : Request} {input : InputTold} {bytes : List ℕ}
    {waits then_waits : List Stretch → Type 0} {were_fed : List ℕ → Type 0}
    {has_ended : (List ℕ → Bool) → Type 0} {count : ℕ}
    (turn : IsTurn request input bytes waits then_waits were_fed has_ended count (Ok false)) where
  -- what all bytes say
  abbrev pub said : Recording
  said = request.recording true (bytes ++ turn.ends.piece)

  -- the events at the ends
  abbrev pub whole_lasts : List ℕ
  whole_lasts = map (λ names. events_for names said.last) (all_names request.patterns)

  -- what waits completes them
  takes_whole : TakesOn waits then_waits (before_turn request bytes) said
  takes_whole = subst (TakesOn waits then_waits (before_turn request bytes))
      (said_whole turn.ends) turn.ends.adds

  -- the text of accounts that are closed is right
  tells_whole : (accounts : List Account)
      → AreAccounts request.patterns
      (timelines (rows_for (all_names request.patterns) said.stretches) whole_lasts) accounts
      → All IsClosing accounts
      → TellsWhole request input
      (blocks_text request.job.scale accounts
      (first_row (rows_for (all_names request.patterns) said.stretches)))
      (blocks_text request.job.scale accounts
      (first_row (rows_for (all_names request.patterns) said.stretches))
      ++ ending_text request.job.scale accounts
      (first_row (rows_for (all_names request.patterns) said.stretches)))
  tells_whole accounts are closed =
      let end = turn.ends.ended turn.ends.finds.0 in
      let asked = all_names request.patterns in
      let all = bytes ++ turn.ends.piece in (
        end.0,
        of_all input all _ turn.opened turn.ends.front end.0 turn.cause (record {
          traces = map (λ pattern. trace_for said pattern.names) request.patterns;
          are = record {
            within = end.1;
            whole = turn.ends.finds.1;
            are = refl;
            are_traces = All-map (λ (trace : Timeline). IsTrace trace.segments)
                (λ (pattern : Sought). trace_for said pattern.names) request.patterns
                (λ k d below. turn.laws.is_trace _ true all);
          };
          accounts = accounts;
          told = subst (λ traces. AreAccounts request.patterns traces accounts)
              (lines_whole said request.patterns) are;
          closed = closed;
          front_is = sym (blocks_for-rows request.job.scale accounts said.stretches asked
              (some_asked turn));
          text_is = rw (ending_for-rows request.job.scale accounts said.stretches asked
              (some_asked turn)) refl;
        }),
      )

  -- it was told with what the end completes, or a part of that
  ends_told : (output : OutputTold) (told : Result (Unit {0}) Fault)
      → HasWriteCause output.before.faults output.now.faults told
      → ((waiting : List Stretch) → then_waits waiting
      → EndsClosing request.job.scale request.patterns
      (rows_for (all_names request.patterns) ((before_turn request bytes).stretches ++ waiting))
      whole_lasts output.before.written output.now.written told)
      → EndsTelling request input output told
  ends_told output (Ok done) writes ends =
      let told : HasClosed request.job.scale request.patterns _ _ output.before.written
      output.now.written = rw (sym takes_whole.beyond) at
      (ends takes_whole.added (takes_whole.then [] turn.none)) in
      record {
        reads = turn.cause;
        front = _;
        text = _;
        right = tells_whole told.accounts told.are told.closed;
        written = record { writes = writes; written = told.written };
      }
  ends_told output (Err Write) writes ends =
      let cut : ClosingIsCut request.job.scale request.patterns _ _ output.before.written
      output.now.written = rw (sym takes_whole.beyond) at
      (ends takes_whole.added (takes_whole.then [] turn.none)) in
      record {
        reads = turn.cause;
        front = _;
        text = _;
        right = inl (tells_whole cut.accounts cut.are cut.closed);
        cut = cut_by output _ _ writes cut.cut;
      }
  ends_told output (Err Memory) writes ends =
      (turn.cause, first_stand turn output writes ends)
  ends_told output (Err (Trace fault)) writes ends =
      absurd (ends takes_whole.added (takes_whole.then [] turn.none))
  ends_told output (Err TooLong) writes ends =
      absurd (ends takes_whole.added (takes_whole.then [] turn.none))
  ends_told output (Err (TooManyZones zones)) writes ends =
      absurd (ends takes_whole.added (takes_whole.then [] turn.none))
  ends_told output (Err Read) writes ends =
      absurd (ends takes_whole.added (takes_whole.then [] turn.none))

  pub EndsTelling-end : (output : OutputTold) (told : Result (Unit {0}) Fault) (lasts : List ℕ)
      {first : ℕ} → lasts ≡ whole_lasts → first ≡ output.before.faults
      → HasWriteCause first output.now.faults told
      → ((waiting : List Stretch) → then_waits waiting
      → EndsClosing request.job.scale request.patterns
      (rows_for (all_names request.patterns) ((before_turn request bytes).stretches ++ waiting))
      lasts output.before.written output.now.written told)
      → EndsTelling request input output told
  EndsTelling-end output told lasts same good writes ends = ends_told output told
      (subst (λ n. HasWriteCause n output.now.faults told) good writes)
      (λ waiting wait. subst (λ (all : List ℕ). EndsClosing request.job.scale request.patterns
      (rows_for (all_names request.patterns) ((before_turn request bytes).stretches ++ waiting))
      all output.before.written output.now.written told) same (ends waiting wait))
