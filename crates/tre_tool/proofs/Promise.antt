-- What the end of a run says of each part of its promise.
use Rattle.std.specs.Prelude.{nat_le}
use Rattle.std.proofs.Common.{◌≡◌, ◌∙◌, ℕ, zero, suc, Bool, true, List, Option, None, Some, IfSome, Ok, Err, length, refl, sym, ap, subst, ◌⊎◌, inl, inr, arith}
use Rattle.tre_answer.specs.Ends.{AreTooManyIn, IsAnswerIn, EndsOver, has_checks}
use Rattle.tre_feed.specs.declared.fault.Fault.TheVariants.{Trace as FaultTrace, TooLong as FaultTooLong, TooManyZones as FaultTooMany, Read as FaultRead, Write as FaultWrite, Memory as FaultMemory}
use Rattle.tre_feed.specs.Input.{InputTold}
use Rattle.tre_feed.specs.Comes.{Outcome, completes, refuses, exceeds, outcome_from}
use Rattle.tre_feed.proofs.Cuts.{take-over}
use Rattle.tre_feed.proofs.Outcomes.{within}
use Rattle.tre_io.specs.Faults.{count_after, CountRises}
use Rattle.tre_tell.specs.Ends.{ReadsInput}
use Rattle.tre_tell.specs.Outputs.{OutputTold}
use Rattle.tre_tell.specs.Request.{Request, AreReadAs, outcome_for, whole_recording}
use Rattle.tre_trace.specs.Trace.{Timeline}
use Rattle.tre_trace.specs.declared.fault.TraceFault.{TraceFault}
use Rattle.tre_words.specs.Job.{file_of, is_whole}
use Rattle.tre_words.specs.declared.job.Job.{Job}
use Rattle.tre_words.specs.declared.job.Mode.{Mode}
use Rattle.tre_words.specs.declared.job.Mode.TheVariants.{Offline, Online, Show, Generate, Watch, Check}
use Rattle.tre_tool.specs.Checks.{ChecksWereRead, ChecksAreTold}
use Rattle.tre_tool.specs.Request.{AsksFor, JobIsRefused, GiveNone}
use Rattle.tre_tool.specs.Run.{ChecksFailed, EndsAs, IsStatusFor, IsAnswered, IsUnlessMemory, ReadsChecks, RunIsComplete}
use Rattle.tre_tool.specs.Parts.{done_status}
use Rattle.tre_tool.specs.declared.status.Status.{Status}
use Rattle.tre_tool.specs.declared.status.Status.TheVariants.{Done, Usage, TooManyZones, Memory}
use Rattle.tre_tool.proofs.Ended.{Answer, answered_status, Ended, by_usage, by_refusal, by_unread, by_memory, by_answer, ended_of}
use Rattle.tre_tool.proofs.Once.{Agree, GiveOne, the_request, asked_or_refused, refused_once}

-- ---- what a file of checks comes to

of_told : (bytes : List ℕ) (file : Option (List ℕ)) (IsSo : List ℕ → Type 0)
    → file ≡ Some bytes → IfSome file IsSo → IsSo bytes
of_told bytes file IsSo told whole = subst (λ o. IfSome o IsSo) told whole

-- what was read of it is what is told
pub read_as_told : (checks : InputTold) → Agree (ChecksWereRead checks) (ChecksAreTold checks)
read_as_told checks IsSo IsAlso read told = (
  told.bytes,
  of_told told.bytes checks.before.file IsSo told.told read.comes.whole,
  told.is_so,
)

-- it tells one list of bytes
pub told_once : (checks : InputTold) → Agree (ChecksAreTold checks) (ChecksAreTold checks)
told_once checks IsSo IsAlso one other =
    let bytes : one.bytes ≡ other.bytes = one_file (sym one.told ∙ other.told) in
    (other.bytes, subst IsSo bytes one.is_so, other.is_so)
  where
    one_file : {x y : List ℕ} → Some x ≡ Some y → x ≡ y
    one_file e = cc

-- ---- what must come

weaker : {X : Type 0} (o : Option X) (P Q : X → Type 0) → ((x : X) → P x → Q x) → IfSome o P
    → IfSome o Q
weaker None P Q f h = tt
weaker (Some x) P Q f h = f x h

free : {X : Type 0} (o : Option X) (Q : X → Type 0) → ((x : X) → Q x) → IfSome o Q
free None Q f = tt
free (Some x) Q f = f x

memory_is_free : (outcome : Outcome) → IsStatusFor outcome Memory
memory_is_free completes = inr refl
memory_is_free (refuses fault) = inr refl
memory_is_free exceeds = inr refl

-- a count to which one fault was added rose
one_more : (before now : ℕ) → now ≡ count_after before → CountRises before now
one_more before now e = rw e (omega arith)

-- traces that were read complete, whether their answer was written or has too many zones
traces_complete : (request : Request) (bytes : List ℕ) (traces : List Timeline)
    → AreReadAs request bytes traces → outcome_for request bytes ≡ completes
unfolding outcome_for
traces_complete request bytes traces are =
    let limit = request.job.max_bytes in
    let closed : nat_le (length bytes) limit ≡ true = within (length bytes) limit are.within in
    let faultless : (whole_recording request bytes).fault ≡ None =
    ap (λ (all : List ℕ). (request.recording (nat_le (length bytes) limit) all).fault)
    (take-over limit bytes are.within)
    ∙ (ap (λ (whole : Bool). (request.recording whole bytes).fault) closed ∙ are.whole) in
    ap (λ (fault : Option TraceFault). outcome_from (nat_le (length bytes) limit) fault) faultless
    ∙ ap (λ (whole : Bool). outcome_from whole None) closed

answered : (failed : ℕ) → IsAnswered (done_status failed)
answered zero = tt
answered (suc more) = tt

done_completes : (failed : ℕ) (request : Request) (bytes : List ℕ) (traces : List Timeline)
    → AreReadAs request bytes traces
    → IsStatusFor (outcome_for request bytes) (done_status failed)
done_completes failed request bytes traces are =
    rw (traces_complete request bytes traces are) (inl (answered failed))

many_completes : (request : Request) (bytes : List ℕ) (zones : ℕ) (traces : List Timeline)
    → AreReadAs request bytes traces
    → IsStatusFor (outcome_for request bytes) (TooManyZones zones)
many_completes request bytes zones traces are =
    rw (traces_complete request bytes traces are) (inl tt)

-- a run that is done, in each mode that reads its input
done_in : (mode : Mode) (failed : ℕ) (request : Request) (input : InputTold) (front text : List ℕ)
    → IsAnswerIn mode failed request input front text → ReadsInput mode
    → IfSome input.before.file
    (λ bytes. IsStatusFor (outcome_for request bytes) (done_status failed))
done_in Offline failed request input front text right reads = weaker input.before.file _ _
    (λ bytes so. done_completes failed request bytes so.right.traces so.right.are) right.1.whole
done_in Online failed request input front text right reads = weaker input.before.file _ _
    (λ bytes so. done_completes failed request bytes so.traces so.are) right.1.whole
done_in (Watch file) failed request input front text right reads = weaker input.before.file _ _
    (λ bytes so. done_completes failed request bytes so.traces so.are) right.1.whole
done_in (Check file) failed request input front text right reads = weaker input.before.file _ _
    (λ bytes so. done_completes failed request bytes so.right.traces so.right.are) right.1.whole
done_in Show failed request input front text right reads = absurd reads
done_in (Generate count) failed request input front text right reads = absurd reads

-- and one that has too many zones
many_in : (mode : Mode) (request : Request) (bytes : List ℕ) (zones : ℕ)
    → AreTooManyIn mode request bytes zones
    → IsStatusFor (outcome_for request bytes) (TooManyZones zones)
many_in Offline request bytes zones so =
    many_completes request bytes zones so.right.traces so.right.are
many_in Online request bytes zones so =
    many_completes request bytes zones so.right.traces so.right.are
many_in Show request bytes zones so =
    many_completes request bytes zones so.right.traces so.right.are
many_in (Generate count) request bytes zones so =
    many_completes request bytes zones so.right.traces so.right.are
many_in (Watch file) request bytes zones so =
    many_completes request bytes zones so.right.traces so.right.are
many_in (Check file) request bytes zones so =
    many_completes request bytes zones so.right.traces so.right.are

-- checks are judged, and watched, over an input
reads_whole : (mode : Mode) → is_whole mode ≡ true → ReadsInput mode
reads_whole Offline is = tt
reads_whole Online is = tt
reads_whole (Watch file) is = tt
reads_whole (Check file) is = tt
reads_whole Show is = absurd cc
reads_whole (Generate count) is = absurd cc

reads_behind : (mode : Mode) (file : List ℕ) → file_of mode ≡ Some file → ReadsInput mode
reads_behind Offline file named = tt
reads_behind Online file named = tt
reads_behind (Watch name) file named = tt
reads_behind (Check name) file named = tt
reads_behind Show file named = absurd cc
reads_behind (Generate count) file named = absurd cc

none_failed : (mode : Mode) (failed : ℕ) → ¬ ReadsInput mode
    → (has_checks mode ≡ true) ⊎ (failed ≡ 0) → failed ≡ 0
none_failed mode failed unread (inr none) = none
none_failed (Check file) failed unread (inl checks) = absurd (unread tt)
none_failed (Watch file) failed unread (inl checks) = absurd (unread tt)
none_failed Offline failed unread (inl checks) = absurd (unread tt)
none_failed Online failed unread (inl checks) = absurd (unread tt)
none_failed Show failed unread (inl checks) = absurd cc
none_failed (Generate count) failed unread (inl checks) = absurd cc

names_file : (mode : Mode) (file : List ℕ) → file_of mode ≡ Some file → ReadsChecks mode
names_file (Watch name) file named = refl
names_file (Check name) file named = refl
names_file Offline file named = absurd cc
names_file Online file named = absurd cc
names_file Show file named = absurd cc
names_file (Generate count) file named = absurd cc

module _ (request : Request) (input : InputTold) (output : OutputTold) where
  -- what must come of a request whose input is read
  answered_read : (answer : Answer) → EndsOver request input output answer
      → ReadsInput request.job.mode → ¬ CountRises input.before.faults input.now.faults
      → ¬ CountRises output.before.faults output.now.faults
      → IfSome input.before.file (λ bytes.
      IsStatusFor (outcome_for request bytes) (answered_status answer))
  answered_read (Ok failed) done reads read written =
      done_in request.job.mode failed request input done.front done.text done.right reads
  answered_read (Err (FaultTrace fault)) found reads read written =
      weaker input.before.file _ _ (λ bytes so. rw so.0 (inl refl)) found.1.comes.whole
  answered_read (Err FaultTooLong) found reads read written =
      weaker input.before.file _ _ (λ bytes so. rw so.0 (inl refl)) found.comes.whole
  answered_read (Err (FaultTooMany zones)) many reads read written =
      weaker input.before.file _ _ (λ bytes so. many_in request.job.mode request bytes zones so)
      many.cause.whole
  answered_read (Err FaultRead) found reads read written =
      absurd (read (one_more _ _ found.unread.cause))
  answered_read (Err FaultWrite) found reads read written =
      absurd (written (one_more _ _ found.cut.cause))
  answered_read (Err FaultMemory) found reads read written =
      free input.before.file _ (λ bytes. memory_is_free (outcome_for request bytes))

  -- what must come of one whose input isn't
  answered_unread : (answer : Answer) → EndsOver request input output answer
      → ¬ ReadsInput request.job.mode → ¬ CountRises output.before.faults output.now.faults
      → IsUnlessMemory Done (answered_status answer)
  answered_unread (Ok failed) done unread written =
      inl (ap done_status (none_failed request.job.mode failed unread done.unchecked))
  answered_unread (Err (FaultTrace fault)) found unread written =
      absurd (unread found.1.reads_input)
  answered_unread (Err FaultTooLong) found unread written = absurd (unread found.reads_input)
  answered_unread (Err (FaultTooMany zones)) many unread written =
      absurd (unread (reads_whole request.job.mode many.whole))
  answered_unread (Err FaultRead) found unread written = absurd (unread found.reads_input)
  answered_unread (Err FaultWrite) found unread written =
      absurd (written (one_more _ _ found.cut.cause))
  answered_unread (Err FaultMemory) found unread written = inr refl

module _ (Gives : Job → Type 0) (once : GiveOne Gives) (checks input : InputTold)
    (output : OutputTold) where
  -- what was read is what is told
  same : Agree (ChecksWereRead checks) (ChecksAreTold checks)
  same = read_as_told checks

  back : Agree (ChecksAreTold checks) (ChecksWereRead checks)
  back IsSo IsAlso told read =
      let both = read_as_told checks IsAlso IsSo read told in
      (both.0, both.2, both.1)

  -- a file that couldn't be read is that of the job
  failed : (job other : Job) (file : List ℕ) → Gives job → Gives other
      → file_of job.mode ≡ Some file → checks.now.faults ≡ count_after checks.before.faults
      → ChecksFailed other.mode checks
  failed job other file gives gives' named cause =
      subst (λ (j : Job). ChecksFailed j.mode checks) (once job other gives gives')
      (names_file job.mode file named, one_more _ _ cause)

  read_as : (request : Request) (status : Status) → AsksFor Gives (ChecksAreTold checks) request
      → Ended Gives checks input output status → ReadsInput request.job.mode
      → ¬ ChecksFailed request.job.mode checks
      → ¬ CountRises input.before.faults input.now.faults
      → ¬ CountRises output.before.faults output.now.faults
      → IfSome input.before.file (λ bytes. IsStatusFor (outcome_for request bytes) status)
  read_as request status asks (by_usage is ends) reads known read written =
      absurd (ends request.job asks.gives)
  read_as request status asks (by_refusal ends) reads known read written =
      absurd (asked_or_refused Gives once (ChecksAreTold checks) (ChecksWereRead checks) back
      request status asks ends)
  read_as request status asks (by_unread is ends) reads known read written =
      absurd (known (failed ends.job request.job ends.file ends.gives asks.gives ends.named
      ends.unread.cause))
  read_as request status asks (by_memory is ends) reads known read written =
      rw is (free input.before.file _ (λ bytes. memory_is_free (outcome_for request bytes)))
  read_as request status asks (by_answer answer is some) reads known read written =
      rw is (answered_read request input output answer
      (the_request Gives once (ChecksWereRead checks) (ChecksAreTold checks) same request
      some.request (λ r. EndsOver r input output answer) asks some.asks some.is_so) reads read
      written)

  unread_as : (request : Request) (status : Status)
      → AsksFor Gives (ChecksAreTold checks) request → Ended Gives checks input output status
      → ¬ ReadsInput request.job.mode → ¬ CountRises output.before.faults output.now.faults
      → IsUnlessMemory Done status
  unread_as request status asks (by_usage is ends) unread written =
      absurd (ends request.job asks.gives)
  unread_as request status asks (by_refusal ends) unread written =
      absurd (asked_or_refused Gives once (ChecksAreTold checks) (ChecksWereRead checks) back
      request status asks ends)
  unread_as request status asks (by_unread is ends) unread written =
      let named = subst (λ (j : Job). file_of j.mode ≡ Some ends.file)
      (once ends.job request.job ends.gives asks.gives) ends.named in
      absurd (unread (reads_behind request.job.mode ends.file named))
  unread_as request status asks (by_memory is ends) unread written = inr is
  unread_as request status asks (by_answer answer is some) unread written =
      rw is (answered_unread request input output answer
      (the_request Gives once (ChecksWereRead checks) (ChecksAreTold checks) same request
      some.request (λ r. EndsOver r input output answer) asks some.asks some.is_so) unread written)

  -- what must come of a refusal
  refused_as : (status refusal : Status) → Ended Gives checks input output status
      → (told : JobIsRefused Gives (ChecksAreTold checks) refusal)
      → ¬ ChecksFailed told.job.mode checks → IsUnlessMemory refusal status
  refused_as status refusal (by_usage is ends) told known =
      absurd (ends told.job told.gives)
  refused_as status refusal (by_refusal ends) told known =
      inl (refused_once Gives once (ChecksWereRead checks) (ChecksAreTold checks) same status
      refusal ends told)
  refused_as status refusal (by_unread is ends) told known =
      absurd (known (failed ends.job told.job ends.file ends.gives told.gives ends.named
      ends.unread.cause))
  refused_as status refusal (by_memory is ends) told known = inr is
  refused_as status refusal (by_answer answer is some) told known =
      absurd (asked_or_refused Gives once (ChecksWereRead checks) (ChecksAreTold checks) same
      some.request refusal some.asks told)

  -- what must come of words that give no job
  no_job_as : (status : Status) → Ended Gives checks input output status → GiveNone Gives
      → IsUnlessMemory Usage status
  no_job_as status (by_usage is ends) none = inl is
  no_job_as status (by_refusal ends) none = absurd (none ends.job ends.gives)
  no_job_as status (by_unread is ends) none = absurd (none ends.job ends.gives)
  no_job_as status (by_memory is ends) none = inr is
  no_job_as status (by_answer answer is some) none =
      absurd (none some.request.job some.asks.gives)

  complete_by : (status : Status) → Ended Gives checks input output status
      → RunIsComplete Gives checks input output status
  complete_by status ended = record {
    no_job = λ none. no_job_as status ended none;
    refused = λ refusal told known. refused_as status refusal ended told known;
    read = λ request asks reads known read written.
        read_as request status asks ended reads known read written;
    unread = λ request asks unread written.
        unread_as request status asks ended unread written;
  }

  -- a run that ends so is complete
  pub IsComplete-ends : (status : Status) → EndsAs Gives checks input output status
      → RunIsComplete Gives checks input output status
  IsComplete-ends status ends =
      complete_by status (ended_of Gives checks input output status ends)
