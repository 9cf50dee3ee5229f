-- What words of a made run give, and how such a run ends.
use Rattle.std.proofs.Common.{◌≡◌, ◌∙◌, ℕ, Bool, true, false, List, [], All, None, Some, Ok, Err, ap, sym, subst, ◌⊎◌, inl, inr, ⊎_elim, arith}
use Rattle.std.specs.Prelude.{IsTrue, MatchBool, option_map}
use Rattle.std.proofs.lemmas.Bool.Decides.{when_true}
use Rattle.tre_answer.specs.Ends.{IsAnswerIn, EndsOver, has_checks}
use Rattle.tre_feed.specs.declared.fault.Fault.TheVariants.{Trace as FaultTrace, TooLong as FaultTooLong, TooManyZones as FaultTooMany, Read as FaultRead, Write as FaultWrite, Memory as FaultMemory}
use Rattle.tre_feed.specs.Input.{InputTold}
use Rattle.tre_generate.specs.FixedPattern.{fixed_tree, fixed_vocabulary}
use Rattle.tre_generate.specs.Summary.{IsSummary}
use Rattle.tre_tell.specs.Ends.{ReadsInput, as_it_comes, StandsAtMemory}
use Rattle.tre_tell.specs.Online.{BlocksStand}
use Rattle.tre_tell.specs.Outputs.{OutputTold, NothingWritten}
use Rattle.tre_tell.specs.Request.{Request}
use Rattle.tre_words.specs.Job.{GivesJob, file_of, is_whole, made_count, made_job}
use Rattle.tre_words.specs.declared.job.Job.{Job}
use Rattle.tre_words.specs.declared.job.Mode.{Mode}
use Rattle.tre_words.specs.declared.job.Mode.TheVariants.{Generate}
use Rattle.tre_tool.specs.Checks.{ChecksWereRead, Saying}
use Rattle.tre_tool.specs.Request.{IsAsked, IsRefusalIn, AsksFor, JobIsRefused}
use Rattle.tre_tool.specs.MadeRun.{AsksForMadeRun, EndsMadeRun}
use Rattle.tre_tool.specs.Run.{EndsAs}
use Rattle.tre_tool.specs.declared.status.Status.{Status}
use Rattle.tre_tool.proofs.Ended.{Answer, answered_status, Ended, by_usage, by_refusal, by_unread, by_memory, by_answer, ended_of}

one_value : {X : Type 0} {x y : X} → Some x ≡ Some y → x ≡ y
one_value e = cc

-- what is written at once isn't written as the input comes
written_once : {X : Type 0} (comes : Bool) → comes ≡ false → IsTrue comes → X
written_once comes is so = absurd (cc)

module _ (words : List (List ℕ)) (count : ℕ) (asks : AsksForMadeRun words count) where
  job_given : (job : Job) → GivesJob words job → job ≡ made_job count
  job_given job gives =
      let here = when_true (option_map made_job (made_count words) ≡ Some job) _ asks.first
      gives.gives in
      one_value (sym here ∙ ap (option_map made_job) asks.second)

  pub gives_one : GivesJob words (made_job count)
  gives_one = record {
    gives = rw asks.first (ap (option_map made_job) asks.second);
  }

  mode_given : (job : Job) → GivesJob words job → job.mode ≡ Generate count
  mode_given job gives = ap (λ (j : Job). j.mode) (job_given job gives)

  module _ (Says : Saying) where
    summary_asked : (request : Request) (input : InputTold) (front text : List ℕ)
        → AsksFor (GivesJob words) Says request
        → (failed : ℕ) → IsAnswerIn request.job.mode failed request input front text
        → IsSummary fixed_tree count text
    summary_asked request input front text asked failed right =
        let here : IsAnswerIn (Generate count) failed request input front text =
        subst (λ (mode : Mode). IsAnswerIn mode failed request input front text)
        (mode_given request.job asked.gives) right in
        let one = subst (λ (mode : Mode). IsAsked mode Says request.job request.patterns
        request.forms asked.lets asked.signals) (mode_given request.job asked.gives) asked.asks in
        let all = subst (All (λ pattern. IsSummary pattern.tree count text)) one.are here in
        all 0 (record { label = []; tree = fixed_tree; names = fixed_vocabulary })
        (omega arith)

    never_refused : (refusal : Status) → JobIsRefused (GivesJob words) Says refusal → ⊥
    never_refused refusal told =
        subst (λ (mode : Mode). IsRefusalIn mode Says told.job refusal)
        (mode_given told.job told.gives) told.refuses

    reads_nothing : (request : Request) → AsksFor (GivesJob words) Says request
        → ReadsInput request.job.mode → ⊥
    reads_nothing request asked reads =
        subst ReadsInput (mode_given request.job asked.gives) reads

    none_failed : (request : Request) (failed : ℕ) → AsksFor (GivesJob words) Says request
        → (has_checks request.job.mode ≡ true) ⊎ (failed ≡ 0) → failed ≡ 0
    none_failed request failed asked (inr none) = none
    none_failed request failed asked (inl checks) =
        let never : false ≡ true =
        sym (ap has_checks (mode_given request.job asked.gives)) ∙ checks in
        absurd cc

    stands_nothing : (request : Request) (input : InputTold) (output : OutputTold)
        → AsksFor (GivesJob words) Says request → StandsAtMemory request input output
        → NothingWritten output
    stands_nothing request input output asked stands =
        subst (λ (mode : Mode). MatchBool (as_it_comes mode)
        (BlocksStand request output stands.0) (NothingWritten output))
        (mode_given request.job asked.gives) stands.2

    -- how it ends, of an answer to what they ask for
    answered_made : (request : Request) (input : InputTold) (output : OutputTold)
        (answer : Answer) → AsksFor (GivesJob words) Says request
        → EndsOver request input output answer
        → EndsMadeRun count output (answered_status answer)
    answered_made request input output (Ok failed) asked done =
        rw (none_failed request failed asked done.unchecked) (record {
          text = done.text;
          right = summary_asked request input done.front done.text asked failed done.right;
          writes = done.written.writes;
          written = done.written.written;
        })
    answered_made request input output (Err (FaultTrace fault)) asked found =
        reads_nothing request asked found.1.reads_input
    answered_made request input output (Err FaultTooLong) asked found =
        reads_nothing request asked found.reads_input
    answered_made request input output (Err (FaultTooMany zones)) asked many =
        let whole : false ≡ true =
        sym (ap is_whole (mode_given request.job asked.gives)) ∙ many.whole in
        cc
    answered_made request input output (Err FaultRead) asked found =
        reads_nothing request asked found.reads_input
    answered_made request input output (Err FaultWrite) asked found =
        record {
          text = found.text;
          right = ⊎_elim
              (summary_asked request input found.front found.text asked found.failed)
              (λ block. written_once (as_it_comes request.job.mode)
              (ap as_it_comes (mode_given request.job asked.gives)) block.0) found.right;
          cause = found.cut.cause;
          written = record {
            count = found.cut.count;
            short = found.cut.short;
            appends = found.cut.written;
          };
        }
    answered_made request input output (Err FaultMemory) asked found =
        stands_nothing request input output asked found.1

  module _ (checks input : InputTold) (output : OutputTold) where
    made_by : (status : Status) → Ended (GivesJob words) checks input output status
        → EndsMadeRun count output status
    made_by status (by_usage is ends) = absurd (ends (made_job count) gives_one)
    made_by status (by_refusal ends) =
        absurd (never_refused (ChecksWereRead checks) status ends)
    made_by status (by_unread is ends) =
        let none : None ≡ Some ends.file =
        sym (ap file_of (mode_given ends.job ends.gives)) ∙ ends.named in
        absurd (cc)
    made_by status (by_memory is ends) =
        rw is (⊎_elim (λ none. none.unwritten)
        (λ some. stands_nothing (ChecksWereRead checks) some.request input output some.asks
        some.is_so) ends.stands)
    made_by status (by_answer answer is some) =
        rw is (answered_made (ChecksWereRead checks) some.request input output answer some.asks
        some.is_so)

    -- how it ends, of a run over words that ask for it
    pub EndsMadeRun-ends : (status : Status)
        → EndsAs (GivesJob words) checks input output status → EndsMadeRun count output status
    EndsMadeRun-ends status ends =
        made_by status (ended_of (GivesJob words) checks input output status ends)
