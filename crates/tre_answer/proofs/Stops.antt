-- How an answer ends that is written at once, and one that is told as its input comes.
use Rattle.std.proofs.Common.{◌≡◌, ⊎_elim, ℕ, true, List, [], Result, Ok, Err, OnOk, OnErr, IfErr, refl, sym, subst, inl, inr, arith}
use Rattle.std.specs.Io.KnownBytes.{Appends}
use Rattle.tre_feed.specs.Input.{InputTold}
use Rattle.tre_feed.specs.declared.fault.Fault.{Fault}
use Rattle.tre_feed.specs.declared.fault.Fault.TheVariants.{Trace, TooLong, TooManyZones, Read, Write, Memory}
use Rattle.tre_io.specs.Faults.{count_after}
use Rattle.tre_io.specs.Written.{AppendsPart}
use Rattle.tre_tell.specs.Ends.{EndsTelling, ReadsInput, TellsWhole, as_it_comes}
use Rattle.tre_tell.specs.Outputs.{OutputTold, AllWritesGood}
use Rattle.tre_tell.specs.Request.{Request}
use Rattle.tre_words.specs.declared.job.Mode.{Mode}
use Rattle.tre_words.specs.declared.job.Mode.TheVariants.{Offline, Online, Show, Generate, Watch, Check}
use Rattle.tre_answer.specs.Ends.{EndsOver, IsAnswerIn}
use Rattle.tre_answer.specs.Parts.{IsFoundFor, done_with}
use Rattle.tre_answer.specs.Printing.{EndsPutting}
use Rattle.tre_answer.specs.Request.{FitForms}
use Rattle.tre_watch.specs.declared.form.Form.{Form}

-- ---- told as the input comes

-- a mode that reads its input, and not as a whole
pub told_way : (mode : Mode) → ReadsInput mode → (mode ≡ Offline → ⊥)
    → ((file : List ℕ) → mode ≡ Check file → ⊥) → as_it_comes mode ≡ true
told_way Offline reads other checks = absurd (other refl)
told_way Online reads other checks = refl
told_way Show reads other checks = absurd reads
told_way (Generate count) reads other checks = absurd reads
told_way (Watch file) reads other checks = refl
told_way (Check file) reads other checks = absurd (checks file refl)

-- what is told as the input comes has no checks
pub told_forms : (mode : Mode) (forms : List Form) (count : ℕ) → as_it_comes mode ≡ true
    → FitForms mode forms count → forms ≡ []
told_forms Offline forms count comes fits = absurd (cc)
told_forms Online forms count comes fits = fits
told_forms Show forms count comes fits = absurd (cc)
told_forms (Generate made) forms count comes fits = absurd (cc)
told_forms (Watch file) forms count comes fits = fits
told_forms (Check file) forms count comes fits = absurd (cc)

module _ (request : Request) (input : InputTold) (output : OutputTold) where
  told_answer : (mode : Mode) (front text : List ℕ) → as_it_comes mode ≡ true
      → TellsWhole request input front text → IsAnswerIn mode 0 request input front text
  told_answer Offline front text comes right = absurd (cc)
  told_answer Online front text comes right = right
  told_answer Show front text comes right = absurd (cc)
  told_answer (Generate count) front text comes right = absurd (cc)
  told_answer (Watch file) front text comes right = right
  told_answer (Check file) front text comes right = absurd (cc)

  pub EndsOver-told : as_it_comes request.job.mode ≡ true → (result : Result (Unit {0}) Fault)
      → EndsTelling request input output result
      → EndsOver request input output (done_with 0 result)
  EndsOver-told comes (Ok value) told = record {
    reads = told.reads;
    front = told.front;
    text = told.text;
    right = told_answer request.job.mode told.front told.text comes told.right;
    unchecked = inr refl;
    written = told.written;
  }
  EndsOver-told comes (Err (Trace fault)) told = told
  EndsOver-told comes (Err TooLong) told = told
  EndsOver-told comes (Err (TooManyZones zones)) told = absurd told
  EndsOver-told comes (Err Read) told = told
  EndsOver-told comes (Err Write) told = record {
    reads = told.reads;
    failed = 0;
    front = told.front;
    text = told.text;
    right = ⊎_elim
        (λ whole. inl (told_answer request.job.mode told.front told.text comes whole))
        (λ block. inr (comes, block)) told.right;
    cut = told.cut;
  }
  EndsOver-told comes (Err Memory) told = told

-- ---- written at once

module _ (failed : ℕ) (request : Request) (input : InputTold) (output : OutputTold)
    (text : List ℕ) (found : IsFoundFor failed request input text) where
  -- a write failed
  EndsOver-cut : output.now.faults ≡ count_after output.before.faults
      → AppendsPart output.before.written output.now.written text
      → EndsOver request input output (Err Write)
  EndsOver-cut cause part = record {
    reads = found.reads;
    failed = failed;
    front = [];
    text = text;
    right = inl found.right;
    cut = record {
      cause = cause;
      count = part.count;
      behind = omega arith;
      short = part.short;
      written = part.appends;
    };
  }

  -- all was written
  EndsOver-done : AllWritesGood output
      → Appends output.before.written output.now.written text
      → EndsOver request input output (Ok failed)
  EndsOver-done writes written = record {
    reads = found.reads;
    front = [];
    text = text;
    right = found.right;
    unchecked = found.unchecked;
    written = record { writes = writes; written = written };
  }

  -- all, or a first part, was written
  pub EndsOver-written : (given : List ℕ) → given ≡ text → (result : Result (Unit {0}) Fault)
      → OnOk result (Appends output.before.written output.now.written given)
      → OnOk result (AllWritesGood output)
      → OnErr result (AppendsPart output.before.written output.now.written given)
      → OnErr result (output.now.faults ≡ count_after output.before.faults)
      → IfErr result (λ fault. fault ≡ Write)
      → EndsOver request input output (done_with failed result)
  EndsOver-written given same (Ok value) all good part cause fault =
      EndsOver-done good (subst (Appends output.before.written output.now.written) same all)
  EndsOver-written given same (Err fault) all good part cause is =
      subst (λ f. EndsOver request input output (Err f)) (sym is)
      (EndsOver-cut cause
      (subst (AppendsPart output.before.written output.now.written) same part))

  -- by pieces, as far as it was
  pub EndsOver-put : (result : Result (Unit {0}) Fault) → EndsPutting text output result
      → EndsOver request input output (done_with failed result)
  EndsOver-put (Ok value) ends = EndsOver-done ends.writes ends.written
  EndsOver-put (Err (Trace fault)) ends = absurd ends
  EndsOver-put (Err TooLong) ends = absurd ends
  EndsOver-put (Err (TooManyZones zones)) ends = absurd ends
  EndsOver-put (Err Read) ends = absurd ends
  EndsOver-put (Err Write) ends = EndsOver-cut ends.cause ends.part
  EndsOver-put (Err Memory) ends = absurd ends

-- ---- what is read

-- a job that shows its patterns, or makes its trace, reads no input, and another does
pub reads_input : (mode : Mode) → (mode ≡ Show → ⊥)
    → ((count : ℕ) → mode ≡ Generate count → ⊥) → ReadsInput mode
reads_input Offline shown made = tt
reads_input Online shown made = tt
reads_input Show shown made = absurd (shown refl)
reads_input (Generate count) shown made = absurd (made count refl)
reads_input (Watch file) shown made = tt
reads_input (Check file) shown made = tt

pub shown_unread : (mode : Mode) → mode ≡ Show → ReadsInput mode → ⊥
shown_unread mode is reads = subst ReadsInput is reads

pub made_unread : (mode : Mode) (count : ℕ) → mode ≡ Generate count → ReadsInput mode → ⊥
made_unread mode count is reads = subst ReadsInput is reads
