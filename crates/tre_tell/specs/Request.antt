-- What is asked of an input: a job, the patterns that it looks for, and what the bytes say.
use Rattle.std.specs.Prelude.{◌≡◌, ℕ, ◌≤◌, nat_le, All, Bool, true, List, length, map, take, None}
use Rattle.tre_feed.specs.Comes.{Outcome, outcome_from}
use Rattle.tre_feed.specs.Traces.{trace_for}
use Rattle.tre_syntax.specs.declared.pattern.Pattern.{Pattern}
use Rattle.tre_trace.specs.Reading.{Recording}
use Rattle.tre_trace.specs.Trace.{Timeline, IsTrace}
use Rattle.tre_watch.specs.declared.form.Form.{Form}
use Rattle.tre_words.specs.declared.job.Job.{Job}
use Rattle.tre_tell.specs.Sought.{Sought, sought_by}

-- A job, the forms of its checks, if it has some, its patterns, and what bytes say for it, closed
-- or not yet. The patterns of all checks stand behind one another.
pub record Request : Type 0 where
  pub job : Job
  pub forms : List Form
  pub patterns : List Sought
  pub recording : Bool → List ℕ → Recording

-- what is asked where patterns have these labels, and bytes say this
abbrev pub request_by : Job → List Form → List (List ℕ) → List Pattern →
    (Bool → List ℕ → Recording) → Request
request_by job forms labels patterns recording = record {
  job = job;
  forms = forms;
  patterns = sought_by labels patterns;
  recording = recording;
}

-- What all bytes say: those past the limit aren't judged, and keep the input from closing.
abbrev pub whole_recording : Request → List ℕ → Recording
whole_recording request bytes = request.recording (nat_le (length bytes) request.job.max_bytes)
    (take request.job.max_bytes bytes)

unfoldable pub outcome_for : Request → List ℕ → Outcome
outcome_for request bytes = outcome_from (nat_le (length bytes) request.job.max_bytes)
    (whole_recording request bytes).fault

-- The bytes are within the limit, they have no fault, and each pattern has its trace of them.
pub record AreReadAs (request : Request) (bytes : List ℕ) (traces : List Timeline) : Type 0 where
  pub within : length bytes ≤ request.job.max_bytes
  pub whole : (request.recording true bytes).fault ≡ None
  pub are : traces ≡ map (λ pattern. trace_for (request.recording true bytes) pattern.names)
      request.patterns
  pub are_traces : All (λ trace. IsTrace trace.segments) traces
