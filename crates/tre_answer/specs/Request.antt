-- The request that a job makes with its patterns and definitions.
use Rattle.std.specs.Prelude.{◌≡◌, ℕ, ◌<◌, Bool, List, [], length, map, string_bytes}
use Rattle.tre_tell.specs.Request.{Request, request_by}
use Rattle.tre_tell.specs.Sought.{Sought, sought_by}
use Rattle.tre_trace.specs.Reading.{Recording}
use Rattle.tre_watch.specs.Forms.{patterns_in}
use Rattle.tre_watch.specs.declared.form.Form.{Form}
use Rattle.tre_words.specs.declared.job.Job.{Job}
use Rattle.tre_words.specs.declared.job.Mode.{Mode}
use Rattle.tre_words.specs.declared.job.Mode.TheVariants.{Check}
use Rattle.tre_answer.specs.Recorded.{recording_in}
use Rattle.tre_answer.specs.declared.asked.Asked.{Asked}
use Rattle.tre_answer.specs.declared.asked.Definitions.{Definitions}

-- the patterns that are looked for, each behind its label
abbrev pub sought_in : Asked → List Sought
sought_in asked = sought_by (map string_bytes asked.labels.items) asked.patterns.items

-- the request for this job and these patterns, where bytes say this
abbrev pub request_over : Job → Asked → (Bool → List ℕ → Recording) → Request
request_over job asked recording =
    request_by job asked.forms.items (map string_bytes asked.labels.items) asked.patterns.items
    recording

-- the request for this job, these definitions and these patterns
abbrev pub request_for : Job → Definitions → Asked → Request
request_for job definitions asked = request_over job asked (recording_in job.format job.scale
    job.unit (sought_in asked) definitions.columns.items definitions.signals.items)

-- A request has so many patterns where these are the forms of its checks: none, if it has no
-- checks.
abbrev pub FitForms : Mode → List Form → ℕ → Type 0
FitForms (Check file) forms count = patterns_in forms ≡ count
FitForms mode forms count = forms ≡ []

-- The patterns may be asked by the job: each has a label, there is one at least, and the forms of
-- checks are those of them.
pub record FitsJob (job : Job) (asked : Asked) : Type 0 where
  pub labels : length asked.labels.items ≡ length asked.patterns.items
  pub some : 0 < length asked.patterns.items
  pub forms : FitForms job.mode asked.forms.items (length asked.patterns.items)
