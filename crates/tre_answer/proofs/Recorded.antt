-- What the inputs of a request say, and that no bytes say nothing.
use Rattle.std.proofs.Common.{◌≡◌, ◌∙◌, ℕ, Bool, false, List, [], Option, length, map, string_bytes, refl, sym, ap, ap₂}
use Rattle.std.proofs.lemmas.List.{length-map}
use Rattle.tre_define.specs.Signals.{SignalDefined}
use Rattle.tre_num.specs.Defined.{Defined}
use Rattle.tre_num.specs.Rows.{ColumnTerms as RowTerms, rows_recording}
use Rattle.tre_parts.specs.Format.{recording_from}
use Rattle.tre_syntax.specs.Pattern.{names_of}
use Rattle.tre_syntax.specs.declared.pattern.Pattern.{Pattern}
use Rattle.tre_tell.specs.Sought.{Sought}
use Rattle.tre_tell.proofs.Loop.{asked_sought}
use Rattle.tre_text.specs.TextReading.{text_recording}
use Rattle.tre_trace.specs.Reading.{Recording, Vocabulary}
use Rattle.tre_unit.specs.declared.unit.TimeUnit.{TimeUnit}
use Rattle.tre_vcd.specs.VcdReading.{Terms as DumpTerms, vcd_recording}
use Rattle.tre_words.specs.declared.job.Format.{Format}
use Rattle.tre_words.specs.declared.job.Format.TheVariants.{Text, Vcd, Csv}
use Rattle.tre_words.specs.declared.job.Job.{Job}
use Rattle.tre_answer.specs.Recorded.{recording_in}
use Rattle.tre_answer.specs.Request.{FitsJob, request_for, sought_in}
use Rattle.tre_answer.specs.declared.asked.Definitions.{Definitions}
use Rattle.tre_answer.specs.declared.asked.Asked.{Asked}

-- ---- what no bytes say

text_nothing : (scale : ℕ) → (text_recording scale false []).stretches ≡ []
unfolding recording_from
text_nothing scale = refl

dump_nothing : (terms : DumpTerms) → (vcd_recording terms false []).stretches ≡ []
unfolding recording_from
dump_nothing terms = refl

nothing_in : (format : Format) (scale : ℕ) (unit : Option TimeUnit)
    (patterns : List Sought) (lets : List Defined) (signals : List SignalDefined)
    → (recording_in format scale unit patterns lets signals false []).stretches ≡ []
nothing_in Text scale unit patterns lets signals = text_nothing scale
nothing_in Vcd scale unit patterns lets signals = dump_nothing _
nothing_in Csv scale unit patterns lets signals = refl

pub nothing_said : (job : Job) (definitions : Definitions) (asked : Asked)
    → ((request_for job definitions asked).recording false []).stretches ≡ []
nothing_said job definitions asked = nothing_in job.format job.scale job.unit (sought_in asked)
    definitions.columns.items definitions.signals.items

-- ---- what inputs say

-- two lists of names are a vocabulary
pub vocabulary_same : (names events : List (List ℕ)) (other : Vocabulary) → names ≡ other.names
    → events ≡ other.events → record { names = names; events = events } ≡ other
vocabulary_same names events other same same' =
    ap (λ all. vocabulary_of all events) same ∙ ap (vocabulary_of other.names) same'
  where
    vocabulary_of : List (List ℕ) → List (List ℕ) → Vocabulary
    vocabulary_of all more = record { names = all; events = more }

abbrev pub dump_terms_of : List Vocabulary → ℕ → Option TimeUnit → List SignalDefined → DumpTerms
dump_terms_of declared scale unit signals =
    record { declared = declared; scale = scale; unit = unit; definitions = signals }

abbrev pub rows_terms_of : List Defined → List Vocabulary → ℕ → RowTerms
rows_terms_of lets declared scale =
    record { definitions = lets; declared = declared; scale = scale }

pub rows_terms : (scale : ℕ) {lets defined : List Defined} {declared names : List Vocabulary}
    → lets ≡ defined → declared ≡ names
    → rows_terms_of lets declared scale ≡ rows_terms_of defined names scale
rows_terms scale same named = ap₂ (λ lets names. rows_terms_of lets names scale) same named

module _ (job : Job) (definitions : Definitions) (asked : Asked) (fits : FitsJob job asked) where
  pub labels_fit : length (map string_bytes asked.labels.items) ≡ length asked.patterns.items
  labels_fit = length-map asked.labels.items string_bytes ∙ fits.labels

  -- an input in the format of the job says what is asked for
  in_format : (format : Format) → job.format ≡ format
      → recording_in format job.scale job.unit (sought_in asked) definitions.columns.items
      definitions.signals.items ≡ (request_for job definitions asked).recording
  in_format format is = ap (λ f. recording_in f job.scale job.unit (sought_in asked)
      definitions.columns.items definitions.signals.items) (sym is)

  pub text_says : {said : Bool → List ℕ → Recording} → job.format ≡ Text
      → said ≡ text_recording job.scale → said ≡ (request_for job definitions asked).recording
  text_says is says = says ∙ in_format Text is

  pub dump_says : {said : Bool → List ℕ → Recording} (patterns : List Pattern)
      (signals : List SignalDefined) → patterns ≡ asked.patterns.items
      → signals ≡ definitions.signals.items → job.format ≡ Vcd
      → said ≡ vcd_recording (dump_terms_of (map names_of patterns) job.scale job.unit signals)
      → said ≡ (request_for job definitions asked).recording
  dump_says patterns signals all defined is says =
      says ∙ (ap (λ signals. vcd_recording (dump_terms_of (map names_of patterns) job.scale
      job.unit signals)) defined
      ∙ (ap (λ names. vcd_recording (dump_terms_of names job.scale job.unit
      definitions.signals.items))
      (ap (map names_of) all
      ∙ sym (asked_sought (map string_bytes asked.labels.items) asked.patterns.items labels_fit))
      ∙ in_format Vcd is))

  pub rows_says : {said : Bool → List ℕ → Recording} (patterns : List Pattern)
      → patterns ≡ asked.patterns.items → job.format ≡ Csv
      → said ≡ rows_recording (rows_terms_of definitions.columns.items (map names_of patterns)
      job.scale)
      → said ≡ (request_for job definitions asked).recording
  rows_says patterns all is says =
      says ∙ (ap (λ names. rows_recording (rows_terms_of definitions.columns.items names job.scale))
      (ap (map names_of) all
      ∙ sym (asked_sought (map string_bytes asked.labels.items) asked.patterns.items labels_fit))
      ∙ in_format Csv is)
