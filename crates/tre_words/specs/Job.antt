-- What the words of the command line ask for.
use Rattle.std.specs.Prelude.{◌≡◌, ◌≢◌, ℕ, ◌≤◌, nat_le, Bool, true, false, MatchBool, ◌&&◌, List, [], ◌∷◌, Option, None, Some, IfSome, is_some, codes, drop, option_and_then, option_map, if◌then◌else◌}
use Rattle.std.specs.Option.{option_map_or, option_or}
use Rattle.std.specs.Str.{bytes_eq}
use Rattle.std.specs.Str.Parse.{digits_value}
use Rattle.tre_decimal.specs.Decimal.{is_numeral}
use Rattle.tre_decimal.specs.declared.TheConstants.{SCALE_MAX}
use Rattle.tre_unit.specs.Units.{unit_named}
use Rattle.tre_words.specs.Settings.{AreTyped, Setting, Text, Types, said}
use Rattle.tre_words.specs.declared.job.TheConstants.{COUNT_MAX, LIMIT_MAX, LIMIT_DEFAULT}
use Rattle.tre_words.specs.declared.job.Format.{Format}
use Rattle.tre_words.specs.declared.job.Format.TheVariants.{Text as TextFormat, Vcd, Csv}
use Rattle.tre_words.specs.declared.job.Job.{Job}
use Rattle.tre_words.specs.declared.job.Mode.{Mode}
use Rattle.tre_words.specs.declared.job.Mode.TheVariants.{Offline, Online, Show, Generate, Watch, Check}

-- ---- what a job is

-- A made trace may have so many segments.
pub record IsCount (count : ℕ) : Type 0 where
  pub some : 1 ≤ count
  pub few : count ≤ COUNT_MAX

-- the file of checks that a run in this mode reads before its input
abbrev pub file_of : Mode → Option (List ℕ)
file_of (Watch file) = Some file
file_of (Check file) = Some file
file_of mode = None

-- whether the answer is one over the whole input: its matches, or what becomes of checks
abbrev pub is_whole : Mode → Bool
is_whole Offline = true
is_whole (Check file) = true
is_whole mode = false

-- What the job has may stand together.
pub record StandsTogether (job : Job) : Type 0 where
  pub normal : job.normal ≡ true → is_whole job.mode ≡ true
  pub max_zones : is_some job.max_zones ≡ true → job.normal ≡ true
  pub minus : is_some job.minus ≡ true → job.mode ≡ Offline
  pub columns : job.format ≡ Csv → job.minus ≡ None
  pub lets : is_some job.lets ≡ true → job.format ≢ TextFormat
  pub unit : is_some job.unit ≡ true → job.format ≡ Vcd

-- What is true of each job that words give: its numbers are within their limits, and what it has
-- may stand together. Columns aren't read online, and not in a watch.
pub record IsJob (job : Job) : Type 0 where
  pub small : job.max_bytes ≤ LIMIT_MAX
  pub scale : job.scale ≤ SCALE_MAX
  pub zones : IfSome job.max_zones (λ most. most ≤ LIMIT_MAX)
  pub counted : (count : ℕ) → job.mode ≡ Generate count → IsCount count
  pub together : StandsTogether job
  pub offline : job.mode ≡ Online → job.format ≢ Csv
  pub watched : (file : List ℕ) → job.mode ≡ Watch file → job.format ≢ Csv

-- a job of which no option says anything but the mode and the input
abbrev pub plain_job : Mode → Text → Text → Job
plain_job mode input expr = record {
  mode = mode;
  format = TextFormat;
  input = input;
  max_bytes = LIMIT_DEFAULT;
  scale = 0;
  unit = None;
  normal = false;
  max_zones = None;
  minus = None;
  lets = None;
  expr = expr;
}

-- ---- what the values of the options say

-- what is said of each option
abbrev pub Says : Type 0
Says = Text → Option Text

-- the flag is given
abbrev pub is_given : Text → Says → Bool
is_given name says = option_map_or (λ text. bytes_eq text (codes "true")) (says name) false

-- `--show` counts where both flags are given
abbrev pub mode_in : Says → Mode
mode_in says =
    if is_given (codes "show") says then Show
    else (if is_given (codes "online") says then Online else Offline)

abbrev pub format_named : Text → Option Format
format_named text =
    if bytes_eq text (codes "text") then Some TextFormat
    else (if bytes_eq text (codes "vcd") then Some Vcd
    else (if bytes_eq text (codes "csv") then Some Csv else None))

-- the number from `least` to `most` that a text writes in decimal digits
abbrev pub number_written : ℕ → ℕ → Text → Option ℕ
number_written least most text =
    if is_numeral text
    && (nat_le least (digits_value 10 text) && nat_le (digits_value 10 text) most)
    then Some (digits_value 10 text) else None

-- What is said of the options is this job, but for its text.
pub record SaysJob (says : Says) (job : Job) : Type 0 where
  pub mode : mode_in says ≡ job.mode
  pub format : option_and_then format_named (says (codes "format")) ≡ Some job.format
  pub input : says (codes "input") ≡ Some job.input
  pub max_bytes :
      option_and_then (number_written 1 LIMIT_MAX) (says (codes "max-bytes")) ≡ Some job.max_bytes
  pub scale :
      option_and_then (number_written 0 SCALE_MAX) (says (codes "scale")) ≡ Some job.scale
  pub unit : option_map unit_named (says (codes "unit")) ≡ option_map Some job.unit
  pub normal : is_given (codes "normal") says ≡ job.normal
  pub max_zones :
      option_map (number_written 0 LIMIT_MAX) (says (codes "max-zones"))
      ≡ option_map Some job.max_zones
  pub minus : says (codes "minus") ≡ job.minus
  pub lets : option_or (says (codes "let")) (says (codes "define")) ≡ job.lets

-- Names are defined only as the format has them: by its columns with `--let`, or by the signals of
-- a dump with `--define`.
pub record DefinesFor (format : Format) (says : Says) : Type 0 where
  pub columns : format ≢ Csv → says (codes "let") ≡ None
  pub signals : format ≢ Vcd → says (codes "define") ≡ None

-- What is said may stand so. Columns stand beside no `--online`, also where `--show` counts.
abbrev pub MayStand : Says → Job → Type 0
MayStand says job =
    StandsTogether job × (job.format ≡ Csv → is_given (codes "online") says ≡ false)
    × DefinesFor job.format says

-- Words that are options, each once, and a pattern's text give this job: what the options say is
-- the job, and may stand so.
pub record GivesPlain (words : List Text) (job : Job) : Type 0 where
  pub settings : List Setting
  pub typed : AreTyped settings
  pub types : Types words settings job.expr
  pub says : SaysJob (said settings) job
  pub stands : MayStand (said settings) job

-- ---- files of checks

-- The job of the words behind `--watch` or `--check` may be over a file of checks: one without a
-- pattern whose matches are taken away. At most one of its file and its input is standard input.
pub record MayReadFile (plain : Job) : Type 0 where
  pub mode : plain.mode ≡ Offline
  pub minus : plain.minus ≡ None
  pub apart : plain.expr ≡ codes "-" → plain.input ≢ codes "-"

-- It may be that of a watch: one without columns and strips.
pub record MayWatch (plain : Job) : Type 0 where
  pub reads : MayReadFile plain
  pub format : plain.format ≢ Csv
  pub normal : plain.normal ≡ false

-- the job in the mode of a file, which stands where the pattern's text does in other words
abbrev pub job_over : (Text → Mode) → Job → Job
job_over mode plain = record plain { mode = mode plain.expr; expr = [] }

-- The words behind the first give the job in the mode of a file of one that may be so.
pub record GivesOver (May : Job → Type 0) (mode : Text → Mode) (words : List Text) (job : Job)
    : Type 0 where
  pub plain : Job
  pub gives : GivesPlain words plain
  pub may : May plain
  pub over : job ≡ job_over mode plain

-- ---- made runs

-- how many segments the words of a made run write, which are just two
abbrev pub made_count : List Text → Option ℕ
made_count (first ∷ number ∷ []) = number_written 1 COUNT_MAX number
made_count words = None

-- the job of a made run of so many segments; what it doesn't need is as where no word gives it
abbrev pub made_job : ℕ → Job
made_job count = plain_job (Generate count) (codes "-") []

-- ---- words

-- the first word is this
abbrev pub begins_with : Text → List Text → Bool
begins_with word [] = false
begins_with word (first ∷ words) = bytes_eq first word

-- The words give this job: the first says whether it is that of a made run, of a watch, of checks
-- with verdicts, or none of these.
pub record GivesJob (words : List Text) (job : Job) : Type 0 where
  pub gives :
      MatchBool (begins_with (codes "--generate") words)
      (option_map made_job (made_count words) ≡ Some job)
      (MatchBool (begins_with (codes "--watch") words)
      (GivesOver MayWatch Watch (drop 1 words) job)
      (MatchBool (begins_with (codes "--check") words)
      (GivesOver MayReadFile Check (drop 1 words) job)
      (GivesPlain words job)))

-- The words give no job.
abbrev pub GivesNoJob : List Text → Type 0
GivesNoJob words = (job : Job) → GivesJob words job → ⊥
