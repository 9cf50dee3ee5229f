-- Words give one job at most, and what is true of it.
use Rattle.std.proofs.Common.{◌≡◌, ◌∙◌, ◌↔◌, ℕ, ◌≤◌, Bool, true, false, MatchBool, ◌&&◌, List, [], ◌∷◌, Option, Some, None, IfSome, if◌then◌else◌, codes, drop, ap, refl, sym, subst, arith}
use Rattle.std.specs.Prelude.{option_and_then, option_map, is_some, nat_le}
use Rattle.std.specs.Str.Parse.{digits_value}
use Rattle.std.proofs.lemmas.Bool.Decides.{nat_tests}
use Rattle.clap.specs.Words.{Row, fault_of}
use Rattle.tre_decimal.specs.Decimal.{is_numeral}
use Rattle.tre_decimal.specs.declared.TheConstants.{SCALE_MAX}
use Rattle.tre_unit.specs.declared.unit.TimeUnit.{TimeUnit}
use Rattle.tre_words.specs.CommandLine.{FindsJob, command_line, found_in, rows_in}
use Rattle.tre_words.specs.Job.{GivesJob, GivesOver, GivesPlain, IsCount, IsJob, MayReadFile, MayStand, MayWatch, Says, SaysJob, begins_with, is_given, job_over, made_count, made_job, number_written}
use Rattle.tre_words.specs.Settings.{Text, said}
use Rattle.tre_words.proofs.ByClap.{by_clap, from_clap}
use Rattle.tre_words.proofs.Taken.{AreUtf8}
use Rattle.tre_words.specs.declared.job.TheConstants.{COUNT_MAX, LIMIT_MAX}
use Rattle.tre_words.specs.declared.job.Format.{Format}
use Rattle.tre_words.specs.declared.job.Job.{Job}
use Rattle.tre_words.specs.declared.job.Mode.{Mode}
use Rattle.tre_words.specs.declared.job.Mode.TheVariants.{Offline, Online, Show, Generate, Watch, Check}

one_value : {X : Type 0} {x y : X} → Some x ≡ Some y → x ≡ y
one_value e = cc

-- ---- one job

-- an option that is told is one option
some_once : {X : Type 0} (one other : Option X) → option_map Some one ≡ option_map Some other
    → one ≡ other
some_once None None e = refl
some_once (Some m) (Some n) e = cc
some_once None (Some n) e = cc
some_once (Some m) None e = cc

unfoldable job_of : Mode → Format → List ℕ → ℕ → ℕ → Option TimeUnit → Bool → Option ℕ
    → Option (List ℕ) → Option (List ℕ) → List ℕ → Job
job_of mode format input max_bytes scale unit normal max_zones minus lets expr = record {
  mode = mode;
  format = format;
  input = input;
  max_bytes = max_bytes;
  scale = scale;
  unit = unit;
  normal = normal;
  max_zones = max_zones;
  minus = minus;
  lets = lets;
  expr = expr;
}

job_parts : (job : Job) → job ≡ job_of job.mode job.format job.input job.max_bytes job.scale
    job.unit job.normal job.max_zones job.minus job.lets job.expr
unfolding job_of
job_parts job = refl

pub said_once : (says : Says) (job other : Job) → SaysJob says job → SaysJob says other
    → job.expr ≡ other.expr → job ≡ other
said_once said job other says says' expr =
    let mode : job.mode ≡ other.mode = sym says.mode ∙ says'.mode in
    let format : job.format ≡ other.format = one_value (sym says.format ∙ says'.format) in
    let input : job.input ≡ other.input = one_value (sym says.input ∙ says'.input) in
    let max_bytes : job.max_bytes ≡ other.max_bytes =
    one_value (sym says.max_bytes ∙ says'.max_bytes) in
    let scale : job.scale ≡ other.scale = one_value (sym says.scale ∙ says'.scale) in
    let unit : job.unit ≡ other.unit =
    some_once job.unit other.unit (sym says.unit ∙ says'.unit) in
    let normal : job.normal ≡ other.normal = sym says.normal ∙ says'.normal in
    let max_zones : job.max_zones ≡ other.max_zones =
    some_once job.max_zones other.max_zones (sym says.max_zones ∙ says'.max_zones) in
    let minus : job.minus ≡ other.minus = sym says.minus ∙ says'.minus in
    let lets : job.lets ≡ other.lets = sym says.lets ∙ says'.lets in
    let parts = job_parts job in
    let parts' = job_parts other in
    cc

-- what `clap` finds is one job at most
pub found_once : (rows : List Row) (job other : Job) → FindsJob rows job → FindsJob rows other
    → job ≡ other
found_once rows job other finds finds' =
    said_once (found_in rows) job other finds.says finds'.says
    (one_value (sym finds.expr ∙ finds'.expr))

pub plain_once : (words : List Text) (job other : Job) → GivesPlain words job → GivesPlain words other
    → job ≡ other
plain_once words job other gives gives' =
    found_once (rows_in words) job other (by_clap words job gives).finds
    (by_clap words other gives').finds

-- ---- the first word

abbrev made_first : List Text → Bool
made_first words = begins_with (codes "--generate") words

abbrev watch_first : List Text → Bool
watch_first words = begins_with (codes "--watch") words

abbrev check_first : List Text → Bool
check_first words = begins_with (codes "--check") words

over_once : (May : Job → Type 0) (mode : Text → Mode) (words : List Text) (job other : Job)
    → GivesOver May mode words job → GivesOver May mode words other → job ≡ other
over_once May mode words job other gives gives' =
    gives.over
    ∙ (ap (job_over mode) (plain_once words gives.plain gives'.plain gives.gives gives'.gives)
    ∙ sym gives'.over)

-- Words give this job where the first says that it is that of a made run, of a watch, or of checks.
abbrev GivesWhere : Bool → Bool → Bool → List Text → Job → Type 0
GivesWhere made watched checked words job =
    MatchBool made
    (option_map made_job (made_count words) ≡ Some job)
    (MatchBool watched (GivesOver MayWatch Watch (drop 1 words) job)
    (MatchBool checked (GivesOver MayReadFile Check (drop 1 words) job) (GivesPlain words job)))

given_once : (made watched checked : Bool) (words : List Text) (job other : Job)
    → GivesWhere made watched checked words job → GivesWhere made watched checked words other
    → job ≡ other
given_once true watched checked words job other gives gives' = one_value (sym gives ∙ gives')
given_once false true checked words job other gives gives' =
    over_once MayWatch Watch (drop 1 words) job other gives gives'
given_once false false true words job other gives gives' =
    over_once MayReadFile Check (drop 1 words) job other gives gives'
given_once false false false words job other gives gives' =
    plain_once words job other gives gives'

pub job_unique : (words : List Text) (job other : Job) → GivesJob words job
    → GivesJob words other → job ≡ other
job_unique words job other gives gives' =
    given_once (made_first words) (watch_first words) (check_first words) words job other
    gives.gives gives'.gives

-- ---- numbers within their limits

chosen : (test : Bool) (value number : ℕ) → (if test then Some value else None) ≡ Some number
    → (test ≡ true) × (value ≡ number)
chosen true value number e = (refl, one_value e)
chosen false value number e = cc

within : (digits : Bool) (value least most : ℕ)
    → (digits && (nat_le least value && nat_le value most)) ≡ true
    → (least ≤ value) × (value ≤ most)
within true value least most e = grind (arith, nat_tests)
within false value least most e = cc

-- a number that is written is one of those that may be
pub number_within : (least most : ℕ) (text : Text) (number : ℕ)
    → number_written least most text ≡ Some number → (least ≤ number) × (number ≤ most)
number_within least most text number e =
    let both = chosen (is_numeral text
    && (nat_le least (digits_value 10 text) && nat_le (digits_value 10 text) most))
    (digits_value 10 text) number e in
    let inside = within (is_numeral text) (digits_value 10 text) least most both.0 in
    subst (λ (n : ℕ). (least ≤ n) × (n ≤ most)) both.1 inside

said_within : (least most : ℕ) (told : Option Text) (number : ℕ)
    → option_and_then (number_written least most) told ≡ Some number → number ≤ most
said_within least most (Some text) number e = (number_within least most text number e).1
said_within least most None number e = cc

limit_within : (least most : ℕ) (told : Option Text) (limit : Option ℕ)
    → option_map (number_written least most) told ≡ option_map Some limit
    → IfSome limit (λ number. number ≤ most)
limit_within least most (Some text) (Some number) e =
    (number_within least most text number (one_value e)).1
limit_within least most told None e = tt
limit_within least most None (Some number) e = cc

-- ---- jobs of options

abbrev mode_for : Bool → Bool → Mode
mode_for show online = if show then Show else (if online then Online else Offline)

flags_never_generate : (show online : Bool) (count : ℕ) → mode_for show online ≡ Generate count → ⊥
flags_never_generate true online count e = cc
flags_never_generate false true count e = cc
flags_never_generate false false count e = cc

flags_offline : (show online : Bool) → online ≡ false → mode_for show online ≡ Online → ⊥
flags_offline true online without e = cc
flags_offline false true without e = cc
flags_offline false false without e = cc

flags_never_watch : (show online : Bool) (file : List ℕ) → mode_for show online ≡ Watch file → ⊥
flags_never_watch true online file e = cc
flags_never_watch false true file e = cc
flags_never_watch false false file e = cc

-- what `clap` finds in words gives their job
pub plain_from : (words : List Text) (rows : List Row) (job : Job) → AreUtf8 words
    → rows ≡ rows_in words → fault_of command_line words ≡ [] → FindsJob rows job
    → MayStand (found_in rows) job → GivesPlain words job
plain_from words rows job utf8 same faultless finds stands = from_clap words job utf8 (record {
  faultless = faultless;
  finds = subst (λ (rows : List Row). FindsJob rows job) same finds;
  stands = subst (λ (rows : List Row). MayStand (found_in rows) job) same stands;
})

-- and their job is what it finds
pub plain_finds : (words : List Text) (rows : List Row) (job : Job) → rows ≡ rows_in words
    → GivesPlain words job → FindsJob rows job
plain_finds words rows job same gives =
    subst (λ (rows : List Row). FindsJob rows job) (sym same) (by_clap words job gives).finds

pub plain_stands : (words : List Text) (rows : List Row) (job : Job) → rows ≡ rows_in words
    → GivesPlain words job → MayStand (found_in rows) job
plain_stands words rows job same gives = subst (λ (rows : List Row). MayStand (found_in rows) job)
    (sym same) (by_clap words job gives).stands

pub from_options : (words : List Text) (job : Job) → GivesPlain words job → IsJob job
from_options words job gives =
    let told = said gives.settings in
    let says = gives.says in
    let show = is_given (codes "show") told in
    let online = is_given (codes "online") told in
    record {
      small = said_within 1 LIMIT_MAX (told (codes "max-bytes")) job.max_bytes says.max_bytes;
      scale = said_within 0 SCALE_MAX (told (codes "scale")) job.scale says.scale;
      zones = limit_within 0 LIMIT_MAX (told (codes "max-zones")) job.max_zones says.max_zones;
      counted = λ count mode.
          absurd (flags_never_generate show online count (says.mode ∙ mode));
      together = gives.stands.0;
      offline = λ mode csv. flags_offline show online (gives.stands.1 csv) (says.mode ∙ mode);
      watched = λ file mode. absurd (flags_never_watch show online file (says.mode ∙ mode));
    }

-- ---- jobs of made runs

made_within : (words : List Text) (count : ℕ) → made_count words ≡ Some count → IsCount count
made_within (first ∷ number ∷ []) count e =
    let both = number_within 1 COUNT_MAX number count e in
    record { some = both.0; few = both.1 }
made_within (first ∷ second ∷ third ∷ words) count e = cc
made_within (first ∷ []) count e = cc
made_within [] count e = cc

one_count : {m n : ℕ} → Generate m ≡ Generate n → m ≡ n
one_count e = cc

made_is_job : (count : ℕ) → IsCount count → IsJob (made_job count)
made_is_job count is = record {
  small = omega arith;
  scale = omega arith;
  zones = tt;
  counted = λ other same. subst IsCount (one_count same) is;
  together = record {
    normal = λ e. cc;
    max_zones = λ e. cc;
    minus = λ e. cc;
    columns = λ e. cc;
    lets = λ e. cc;
    unit = λ e. cc;
  };
  offline = λ mode csv. cc;
  watched = λ file mode. cc;
}

pub from_made : (words : List Text) (told : Option ℕ) (job : Job) → made_count words ≡ told
    → option_map made_job told ≡ Some job → IsJob job
from_made words (Some count) job is e =
    subst IsJob (one_value e) (made_is_job count (made_within words count is))
from_made words None job is e = cc

-- ---- jobs over a file of checks

watch_is_job : (plain : Job) → IsJob plain → MayWatch plain → IsJob (job_over Watch plain)
watch_is_job plain is may = record {
  small = is.small;
  scale = is.scale;
  zones = is.zones;
  counted = λ count mode. cc;
  together = record {
    normal = λ given. let false_true : true ≡ false = sym given ∙ may.normal in cc;
    max_zones = is.together.max_zones;
    minus = λ given.
        let false_true : true ≡ false = sym given ∙ ap is_some may.reads.minus in cc;
    columns = is.together.columns;
    lets = is.together.lets;
    unit = is.together.unit;
  };
  offline = λ mode csv. cc;
  watched = λ file mode. may.format;
}

check_is_job : (plain : Job) → IsJob plain → MayReadFile plain → IsJob (job_over Check plain)
check_is_job plain is may = record {
  small = is.small;
  scale = is.scale;
  zones = is.zones;
  counted = λ count mode. cc;
  together = record {
    normal = λ given. refl;
    max_zones = is.together.max_zones;
    minus = λ given. let false_true : true ≡ false = sym given ∙ ap is_some may.minus in cc;
    columns = is.together.columns;
    lets = is.together.lets;
    unit = is.together.unit;
  };
  offline = λ mode csv. cc;
  watched = λ file mode. cc;
}

-- what is true of the job in the mode of a file, where it is of each job that may be so
abbrev KeepsJob : (Job → Type 0) → (Text → Mode) → Type 0
KeepsJob May mode = (plain : Job) → IsJob plain → May plain → IsJob (job_over mode plain)

from_file : (May : Job → Type 0) (mode : Text → Mode) → KeepsJob May mode → (words : List Text)
    (job : Job) → GivesOver May mode words job → IsJob job
from_file May mode keeps words job gives =
    subst IsJob (sym gives.over)
    (keeps gives.plain (from_options words gives.plain gives.gives) gives.may)

-- ---- jobs of words

from_words : (made watched checked : Bool) (words : List Text) (job : Job)
    → GivesWhere made watched checked words job → IsJob job
from_words true watched checked words job gives =
    from_made words (made_count words) job refl gives
from_words false true checked words job gives =
    from_file MayWatch Watch watch_is_job (drop 1 words) job gives
from_words false false true words job gives =
    from_file MayReadFile Check check_is_job (drop 1 words) job gives
from_words false false false words job gives = from_options words job gives

-- what is true of each job that words give
pub IsJob-given : (words : List Text) (job : Job) → GivesJob words job → IsJob job
IsJob-given words job gives =
    from_words (made_first words) (watch_first words) (check_first words) words job gives.gives

-- ---- words by their first

pub first_made : (words : List Text) (job : Job) → made_first words ≡ true
    → option_map made_job (made_count words) ≡ Some job → GivesJob words job
first_made words job is gives = record {
  gives = subst (λ (b : Bool). GivesWhere b (watch_first words) (check_first words) words job)
      (sym is) gives;
}

pub first_made-none : (words : List Text) (job : Job) → made_first words ≡ true
    → made_count words ≡ None → GivesJob words job → ⊥
first_made-none words job is none gives =
    let made : option_map made_job (made_count words) ≡ Some job =
    subst (λ (b : Bool). GivesWhere b (watch_first words) (check_first words) words job) is
    gives.gives in
    let given : None ≡ Some job = sym (ap (option_map made_job) none) ∙ made in
    cc

-- words of which the first asks for no made run
not_made : (words : List Text) (job : Job) → made_first words ≡ false
    → GivesWhere false (watch_first words) (check_first words) words job ↔ GivesJob words job
not_made words job other = (
  (λ gives. record {
    gives = subst (λ (b : Bool). GivesWhere b (watch_first words) (check_first words) words job)
        (sym other) gives;
  }),
  (λ given. subst (λ (b : Bool). GivesWhere b (watch_first words) (check_first words) words job)
      other given.gives),
)

-- the words behind a first word that asks for a watch
pub first_watched : (words : List Text) (job : Job) → made_first words ≡ false
    → watch_first words ≡ true
    → GivesOver MayWatch Watch (drop 1 words) job ↔ GivesJob words job
first_watched words job other is =
    let given = not_made words job other in (
      (λ gives. given.0
          (subst (λ (b : Bool). GivesWhere false b (check_first words) words job) (sym is) gives)),
      (λ gives. subst (λ (b : Bool). GivesWhere false b (check_first words) words job) is
          (given.1 gives)),
    )

-- words of which the first asks for none of both
not_watched : (words : List Text) (job : Job) → made_first words ≡ false
    → watch_first words ≡ false
    → GivesWhere false false (check_first words) words job ↔ GivesJob words job
not_watched words job made other =
    let given = not_made words job made in (
      (λ gives. given.0
          (subst (λ (b : Bool). GivesWhere false b (check_first words) words job) (sym other)
          gives)),
      (λ gives. subst (λ (b : Bool). GivesWhere false b (check_first words) words job) other
          (given.1 gives)),
    )

-- the words behind a first word that asks for checks with verdicts
pub first_checked : (words : List Text) (job : Job) → made_first words ≡ false
    → watch_first words ≡ false → check_first words ≡ true
    → GivesOver MayReadFile Check (drop 1 words) job ↔ GivesJob words job
first_checked words job made watched is =
    let given = not_watched words job made watched in (
      (λ gives. given.0
          (subst (λ (b : Bool). GivesWhere false false b words job) (sym is) gives)),
      (λ gives. subst (λ (b : Bool). GivesWhere false false b words job) is (given.1 gives)),
    )

-- words of which the first asks for none of these
pub first_plain : (words : List Text) (job : Job) → made_first words ≡ false
    → watch_first words ≡ false → check_first words ≡ false
    → GivesPlain words job ↔ GivesJob words job
first_plain words job made watched other =
    let given = not_watched words job made watched in (
      (λ gives. given.0
          (subst (λ (b : Bool). GivesWhere false false b words job) (sym other) gives)),
      (λ gives. subst (λ (b : Bool). GivesWhere false false b words job) other (given.1 gives)),
    )
