-- The command line as `clap` sees it.
use Rattle.std.specs.Prelude.{◌≡◌, true, List, [], ◌∷◌, Option, Some, codes}
use Rattle.std.specs.List.{fold}
use Rattle.clap.specs.Simple.{on_top}
use Rattle.clap.specs.Words.{App, Row, Rule, Text, fault_of, first_of, matches_of, new_app, new_rule, with_rule}
use Rattle.clap.specs.declared.builder.action.ArgAction.TheVariants.{Set, SetTrue}
use Rattle.tre_words.specs.Job.{MayStand, SaysJob}
use Rattle.tre_words.specs.declared.job.Job.{Job}

-- a flag, as `--show`
abbrev pub flag_rule : Text → Rule
flag_rule name = record (new_rule name) { long = Some name; action = Some SetTrue }

-- an option with one value, as `--minus EXPR`, which has none where it isn't given
abbrev pub option_rule : Text → Rule
option_rule name = record (new_rule name) { long = Some name; action = Some Set }

-- an option with one value, as `--input NAME`, and the value where it isn't given
abbrev pub default_rule : Text → Text → Rule
default_rule name default = record (option_rule name) { defaults = default ∷ [] }

-- a word that must be there and is no option
abbrev pub operand_rule : Text → Rule
operand_rule name = record (new_rule name) { action = Some Set; required = true }

-- the program without its options: no help flag, and the words are those after the program's name
abbrev pub bare_command : App
bare_command =
    on_top (λ s. record s { no_binary_name = true; disable_help_flag = true })
    (new_app (codes "montre"))

-- The command line as `clap` sees it.
unfoldable pub command_line : App
command_line =
    fold with_rule bare_command
    (flag_rule (codes "online")
    ∷ flag_rule (codes "show")
    ∷ default_rule (codes "format") (codes "text")
    ∷ default_rule (codes "input") (codes "-")
    ∷ default_rule (codes "max-bytes") (codes "1073741824")
    ∷ default_rule (codes "scale") (codes "0")
    ∷ flag_rule (codes "normal")
    ∷ option_rule (codes "max-zones")
    ∷ option_rule (codes "minus")
    ∷ option_rule (codes "let")
    ∷ option_rule (codes "define")
    ∷ option_rule (codes "unit")
    ∷ operand_rule (codes "EXPR")
    ∷ [])

-- what `clap` finds for each option
abbrev pub found_in : List Row → Text → Option Text
found_in rows name = first_of name rows

-- What `clap` finds is this job.
pub record FindsJob (rows : List Row) (job : Job) : Type 0 where
  pub says : SaysJob (found_in rows) job
  pub expr : first_of (codes "EXPR") rows ≡ Some job.expr

-- what `clap` finds in words
abbrev pub rows_in : List Text → List Row
rows_in words = matches_of command_line words

-- What `clap` promises of words is this job: it has no fault of them, what it finds is the job, and
-- may stand so.
pub record ByClap (words : List Text) (job : Job) : Type 0 where
  pub faultless : fault_of command_line words ≡ []
  pub finds : FindsJob (rows_in words) job
  pub stands : MayStand (found_in (rows_in words)) job
