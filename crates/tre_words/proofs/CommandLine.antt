-- The command line as `clap` sees it.
use Rattle.std.proofs.Common.{◌≡◌, ◌≢◌, ◌∙◌, ◌⊎◌, ⊎_elim, ap, ℕ, List, [], Option, Some, None, IfSome, IfNone, true, refl, subst, sym, codes}
use Rattle.std.specs.Borrow.{Bor}
use Rattle.std.specs.Prelude.{option_map}
use Rattle.clap.specs.Words.{first_of, first_value, rows_of, is_simple, is_simple_and_free}
use Rattle.clap.specs.declared.parser.matches.Found.{Found}
use Rattle.clap.proofs.OnLiterals.{clap_on_literals}
use Rattle.clap.proofs.WalkLemmas.{first_value-rows}
use Rattle.clap.specs.Simple.{app_of_fields, on_top}
use Rattle.clap.specs.Words.{app_of, new_app, IsAmong, Kinds}
use Rattle.clap.specs.declared.error.kind.ErrorKind.{ErrorKind}
use Rattle.clap.specs.declared.error.kind.ErrorKind.TheVariants.{OutOfMemory}
use Rattle.clap.specs.declared.builder.command.Command.{Command}
use Rattle.clap.specs.declared.builder.command.Command.TheViews.{out-Command}
use Rattle.clap.specs.declared.builder.command.Command.TheOpen.{Command-F}
use Rattle.tre_words.specs.CommandLine.{bare_command, command_line}

-- it is one of those of which `clap` promises the matches
pub command_line-simple : is_simple command_line ≡ true
unfolding command_line clap_on_literals
command_line-simple = refl

-- and of which it promises the faults
pub command_line-free : is_simple_and_free command_line ≡ true
unfolding command_line clap_on_literals
command_line-free = refl

-- what `get_str` reads, by the rows of the matches
pub value-some : (found : Found) (name : List ℕ) (value : Option (Bor (List ℕ)))
    → option_map (λ s. s.now) value ≡ first_value found name
    → IfSome value (λ text. first_of name (rows_of found) ≡ Some text.now)
value-some found name None e = tt
value-some found name (Some text) e = sym (first_value-rows found name) ∙ sym e

pub value-none : (found : Found) (name : List ℕ) (value : Option (Bor (List ℕ)))
    → option_map (λ s. s.now) value ≡ first_value found name
    → IfNone value (first_of name (rows_of found) ≡ None)
value-none found name None e = sym (first_value-rows found name) ∙ sym e
value-none found name (Some text) e = tt

-- the command without its options, from what the two calls set
pub bare_command-app : (new named bare : Command) → app_of new ≡ new_app (codes "montre")
    → out-Command named ≡ record (out-Command new) { no_binary_name = true }
    → out-Command bare ≡ record (out-Command named) { disable_help_flag = true }
    → app_of bare ≡ bare_command
bare_command-app new named bare made words help =
    ap app_of_fields help
    ∙ (ap (λ (fields : Command-F Command). app_of_fields
    (record fields { disable_help_flag = true })) words
    ∙ ap (on_top (λ s. record s { no_binary_name = true; disable_help_flag = true })) made)

-- a fault that isn't want of memory is one that `clap` has of the words
pub fault_told : (kinds : Kinds) (kind : ErrorKind) → (kind ≡ OutOfMemory) ⊎ IsAmong kind kinds
    → kind ≢ OutOfMemory → kinds ≢ []
fault_told kinds kind either told none = ⊎_elim (λ memory. told memory)
    (λ among. subst (IsAmong kind) none among) either
