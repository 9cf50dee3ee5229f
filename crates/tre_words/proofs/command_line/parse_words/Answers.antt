use Rattle.std.proofs.Common.{◌∙◌, ap, sym, map, string_bytes}
use Rattle.clap.specs.Words.{is_simple, is_simple_and_free, fault_of, matches_of}
use Rattle.tre_words.proofs.CommandLine.{command_line-simple, command_line-free, fault_told}
use Rattle.tre_words.proofs.command_line.parse_words.Goals as goal

pub returns-in-Ok-clause-matches : goal.returns-in-Ok-clause-matches
returns-in-Ok-clause-matches c =
    (c.in-Ok.ensures.matches (ap is_simple c.in_ok-command.ensures ∙ command_line-simple)).0
    ∙ ap (λ app. matches_of app (map string_bytes c.args.words.now)) c.in_ok-command.ensures

pub returns-in-Ok-clause-faultless : goal.returns-in-Ok-clause-faultless
returns-in-Ok-clause-faultless c =
    ap (λ app. fault_of app (map string_bytes c.args.words.now)) (sym c.in_ok-command.ensures)
    ∙ c.in-Ok.ensures.kinds
    (ap is_simple_and_free c.in_ok-command.ensures ∙ command_line-free)

pub returns-in-Err-clause-usage : goal.returns-in-Err-clause-usage
returns-in-Err-clause-usage c =
    let kinds = c.in-Err.ensures.kinds
    (ap is_simple_and_free c.in_ok-command.ensures ∙ command_line-free) in
    λ usage none. fault_told _ _ kinds
    (λ memory. let wanting = c.words_fault.ensures.memory (c.kind.ensures ∙ memory) in cc)
    (ap (λ app. fault_of app (map string_bytes c.args.words.now)) c.in_ok-command.ensures ∙ none)
