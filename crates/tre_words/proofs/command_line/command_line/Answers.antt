use Rattle.std.proofs.Common.{◌≡◌, ◌∙◌, ap₂}
use Rattle.clap.specs.Words.{app_of, with_rule}
use Rattle.tre_words.specs.CommandLine.{bare_command, command_line}
use Rattle.tre_words.proofs.CommandLine.{bare_command-app}
use Rattle.tre_words.proofs.command_line.command_line.Goals as goal

pub returns : goal.returns
unfolding command_line
returns c =
    let bare : app_of c.disable_help_flag-bare.result ≡ bare_command =
    bare_command-app c.new.result c.no_binary_name.result c.disable_help_flag-bare.result
    c.new.ensures.app c.no_binary_name.ensures c.disable_help_flag-bare.ensures in
    c.in_ok-command.ensures.shape c.operand.ensures.local
    ∙ ap₂ with_rule (c.in_ok-arg-12.ensures.shape c.option-5.ensures.local
    ∙ ap₂ with_rule (c.in_ok-arg-11.ensures.shape c.option-4.ensures.local
    ∙ ap₂ with_rule (c.in_ok-arg-10.ensures.shape c.option-3.ensures.local
    ∙ ap₂ with_rule (c.in_ok-arg-9.ensures.shape c.option-2.ensures.local
    ∙ ap₂ with_rule (c.in_ok-arg-8.ensures.shape c.option.ensures.local
    ∙ ap₂ with_rule (c.in_ok-arg-7.ensures.shape c.flag-3.ensures.local
    ∙ ap₂ with_rule (c.in_ok-arg-6.ensures.shape c.with_default-4.ensures.local
    ∙ ap₂ with_rule (c.in_ok-arg-5.ensures.shape c.with_default-3.ensures.local
    ∙ ap₂ with_rule (c.in_ok-arg-4.ensures.shape c.with_default-2.ensures.local
    ∙ ap₂ with_rule (c.in_ok-arg-3.ensures.shape c.with_default.ensures.local
    ∙ ap₂ with_rule (c.in_ok-arg-2.ensures.shape c.flag-2.ensures.local
    ∙ ap₂ with_rule (c.in_ok-arg.ensures.shape c.flag.ensures.local
    ∙ ap₂ with_rule bare c.flag.ensures.rule) c.flag-2.ensures.rule) c.with_default.ensures.rule)
    c.with_default-2.ensures.rule) c.with_default-3.ensures.rule) c.with_default-4.ensures.rule)
    c.flag-3.ensures.rule) c.option.ensures.rule) c.option-2.ensures.rule)
    c.option-3.ensures.rule) c.option-4.ensures.rule) c.option-5.ensures.rule)
    c.operand.ensures.rule
