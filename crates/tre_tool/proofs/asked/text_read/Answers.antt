use Rattle.std.proofs.Common.{◌∙◌, refl, sym}
use Rattle.tre_tool.proofs.Definings.{text_read-others}
use Rattle.tre_tool.proofs.asked.text_read.Goals as goal

pub returns-in-Show : goal.returns-in-Show
returns-in-Show c = rw c.in-Show.is refl

pub returns-in-Generate : goal.returns-in-Generate
returns-in-Generate c = rw c.in-Generate.is refl

pub returns-in_default : goal.returns-in_default
returns-in_default c = c.text_given.ensures ∙ sym (text_read-others c.args.job.now.mode
    c.args.job.now.lets c.in_default.not-Show c.in_default.not-Generate)
