use Rattle.std.proofs.Common.{◌∙◌}
use Rattle.tre_feed.proofs.text.text_reader.Goals as goal

pub returns-clause-names : goal.returns-clause-names
returns-clause-names c = c.new-2.ensures.names ∙ c.new.ensures.names ∙ c.in_ok-names.ensures
