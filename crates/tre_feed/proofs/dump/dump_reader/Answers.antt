use Rattle.std.proofs.Common.{◌∙◌}
use Rattle.tre_feed.proofs.dump.dump_reader.Goals as goal

pub returns-clause-terms : goal.returns-clause-terms
returns-clause-terms c = c.new-2.ensures.terms ∙ c.in_ok-tokens.ensures.terms

pub returns-clause-names : goal.returns-clause-names
returns-clause-names c =
    c.new-2.ensures.names ∙ c.in_ok-tokens.ensures.names ∙ c.in_ok-names.ensures
