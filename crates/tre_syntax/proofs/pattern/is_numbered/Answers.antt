use Rattle.std.proofs.Common.{◌∙◌, sym}
use Rattle.tre_syntax.proofs.Counts.{none_is_no_count}
use Rattle.tre_syntax.proofs.pattern.is_numbered.Goals as goal

pub returns-in-None : goal.returns-in-None
returns-in-None c = none_is_no_count _ c.args.count (sym c.seen_after.ensures ∙ c.in-None.is)
