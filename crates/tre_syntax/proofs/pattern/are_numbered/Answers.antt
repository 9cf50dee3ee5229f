use Rattle.std.proofs.Common.{rules}
use Rattle.tre_syntax.proofs.pattern.are_numbered.Goals as goal

pub returns-then-is_numbered : goal.returns-then-is_numbered
returns-then-is_numbered c =
    search (rules, c.is_numbered.ensures.0, c.is_numbered-then-is_numbered.ensures.0)
