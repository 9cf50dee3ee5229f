use Rattle.std.proofs.Common.{ap, sym}
use Rattle.tre_syntax.specs.Expr.{tree_of}
use Rattle.tre_syntax.proofs.expr.Expr.+try_clone.Goals as goal

pub returns-in-Event : goal.returns-in-Event
returns-in-Event t c = record { same = ap tree_of (sym c.in-Event.is) }
