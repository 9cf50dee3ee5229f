use Rattle.std.proofs.Common.{ℕ, Option, sym, subst}
use Rattle.tre_node.specs.Telling.{IsTooLong}
use Rattle.tre_node.proofs.holding.is_too_old.Goals as goal

pub returns-in-Some : goal.returns-in-Some
returns-in-Some c said =
    subst (λ (l : Option ℕ). IsTooLong l c.args.time c.args.high.now) (sym c.in-Some.is)
    (c.is_too_long.ensures said)
