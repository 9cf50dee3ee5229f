use Rattle.std.proofs.Common.{sym, subst, Bool}
use Rattle.tre_syntax.specs.PatternTree.{atom, rise, literal}
use Rattle.tre_parse.specs.Joins.{plain_literal}
use Rattle.tre_parse.specs.Operands.{Represents}
use Rattle.tre_parse.proofs.expression.plain.Goals as goal

pub returns-then-begins-clause-stands : goal.returns-then-begins-clause-stands
returns-then-begins-clause-stands c = λ s h.
    let P = λ (b : Bool). Represents c.in_ok-both.both (plain_literal b s) in
    subst P (sym c.if-begins.true) (c.in_ok-both.ensures.stands (atom (rise s)) (atom (literal s))
    (c.edge-rise.ensures.stands s (c.in_ok-again.ensures s h)) (c.literal.ensures.stands s h))
