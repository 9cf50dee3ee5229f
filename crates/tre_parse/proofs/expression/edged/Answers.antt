use Rattle.std.proofs.Common.{sym, subst, Bool}
use Rattle.tre_syntax.specs.PatternTree.{atom, fall}
use Rattle.tre_parse.specs.Joins.{plain_literal, edged_literal}
use Rattle.tre_parse.specs.Operands.{Represents}
use Rattle.tre_parse.proofs.expression.edged.Goals as goal

pub returns-then-ends-clause-stands : goal.returns-then-ends-clause-stands
returns-then-ends-clause-stands c = λ s h.
    let P = λ (b : Bool). Represents c.in_ok-both.both (edged_literal c.args.begins b s) in
    subst P (sym c.if-ends.true) (c.in_ok-both.ensures.stands (plain_literal c.args.begins s)
    (atom (fall s)) (c.in_ok-body.ensures.stands s h)
    (c.edge.ensures.stands s (c.in_ok-again.ensures s h)))
