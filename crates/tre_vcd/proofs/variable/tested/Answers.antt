use Rattle.std.proofs.Common.{rules}
use Rattle.tre_vcd.proofs.variable.tested.Goals as goal

pub returns-then-has_identifier_at-clause-this : goal.returns-then-has_identifier_at-clause-this
returns-then-has_identifier_at-clause-this c =
    (λ _. c.has_identifier_at.ensures.0 c.if-has_identifier_at.true, λ _. c.requires.set)

pub returns-clause-others : goal.returns-clause-others
returns-clause-others c = λ k other.
    (c.without.ensures.no_more k, c.without.ensures.kept k other)

pub returns-clause-this : goal.returns-clause-this
returns-clause-this c = search (rules, c.has_identifier_at.ensures.1, c.if-has_identifier_at.false)
