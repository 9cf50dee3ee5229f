use Rattle.std.proofs.Common.{ap}
use Rattle.tre_syntax.specs.PatternTree.{atom, literal, rise}
use Rattle.tre_offline.proofs.edged.is_risen.Goals as goal

pub returns-then-is_same_state-clause-first : goal.returns-then-is_same_state-clause-first
returns-then-is_same_state-clause-first c = λ yes.
    rw c.in-Rise.is (ap (λ tree. atom (rise tree))
    (c.is_same_state.ensures c.if-is_same_state.true))

pub returns-then-is_same_state-clause-second : goal.returns-then-is_same_state-clause-second
returns-then-is_same_state-clause-second c = λ yes.
    rw c.in-Lit.is (ap (λ tree. atom (literal tree))
    (c.is_same_state-then-is_same_state.ensures yes))
