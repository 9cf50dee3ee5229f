use Rattle.std.proofs.Common.{ℕ, ◌≤◌, ◌+◌, ◌*◌, length}
use Rattle.tre_state.specs.StateTree.{StateTree}
use Rattle.tre_parse.specs.declared.connective.Connective.{Connective}
use Rattle.tre_parse.specs.declared.connective.Connective.TheVariants.{And, Or}
use Rattle.tre_parse.specs.Joins.{negated}
use Rattle.tre_parse.specs.Operands.{RepresentsState}
use Rattle.tre_parse.specs.Reader.{state_by, state_after, read_state}
use Rattle.tre_parse.specs.Reading.{ReadingGoes}
use Rattle.tre_parse.proofs.states.+state.Given as goal

-- How far a function is from the innermost.
abbrev rank : Connective → ℕ
rank And = 0
rank Or = 2

abbrev pub decreases-without_bangs : goal.decreases-without_bangs
decreases-without_bangs l = 6 * length l.tokens.now

abbrev pub decreases-operand : goal.decreases-operand
decreases-operand l = 6 * length l.tokens.now + 1

abbrev pub decreases-part : goal.decreases-part
decreases-part l = 6 * length l.tokens.now + 2 + rank l.how

abbrev pub decreases-state : goal.decreases-state
decreases-state l = 6 * length l.tokens.now + 3 + rank l.how

abbrev pub invariant-state-loop-alloc : goal.invariant-state-loop-alloc
invariant-state-loop-alloc l = record {
  reads : ReadingGoes RepresentsState l.whole (read_state (state_by l.how) l.fn.tokens)
      (λ s. read_state (state_after l.how s) l.tokens);
  shorter : length l.tokens ≤ length l.fn.tokens;
}

abbrev pub decreases-state-loop-alloc : goal.decreases-state-loop-alloc
decreases-state-loop-alloc l = length l.tokens

abbrev pub invariant-operand-loop : goal.invariant-operand-loop
invariant-operand-loop l = (s : StateTree) → RepresentsState l.initial.whole s
    → RepresentsState l.whole (negated l.counter s)
