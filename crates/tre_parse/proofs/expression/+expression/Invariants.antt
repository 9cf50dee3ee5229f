use Rattle.std.proofs.Common.{ℕ, ◌≤◌, ◌+◌, ◌*◌, length}
use Rattle.tre_parse.specs.declared.connective.Join.{Join}
use Rattle.tre_parse.specs.declared.connective.Join.TheVariants.{Sequence, Intersection, Alternation}
use Rattle.tre_parse.specs.Operands.{Represents}
use Rattle.tre_parse.specs.Reader.{expression_by, expression_after, operand, operand_after, read_pattern}
use Rattle.tre_parse.specs.Reading.{ReadingGoes}
use Rattle.tre_parse.specs.Unkept.{FindsUpTo}
use Rattle.tre_parse.proofs.expression.+expression.Given as goal

-- How far a function is from the innermost.
abbrev rank : Join → ℕ
rank Sequence = 0
rank Intersection = 2
rank Alternation = 4

abbrev pub decreases-primary : goal.decreases-primary
decreases-primary l = 8 * length l.tokens.now

abbrev pub decreases-operand : goal.decreases-operand
decreases-operand l = 8 * length l.tokens.now + 1

abbrev pub decreases-part : goal.decreases-part
decreases-part l = 8 * length l.tokens.now + 2 + rank l.how

abbrev pub decreases-expression : goal.decreases-expression
decreases-expression l = 8 * length l.tokens.now + 3 + rank l.how

abbrev pub invariant-expression-loop-alloc : goal.invariant-expression-loop-alloc
invariant-expression-loop-alloc l = record {
  reads : ReadingGoes Represents l.whole (read_pattern (expression_by l.how) l.fn.tokens)
      (λ e. read_pattern (expression_after l.how e) l.tokens);
  shorter : length l.tokens ≤ length l.fn.tokens;
  unkept : FindsUpTo l.fn.tokens l.tokens l.whole.unkept;
}

abbrev pub decreases-expression-loop-alloc : goal.decreases-expression-loop-alloc
decreases-expression-loop-alloc l = length l.tokens

abbrev pub invariant-operand-loop-tokens : goal.invariant-operand-loop-tokens
invariant-operand-loop-tokens l = record {
  reads : ReadingGoes Represents l.whole (read_pattern operand l.fn.tokens)
      (λ e. read_pattern (operand_after e) l.tokens);
  shorter : length l.tokens ≤ length l.fn.tokens;
  unkept : FindsUpTo l.fn.tokens l.tokens l.whole.unkept;
}

abbrev pub decreases-operand-loop-tokens : goal.decreases-operand-loop-tokens
decreases-operand-loop-tokens l = length l.tokens
