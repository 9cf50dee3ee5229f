use Rattle.std.proofs.Common.{arith, rules}
use Rattle.std.specs.Int.Bits.{bit_or, bit_xor}
use Rattle.std.proofs.lemmas.Nat.Bits.{bit_at_or, bit_at_and, bit_at_xor, bit_at-lt}
use Rattle.tre_vcd.proofs.variable.set_value.Goals as goal

pub returns-then-value-clause-kept : goal.returns-then-value-clause-kept
returns-then-value-clause-kept c = λ k clear.
    omega (arith, clear, bit_at_or c.args.values.now c.args.bits k, bit_at-lt c.args.bits k)

pub returns-then-value-clause-changed : goal.returns-then-value-clause-changed
returns-then-value-clause-changed c =
    search (rules, bit_or, bit_at_or, bit_at-lt, c.args.values.now, c.args.bits)

pub returns-clause-changed : goal.returns-clause-changed
returns-clause-changed c =
    search (rules, bit_xor, bit_at_xor, bit_at_and, bit_at-lt, c.args.values.now, c.args.bits)

pub returns-clause-kept : goal.returns-clause-kept
returns-clause-kept c =
    search (rules, bit_at_xor, bit_at_and, bit_at-lt, c.args.values.now, c.args.bits)
