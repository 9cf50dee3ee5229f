use Rattle.std.proofs.Common.{rules}
use Rattle.tre_trace.proofs.Naming.{bit-at, bit-is, no-bit}
use Rattle.tre_trace.proofs.laws.naming.Goals as goal

pub returns : goal.returns
returns c = search (rules, bit-at, bit-is, no-bit)
