use Rattle.std.proofs.Common.{refl, arith}
use Rattle.tre_generate.proofs.pattern.pause.Goals as goal

pub unreachable-requires : goal.unreachable-requires
unreachable-requires c = c.in-None.ensures.empty.0 refl 1 1 (omega arith) (omega arith, omega arith)
