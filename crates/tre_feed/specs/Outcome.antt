-- What kinds of fault an input can have.
use Rattle.std.specs.Prelude.{◌≢◌}
use Rattle.tre_trace.specs.declared.fault.TraceKind.{TraceKind}
use Rattle.tre_trace.specs.declared.fault.TraceKind.TheVariants.{Spent, Memory}

-- A kind that the bytes of an input can have: no want of memory, and no reader that was done.
pub record IsInputKind (kind : TraceKind) : Type 0 where
  pub never_memory : kind ≢ Memory
  pub never_spent : kind ≢ Spent
