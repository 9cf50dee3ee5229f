use Rattle.std.proofs.Common.{refl}
use Rattle.tre_tool.proofs.status.StatusFromFault.from.Goals as goal

pub returns-in-Write : goal.returns-in-Write
returns-in-Write c = rw c.in-Write.is refl
