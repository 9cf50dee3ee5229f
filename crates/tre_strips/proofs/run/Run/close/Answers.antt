use Rattle.std.proofs.Common.{rules}
use Rattle.tre_strips.proofs.run.Run.close.Goals as goal

pub fit-requires : goal.fit-requires
fit-requires c = rw c.deref-2.ensures.value c.requires

pub returns : goal.returns
returns c = search (rules, c.deref-3.ensures.value)
