use Rattle.std.proofs.Common.{◌≡◌, ◌++◌, take}
use Rattle.std.specs.Prelude.{All}
use Rattle.tre_packed.specs.Said.{said_from, HasBits}
use Rattle.tre_packed.proofs.happening.add_said.Given as goal

abbrev pub invariant-loop-index : goal.invariant-loop-index
invariant-loop-index l = record {
  said : l.said.items ≡ l.fn.said.items ++ said_from l.place (take l.index l.block);
  bits : All HasBits (take l.index l.block);
}
