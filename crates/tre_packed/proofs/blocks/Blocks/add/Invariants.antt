use Rattle.std.proofs.Common.{length, ◌-◌, ◌≤◌, ◌++◌, take}
use Rattle.tre_packed.specs.Pack.{IsPack}
use Rattle.tre_packed.specs.Unpacked.{unpacked}
use Rattle.tre_packed.proofs.blocks.Blocks.add.Given as goal

-- The segments before `from` are added.
abbrev pub invariant-loop-from : goal.invariant-loop-from
invariant-loop-from l = record {
  within : l.from ≤ length l.segments;
  pack : IsPack (unpacked l.fn.self ++ take l.from l.segments) l.self;
}

abbrev pub decreases-loop-from : goal.decreases-loop-from
decreases-loop-from l = length l.segments - l.from
