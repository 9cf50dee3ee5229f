use Rattle.std.proofs.Common.{arith}
use Rattle.tre_packed.specs.Unpacked.{unpacked}
use Rattle.tre_packed.proofs.blocks.Blocks.plane.Goals as goal

pub plane-requires-clause-beside : goal.plane-requires-clause-beside
plane-requires-clause-beside c =
    let pack = c.requires.pack in (
      c.args.self.now.end,
      record {
        segments = unpacked c.args.self.now;
        same = omega (arith, c.len.ensures, pack.offsets.size);
        ends = pack.end;
        beside = pack.planes;
      },
    )
