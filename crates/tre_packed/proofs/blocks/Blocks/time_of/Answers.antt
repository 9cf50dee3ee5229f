use Rattle.std.proofs.Common.{◌<◌, length, arith}
use Rattle.tre_trace.proofs.Segments.{end_of-take-le}
use Rattle.tre_packed.specs.Unpacked.{unpacked}
use Rattle.tre_packed.proofs.Unpacking.{time_read}
use Rattle.tre_packed.proofs.blocks.Blocks.time_of.Goals as goal

pub overflow_add-result : goal.overflow_add-result
overflow_add-result c =
    let segments = unpacked c.args.self.now in
    let pack = c.requires.pack in
    let within : c.args.place < length segments =
    omega (arith, c.if-place-len.true, c.len.ensures, pack.offsets.size) in
    omega (
      arith,
      c.start.ensures,
      c.at.ensures,
      time_read segments c.args.self.now pack c.args.place within,
      end_of-take-le 0 segments c.args.place,
      pack.trace.in_time,
    )
