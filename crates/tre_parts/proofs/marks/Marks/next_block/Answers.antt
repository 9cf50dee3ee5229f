use Rattle.std.proofs.Common.{◌+◌, ◌≤◌, length, arith}
use Rattle.tre_parts.proofs.Lanes.{first_in, none_in, none_joined, next_after, marks_new}
use Rattle.tre_parts.proofs.marks.Marks.next_block.Goals as goal

pub loop-block-preserved : goal.loop-block-preserved
loop-block-preserved g c =
    let bytes = c.args.bytes.now in
    let has = g.C.ByteClass.has in
    let block = c.loop-block.block in
    let before = c.loop-block.invariant in
    let room : block + 16 ≤ length bytes = omega (arith, c.loop-block-test.true, before.within) in
    record {
      behind = omega (arith, before.behind);
      within = room;
      before =
          none_joined has bytes _ block (block + 16) before.before
          (none_in has bytes block c.among-bits.result room c.among-bits.ensures
          c.if-bits-ne0.false);
    }

pub returns-then-bits-ne0-clause-next : goal.returns-then-bits-ne0-clause-next
returns-then-bits-ne0-clause-next g c =
    let bytes = c.args.bytes.now in
    let has = g.C.ByteClass.has in
    let block = c.loop-block.block in
    let before = c.loop-block.invariant in
    let room : block + 16 ≤ length bytes = omega (arith, c.loop-block-test.true, before.within) in
    next_after has bytes _ block _ before.behind before.before
    (first_in has bytes block c.among-bits.result room c.among-bits.ensures c.if-bits-ne0.true
    c.among-bits.type_inv)

pub returns-then-bits-ne0-clause-marks : goal.returns-then-bits-ne0-clause-marks
returns-then-bits-ne0-clause-marks g c =
    let before = c.loop-block.invariant in
    marks_new g.C.ByteClass.has c.args.bytes.now c.loop-block.block c.among-bits.result
    (omega (arith, c.loop-block-test.true, before.within)) c.among-bits.ensures c.if-bits-ne0.true
    c.among-bits.type_inv
