use Rattle.std.proofs.Common.{◌+◌, ◌≤◌, length, arith}
use Rattle.tre_parts.proofs.Lanes.{first_in, none_in, none_joined, next_after}
use Rattle.tre_parts.proofs.byte_class.first_from.Goals as goal

pub loop-place-preserved : goal.loop-place-preserved
loop-place-preserved g c =
    let bytes = c.args.bytes.now in
    let has = g.C.ByteClass.has in
    let place = c.loop-place.place in
    let before = c.loop-place.invariant in
    let room : place + 16 ≤ length bytes = omega (arith, c.loop-place-test.true, before.within) in
    record {
      behind = omega (arith, before.behind);
      within = room;
      before =
          none_joined has bytes c.args.from place (place + 16) before.before
          (none_in has bytes place c.among-found.result room c.among-found.ensures
          c.if-found-ne0.false);
    }

pub returns-then-found-ne0-clause-first : goal.returns-then-found-ne0-clause-first
returns-then-found-ne0-clause-first g c =
    let bytes = c.args.bytes.now in
    let has = g.C.ByteClass.has in
    let place = c.loop-place.place in
    let before = c.loop-place.invariant in
    let room : place + 16 ≤ length bytes = omega (arith, c.loop-place-test.true, before.within) in
    next_after has bytes c.args.from place _ before.behind before.before
    (first_in has bytes place c.among-found.result room c.among-found.ensures c.if-found-ne0.true
    c.among-found.type_inv)
