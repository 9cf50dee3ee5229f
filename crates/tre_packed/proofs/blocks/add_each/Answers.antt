use Rattle.std.proofs.Common.{◌≡◌, ◌∙◌, ◌+◌, ◌∷◌, [], ◌++◌, length, take, refl, sym, ap, arith, append-nil, slice_index_or}
use Rattle.std.proofs.lemmas.List.{append_assoc, drop_more, length-append, length-take-le, take_more}
use Rattle.tre_trace.proofs.Segments.{end_of-append, next-in_time}
use Rattle.tre_trace.specs.Segments.{plain_segment}
use Rattle.tre_trace.specs.Trace.{end_of}
use Rattle.tre_packed.proofs.blocks.add_each.Goals as goal

pub loop-index-init : goal.loop-index-init
loop-index-init c = record {
  beside = λ front same ends beside. (ends ∙ ap (end_of 0) (sym (append-nil front)), rw (append-nil front) beside);
  left = refl;
}

pub make_room-requires : goal.make_room-requires
make_room-requires c =
    let some = c.requires.beside in
    let index = c.loop-index.index in
    let block = c.args.block.now in
    let so_far = c.loop-index.invariant.beside some.segments some.same some.ends some.beside in
    record {
      segments = some.segments ++ take index block;
      same =
          omega (
            arith,
            some.same,
            length-append some.segments (take index block),
            length-take-le index block (omega (arith, c.loop-index-test.true)),
          );
      ends = so_far.0;
      beside = so_far.1;
    }

pub write-requires-clause-few : goal.write-requires-clause-few
write-requires-clause-few c =
    let some = c.requires.beside in
    let index = c.loop-index.index in
    let block = c.args.block.now in
    let all = some.segments ++ take index block in
    let so_far = c.loop-index.invariant.beside some.segments some.same some.ends some.beside in
    let size : c.args.count + index ≡ length all =
    omega (
      arith,
      some.same,
      length-append some.segments (take index block),
      length-take-le index block (omega (arith, c.loop-index-test.true)),
    ) in
    (c.make_room.ensures.beside all size so_far.0 so_far.1).few

pub overflow_add-time : goal.overflow_add-time
overflow_add-time c =
    omega (
      arith,
      c.requires.trace,
      next-in_time c.args.block.now c.loop-index.index c.loop-index.time
          (end_of c.args.end c.args.block.now) (plain_segment 0 0) c.loop-index-test.true
          (omega (arith, c.loop-index.invariant.left)),
    )

pub loop-index-preserved : goal.loop-index-preserved
loop-index-preserved c =
    let block = c.args.block.now in
    let index = c.loop-index.index in
    let within = c.loop-index-test.true in
    let segment = slice_index_or block index (plain_segment 0 0) in
    record {
      beside = λ front same ends beside.
          let so_far = c.loop-index.invariant.beside front same ends beside in
          let all = front ++ take index block in
          let size : c.args.count + index ≡ length all =
          omega (
            arith,
            same,
            length-append front (take index block),
            length-take-le index block (omega (arith, within)),
          ) in
          let grown : front ++ take (index + 1) block ≡ all ++ segment ∷ [] =
          ap (λ l. front ++ l) (take_more block index (plain_segment 0 0) within)
          ∙ sym (append_assoc front (take index block) (segment ∷ [])) in
          rw grown (
            ap (λ t. t + segment.len) so_far.0 ∙ sym (end_of-append 0 all (segment ∷ [])),
            c.write.ensures all segment (sym size) refl
                (c.make_room.ensures.beside all size so_far.0 so_far.1),
          );
      left =
          rw (drop_more block index (plain_segment 0 0) within) at c.loop-index.invariant.left;
    }
