use Rattle.std.proofs.Common.{◌+◌, ◌-◌, ◌++◌, take, drop, ap, sym, subst, ◌∙◌, arith}
use Rattle.tre_packed.specs.Pack.{IsPack}
use Rattle.tre_packed.specs.Unpacked.{unpacked}
use Rattle.tre_trace.specs.Trace.{IsTrace}
use Rattle.tre_packed.proofs.Adding.{part_is, part_fits}
use Rattle.tre_packed.proofs.Unpacking.{pack_of, unpacked_is}
use Rattle.tre_packed.proofs.blocks.Blocks.add.Goals as goal

pub add_block-requires-clause-pack : goal.add_block-requires-clause-pack
add_block-requires-clause-pack c =
    pack_of (unpacked c.args.self.now ++ take c.loop-from.from c.args.segments.now)
    c.loop-from.self c.loop-from.invariant.pack

pub add_block-requires-clause-trace : goal.add_block-requires-clause-trace
add_block-requires-clause-trace c =
    let front = unpacked c.args.self.now in
    let all = c.args.segments.now in
    let from = c.loop-from.from in
    let to = from + c.min.result in
    subst (λ l. IsTrace (l ++ take (to - from) (drop from all)))
    (sym (unpacked_is (front ++ take from all) c.loop-from.self c.loop-from.invariant.pack))
    (part_fits front all from to (omega arith) c.requires.trace)

pub loop-from-preserved : goal.loop-from-preserved
loop-from-preserved c =
    let front = unpacked c.args.self.now in
    let all = c.args.segments.now in
    let from = c.loop-from.from in
    let to = from + c.min.result in
    let known = unpacked_is (front ++ take from all) c.loop-from.self c.loop-from.invariant.pack in
    record {
      within = omega (arith, c.min.ensures, c.loop-from-test.true);
      pack =
          subst (λ l. IsPack l c.add_block.new.self)
          (ap (λ l. l ++ take (to - from) (drop from all)) known
          ∙ part_is front all from to (omega arith))
          c.in_ok-add_block.ensures;
    }
