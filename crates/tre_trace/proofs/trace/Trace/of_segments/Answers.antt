use Rattle.std.proofs.Common.{◌≡◌, ◌⊎◌, ◌+◌, ◌-◌, ◌*◌, ◌≤◌, ◌∙◌, inl, inr, length, take, drop, refl, ap, sym, arith, rules}
use Rattle.std.proofs.lemmas.Bool.{cases_lt}
use Rattle.std.proofs.lemmas.List.{length-take-le, take_all}
use Rattle.tre_trace.specs.Trace.{end_of}
use Rattle.tre_trace.proofs.Blocks.{take_in_two, take_within}
use Rattle.tre_trace.proofs.Segments.{end_of-from, end_of-take-le}
use Rattle.tre_trace.proofs.trace.Trace.of_segments.Goals as goal

pub loop-block-init : goal.loop-block-init
loop-block-init c = record { beside = c.new-planes.ensures; end = refl }

pub add_block-requires-clause-beside : goal.add_block-requires-clause-beside
add_block-requires-clause-beside c = search (rules, length-take-le, c.args.segments.items)

pub end_of-end-requires : goal.end_of-end-requires
end_of-end-requires c =
    search (rules, end_of-from, end_of-take-le, c.args.segments.items, c.min.result)

pub loop-block-preserved : goal.loop-block-preserved
loop-block-preserved c =
    let segments = c.args.segments.items in
    let from = c.loop-block.block * 64 in
    let to = from + c.min.result in
    let next = (c.loop-block.block + 1) * 64 in
    let count : c.len-in-loop-block.result ≡ length segments =
    omega (arith, c.len-in-loop-block.ensures) in
    let reached : (next ≤ to) ⊎ (length segments ≤ to) =
    elim (cases_lt (length segments - from) 64) [
      | inl last ↦ inr (omega (arith, last, count, c.min.ensures))
      | inr more ↦ inl (omega (arith, more, count, c.min.ensures))
    ] in
    let whole = take_within segments next to (omega (arith, c.min.ensures)) reached in
    let two = take_in_two segments from to (omega arith) in
    let last : end_of c.loop-block.end (take (to - from) (drop from
    c.deref-in-loop-block.result.now)) ≡ end_of 0 (take to segments) =
    rw (c.deref-in-loop-block.ensures.value, c.loop-block.invariant.end)
    (end_of-from 0 segments from to (omega arith)) in
    record {
      beside =
          rw (← whole, ← two)
          (rw c.deref.ensures.value at (c.in_ok-add_block.ensures (take from segments)
          (sym (length-take-le from segments (omega (arith, count)))) c.loop-block.invariant.end
          c.loop-block.invariant.beside));
      end = c.end_of-end.ensures ∙ last ∙ ap (end_of 0) whole;
    }

pub invariant_of-result : goal.invariant_of-result
invariant_of-result c = search (rules, take_all, end_of, c.args.segments.items)
