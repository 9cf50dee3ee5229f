use Rattle.std.proofs.Common.{◌∙◌, sym, drop, length, map, string_bytes, arith}
use Rattle.std.proofs.lemmas.List.{length-map}
use Rattle.tre_online.specs.Watch.{ended_of_each}
use Rattle.tre_tell.proofs.Printing.{set_put, sets_none}
use Rattle.tre_tell.proofs.text.put_told.Goals as goal

pub loop-left-init : goal.loop-left-init
loop-left-init c =
    let labels = c.args.labels.now in
    let same = length-map labels string_bytes in
    record {
      count = omega arith;
      within = c.requires.within;
      put = sets_none c.args.scale (map string_bytes labels) (ended_of_each c.args.watch.now)
          (drop c.args.begin c.args.text.now.items) (length labels) (omega (arith, same))
          (c.requires.count ∙ sym same);
    }

pub loop-left-preserved : goal.loop-left-preserved
loop-left-preserved c =
    let sets = ended_of_each c.args.watch.now in
    let told = rw c.as_str.ensures.value at c.in_ok-at.ensures.put in
    record {
      count = omega (arith, c.loop-left.invariant.count);
      within = c.in_ok-at.ensures.within;
      put = set_put c.args.scale string_bytes c.args.labels.now sets told.set
          c.index-labels-left.result c.loop-left.left (drop c.args.begin c.args.text.now.items) _ _
          (omega (arith, c.loop-left-test.true)) c.loop-left.invariant.count c.index-labels-left.is
          told.at c.loop-left.invariant.put told.put;
    }
