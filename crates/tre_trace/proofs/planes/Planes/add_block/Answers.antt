use Rattle.std.proofs.Common.{◌≡◌, ◌∙◌, ◌/◌, ◌%◌, length, arith}
use Rattle.std.proofs.lemmas.List.{length-append, with_items_is}
use Rattle.tre_trace.proofs.Blocks.{AreStarts-block, AreWordsOf-block, told_all}
use Rattle.tre_trace.proofs.planes.Planes.add_block.Goals as goal

pub returns : goal.returns
returns c front count end beside =
    let own = c.widen.new.own in
    let new = c.put_words.new.own in
    let block = c.args.block.now in
    let same : length new ≡ own.len =
    omega (arith, c.put_words.auto.own, c.deref_mut.ensures.len) in
    let same_items : length new ≡ length own.items =
    rw c.deref_mut.ensures.value at c.put_words.auto.own in
    let whole : length front % 64 ≡ 0 = rw (← count) c.requires.whole in
    let few = c.requires.few in
    let told = rw (c.deref_mut.ensures.value, count) at c.in_ok-put_words.ensures in
    record {
      starts =
          AreStarts-block front block _ (c.begin_block.ensures.starts front count end beside.starts) whole few
          (rw (← count) c.in_ok-begin_block.ensures.room);
      blank_enough =
          omega (arith, c.in_ok-stretch.ensures.ok, count, whole, few, length-append front block);
      blank_bits = λ place. c.stretch.ensures.stretched.bits place ∙ beside.blank_bits place;
      few = rw (with_items_is own new same) (omega (arith, c.widen.ensures.few, same_items));
      own = λ number below.
          rw (with_items_is own new same)
          (AreWordsOf-block number front block _ _ whole few
          (rw (← c.widen.ensures.same number) at (beside.own number below))
          (told_all own.items new (length front / 64) c.union_of-union.result block same_items
          c.union_of-union.ensures c.in_ok-widen.ensures.all told number below));
    }
