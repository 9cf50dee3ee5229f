use Rattle.std.proofs.Common.{rules}
use Rattle.tre_feed.specs.Each.{readers_in}
use Rattle.tre_feed.proofs.Begun.{none_left, none_more, readers_more}
use Rattle.tre_feed.proofs.input.fed_each.Goals as goal

pub loop-reader-preserved : goal.loop-reader-preserved
loop-reader-preserved g c =
    let left = rw c.in-Some.ensures.steps.0 at c.loop-reader.invariant.left in
    record {
      can = search rules;
      ends = search rules;
      left = rw c.in_ok-put_last.ensures (readers_more c.loop-reader.each.items c.new.result
          c.in-Some.reader _ _ c.new.ensures.reader left);
      none = rw c.in_ok-put_last.ensures (none_more c.loop-reader.each.items c.new.result
          c.loop-reader.invariant.none c.new.ensures.none);
    }

pub returns-clause-readers : goal.returns-clause-readers
returns-clause-readers g c =
    search (rules, none_left, readers_in, c.loop-reader.reader-iterator.rest)
