use Rattle.std.proofs.Common.{arith, rules}
use Rattle.tre_zone.specs.Longest.{LastsUpTo}
use Rattle.tre_zone.specs.Zone.{IsInstantBetween}
use Rattle.tre_zone.proofs.Lasting.{LastsUpTo-downward, LastsUpTo-scales}
use Rattle.tre_star.proofs.Chaining.{Scales-instants, instants-rising}
use Rattle.tre_star.proofs.OneWay.{AreFoundFrom-none, AreFoundFrom-next}
use Rattle.tre_star.proofs.one_way.chains_from_last.Goals as goal

pub loop-left-init : goal.loop-left-init
loop-left-init c = record {
  count = omega arith;
  from = rw (c.in_ok-found.ensures.items, c.new-last.ensures.items)
      (AreFoundFrom-none (LastsUpTo c.args.limits.now.longest)
      (IsInstantBetween c.args.limits.now.from c.args.limits.now.to) c.args.steps.now);
}

pub loop-left-preserved : goal.loop-left-preserved
loop-left-preserved c =
    let limits = c.args.limits.now in
    let old = c.loop-left.invariant in
    let made = rw c.deref.ensures.value at c.in_ok-begin_with.ensures in
    let all = rw c.deref-in-loop-left.ensures.value at c.in_ok-add_all.ensures.all in
    let tight = rw c.deref-in-loop-left.ensures.value at c.in_ok-add_all.ensures.canonical in
    record {
      count = omega (arith, old.count);
      from = rw (c.swap.ensures.x_after, all)
          (AreFoundFrom-next (LastsUpTo limits.longest) (IsInstantBetween limits.from limits.to)
          c.args.steps.now (LastsUpTo-downward limits.longest) (LastsUpTo-scales limits.longest)
          (Scales-instants limits.from limits.to) (instants-rising limits.from limits.to)
          c.requires.steps c.requires.ways c.loop-left.left c.index-steps-left.result
          c.loop-left-test.true old.count c.index-steps-left.is c.loop-left.found.items
          c.loop-left.last.items c.begin_with.new.chains.items old.from
          c.instants-instants.result c.instants-instants.ensures.held made tight);
    }

pub returns : goal.returns
returns c = search (rules, c.args.limits.now.from, c.args.steps.now, c.loop-left.found.items)
