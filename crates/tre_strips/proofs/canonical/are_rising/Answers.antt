use Rattle.std.proofs.Common.{arith, rules}
use Rattle.tre_strips.proofs.Listing.{rising_all, next_rising}
use Rattle.tre_strips.proofs.canonical.are_rising.Goals as goal

pub loop-place-preserved : goal.loop-place-preserved
loop-place-preserved c =
    search (rules, next_rising, c.args.zones.now, c.loop-place.place, c.loop-place-test.true)

pub returns : goal.returns
returns c = λ yes_it. rising_all c.args.zones.now (λ k d within.
    c.loop-place.invariant k d (omega (arith, within)))
