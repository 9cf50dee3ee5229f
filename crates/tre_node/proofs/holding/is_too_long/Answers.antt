use Rattle.std.proofs.Common.{◌≡◌, ℤ, ◌*◌, ◌-◌, ◌≤ℤ◌, arith, pos, subst}
use Rattle.std.proofs.lemmas.Int.{ints}
use Rattle.tre_node.proofs.BegunAt.{too_long}
use Rattle.tre_node.proofs.holding.is_too_long.Goals as goal

pub returns-then-longest-time : goal.returns-then-longest-time
returns-then-longest-time c said =
    let key : c.strict.result ≡ pos (2 * (c.args.time - c.args.longest)) =
    omega (arith, ints, c.strict.ensures.key, c.requires, c.if-longest-time.true) in
    too_long c.args.longest c.args.time c.args.high.now c.if-longest-time.true
    (subst (λ (k : ℤ). c.args.high.now ≤ℤ k) key (c.is_no_looser.ensures said))
