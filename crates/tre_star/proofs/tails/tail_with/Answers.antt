use Rattle.std.proofs.Common.{◌≡◌, ◌-◌, ℕ, length, get_or, subst, arith}
use Rattle.tre_zone.specs.Zone.{Covers}
use Rattle.tre_star.proofs.tails.tail_with.Goals as goal

pub returns-clause-before : goal.returns-clause-before
returns-clause-before c = λ k d one.
    let here : length c.args.tails.now - 1 ≡ k = omega (arith, one) in
    subst (λ (j : ℕ). Covers c.looser.result (get_or c.args.tails.now j d)) here
    (rw (c.tail_at.ensures d) at c.looser.ensures.first)

pub returns-clause-keys : goal.returns-clause-keys
returns-clause-keys c = λ limit own before.
    c.looser.ensures.keys limit
    (rw (c.tail_at.ensures c.args.zone.now)
    (before (length c.args.tails.now - 1) c.args.zone.now (omega (arith, c.if-count-eq0.false))))
    own
