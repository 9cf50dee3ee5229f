use Rattle.std.proofs.Common.{refl, arith, neg_ℤ, pos}
use Rattle.std.proofs.lemmas.Int.{ints}
use Rattle.tre_star.proofs.Powers.{weak_like, strict_like}
use Rattle.tre_star.proofs.power_limit.at_least.Goals as goal

pub returns-then-is_weak-clause-weakness : goal.returns-then-is_weak-clause-weakness
returns-then-is_weak-clause-weakness c =
    weak_like _ c.args.like.now (neg_ℤ (pos c.args.total)) (omega (arith, ints))
    (c.if-is_weak.ensures.0 refl)

pub returns-else-is_weak-clause-weakness : goal.returns-else-is_weak-clause-weakness
returns-else-is_weak-clause-weakness c =
    strict_like _ c.args.like.now (neg_ℤ (pos c.args.total)) (omega (arith, ints))
    (λ one. let e = c.if-is_weak.ensures.1 one in (cc))
