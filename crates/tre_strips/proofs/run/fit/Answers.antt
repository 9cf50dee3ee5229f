use Rattle.std.proofs.Common.{refl, rules}
use Rattle.tre_strips.proofs.Fitting.{Agree-alike, few-Agree}
use Rattle.tre_strips.proofs.run.fit.Goals as goal

pub returns-then-are_same_at : goal.returns-then-are_same_at
returns-then-are_same_at c = (
  (λ e. Agree-alike c.args.time c.args.bars.now c.args.there.now c.requires
      (c.if-are_same_at.ensures.0 refl)),
  (λ agree. refl),
)

pub returns-then-bars-lt2 : goal.returns-then-bars-lt2
returns-then-bars-lt2 c =
    search (rules, few-Agree, c.args.time, c.args.bars.now, c.args.there.now, c.requires)
