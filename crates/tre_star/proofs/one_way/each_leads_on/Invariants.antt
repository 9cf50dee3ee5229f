use Rattle.std.proofs.Common.{ℕ, ◌<◌}
use Rattle.tre_star.specs.OneWay.{LeadsOn}
use Rattle.tre_star.proofs.one_way.each_leads_on.Given as goal

abbrev pub invariant-loop-place : goal.invariant-loop-place
invariant-loop-place l = (k : ℕ) → k < l.place → LeadsOn l.steps k
