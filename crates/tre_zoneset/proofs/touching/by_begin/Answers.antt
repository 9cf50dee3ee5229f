use Rattle.tre_zoneset.proofs.Thinning.{HoldExactly-moved}
use Rattle.tre_zoneset.proofs.touching.by_begin.Goals as goal

pub returns-then-not-all_rise : goal.returns-then-not-all_rise
returns-then-not-all_rise c = HoldExactly-moved _ _ c.sort_unstable_by_key.ensures.permutation
