use Rattle.std.proofs.Common.{rules}
use Rattle.tre_zoneset.proofs.Kept.{Without-from_retain}
use Rattle.tre_zoneset.proofs.zone_set.drop_included.Goals as goal

pub returns-clause-kept : goal.returns-clause-kept
returns-clause-kept c = Without-from_retain _ c.args.zone.now _
    (λ x b f' k. search rules) _ _ c.retain.ensures.filtered
