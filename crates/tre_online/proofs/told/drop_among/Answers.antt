use Rattle.std.proofs.Common.{rules}
use Rattle.tre_online.proofs.NewZones.{new_from_retain}
use Rattle.tre_online.proofs.told.drop_among.Goals as goal

pub returns : goal.returns
returns c = new_from_retain _ c.args.earlier.now _ (λ x b f' k. search rules) _ _
    c.retain.ensures.filtered
