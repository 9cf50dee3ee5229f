use Rattle.std.proofs.Common.{rules}
use Rattle.tre_strips.proofs.Sweeping.{SameBehind-from_retain}
use Rattle.tre_strips.proofs.begins.close_zones.Goals as goal

pub returns : goal.returns
returns c = SameBehind-from_retain _ c.args.time _ (λ zone b f' k. search rules) _ _
    c.retain.ensures.filtered
