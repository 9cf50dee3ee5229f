use Rattle.std.proofs.Common.{rules}
use Rattle.tre_index.specs.ZoneKeys.{after_of}
use Rattle.tre_index.proofs.ZoneRows.{after_others, lane_of}
use Rattle.tre_index.proofs.zone_keys.key_after.Goals as goal

pub returns-clause-key : goal.returns-clause-key
unfolding after_of
returns-clause-key c =
    let same = c.bounds-bounds.ensures.same in
    let end_high = lane_of (λ b. b.end_high) same c.facing.ensures (search rules) in
    let end_low = lane_of (λ b. b.end_low) same c.facing-2.ensures (search rules) in
    cc

pub returns-clause-others : goal.returns-clause-others
returns-clause-others c =
    λ other canonical below.
    after_others c.args.zone.now other canonical
    (λ reaches. below (rw (returns-clause-key c) reaches))
