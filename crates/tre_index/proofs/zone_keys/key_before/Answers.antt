use Rattle.std.proofs.Common.{rules}
use Rattle.tre_index.specs.ZoneKeys.{before_of}
use Rattle.tre_index.proofs.ZoneRows.{before_others, lane_of}
use Rattle.tre_index.proofs.zone_keys.key_before.Goals as goal

pub returns-clause-key : goal.returns-clause-key
unfolding before_of
returns-clause-key c =
    let same = c.bounds-bounds.ensures.same in
    let begin_high = lane_of (λ b. b.begin_high) same c.facing.ensures (search rules) in
    let begin_low = lane_of (λ b. b.begin_low) same c.facing-2.ensures (search rules) in
    cc

pub returns-clause-others : goal.returns-clause-others
returns-clause-others c =
    λ other canonical below.
    before_others c.args.zone.now other canonical
    (λ reaches. below (rw (returns-clause-key c) reaches))
