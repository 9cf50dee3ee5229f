use Rattle.std.proofs.Common.{rules}
use Rattle.tre_index.specs.ZoneKeys.{meeting_of}
use Rattle.tre_index.proofs.ZoneRows.{meeting_others, lane_of}
use Rattle.tre_index.proofs.zone_keys.key_meeting.Goals as goal

pub returns-clause-key : goal.returns-clause-key
unfolding meeting_of
returns-clause-key c =
    let same = c.bounds-bounds.ensures.same in
    let begin_high = lane_of (λ b. b.begin_high) same c.facing.ensures (search rules) in
    let begin_low = lane_of (λ b. b.begin_low) same c.facing-2.ensures (search rules) in
    let end_high = lane_of (λ b. b.end_high) same c.facing-3.ensures (search rules) in
    let end_low = lane_of (λ b. b.end_low) same c.facing-4.ensures (search rules) in
    let dur_high = lane_of (λ b. b.dur_high) same c.facing-5.ensures (search rules) in
    let dur_low = lane_of (λ b. b.dur_low) same c.facing-6.ensures (search rules) in
    cc

pub returns-clause-others : goal.returns-clause-others
returns-clause-others c =
    λ other canonical below.
    meeting_others c.args.zone.now other canonical
    (λ reaches. below (rw (returns-clause-key c) reaches))
