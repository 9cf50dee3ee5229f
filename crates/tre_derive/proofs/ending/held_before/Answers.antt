use Rattle.std.proofs.Common.{◌≡◌, true, false}
use Rattle.tre_zone.proofs.ZoneListLemmas.{SetHolds-empty}
use Rattle.tre_derive.proofs.ending.held_before.Goals as goal

pub returns : goal.returns
returns c =
    rw c.new.ensures (record {
      exact = λ a b n some le. (
        λ h. absurd (SetHolds-empty a b n h),
        λ h. let wrong : false ≡ true = c.if-matches_there.ensures.1 h.at_end in absurd cc,
      );
    })
