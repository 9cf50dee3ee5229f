-- Lists of zones whose pairs end before some time.
use Rattle.std.proofs.Common.{ℕ, ◌≤◌, List, [], rules}
use Rattle.tre_zone.specs.declared.zone_bounds.ZoneBounds.{ZoneBounds}
use Rattle.tre_zone.proofs.ZoneListLemmas.{SetHolds-empty}
use Rattle.tre_edges.specs.Ends.{EndBefore}

pub EndBefore-empty : (t : ℕ) → EndBefore t []
EndBefore-empty t = record { every = λ a b n some le held. absurd (SetHolds-empty a b n held) }

pub EndBefore-later : (t later : ℕ) → t ≤ later → (zones : List ZoneBounds) → EndBefore t zones
    → EndBefore later zones
EndBefore-later t later le zones ended = search rules
