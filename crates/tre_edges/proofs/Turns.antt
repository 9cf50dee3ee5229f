-- One turn over the segments: what the zones hold so far, and what the rest holds.
use Rattle.std.proofs.Common.{◌↔◌, ◌⊎◌, rules}

-- A part of the rest comes to the zones.
pub exact_closed : {Whole Held Rest Span Next More : Type 0} → Whole ↔ (Held ⊎ Rest) → Rest
    ↔ (Span ⊎ Next) → More ↔ (Held ⊎ Span) → Whole ↔ (More ⊎ Next)
exact_closed exact parts more = search rules
