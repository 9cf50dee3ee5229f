use Rattle.std.proofs.Common.{◌≡◌, List, [], ◌∷◌, map, refl, ap₂, rules}
use Rattle.tre_trace.specs.declared.segment.Segment.{Segment}
use Rattle.tre_feed.proofs.view.View.narrow.Goals as goal

maps_same : (f g : Segment → Segment) → ((segment : Segment) → f segment ≡ g segment)
    → (row : List Segment) → map f row ≡ map g row
maps_same f g same [] = refl
maps_same f g same (segment ∷ row) =
    ap₂ (λ (first : Segment) rest. first ∷ rest) (same segment) (maps_same f g same row)

pub returns : goal.returns
returns c =
    search (rules, maps_same, c.in-Some.names, c.in-Some.ensures.bits, c.in-Some-mask.ensures.bits)
