use Rattle.std.proofs.Common.{◌∙◌, ◌++◌, ◌∷◌, [], ap, sym, subst}
use Rattle.tre_zone.specs.Zone.{IsCanonical}
use Rattle.tre_node.proofs.BegunAt.{stretch_canonical, stretch_keys}
use Rattle.tre_node.proofs.holding.put_stretch.Goals as goal

pub ends_at-bounds-requires-clause-low : goal.ends_at-bounds-requires-clause-low
ends_at-bounds-requires-clause-low c =
    (stretch_keys c.args.time c.args.stretch.now c.requires.limit c.requires.begun).0

pub ends_at-bounds-requires-clause-high : goal.ends_at-bounds-requires-clause-high
ends_at-bounds-requires-clause-high c =
    (stretch_keys c.args.time c.args.stretch.now c.requires.limit c.requires.begun).1

pub from_canonical-requires : goal.from_canonical-requires
from_canonical-requires c =
    subst IsCanonical (sym c.ends_at-bounds.ensures)
    (stretch_canonical c.args.time c.args.stretch.now c.requires.limit c.requires.begun)

pub returns : goal.returns
returns c =
    c.in_ok-push.ensures.items
    ∙ ap (λ zone. c.args.found.now.items ++ zone ∷ [])
    (c.from_canonical.ensures ∙ c.ends_at-bounds.ensures)
