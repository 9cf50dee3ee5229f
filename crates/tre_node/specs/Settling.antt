-- Whether something has begun, and what is forgotten.
use Rattle.std.specs.Prelude.{◌≡◌, ◌⊎◌, ◌↔◌, ℕ, List, [], Bool, true, false}
use Rattle.tre_zone.specs.declared.zone_bounds.ZoneBounds.{ZoneBounds}
use Rattle.tre_syntax.specs.PatternTree.{PatternTree}
use Rattle.tre_syntax.specs.Rest.{Rest}
use Rattle.tre_mark.specs.MarkTree.{MarkTree}
use Rattle.tre_mark.specs.Marked.{Marked}
use Rattle.tre_node.specs.declared.node.Node.{Node, Eps, Lit, Rise, Fall, Event, Seq', Alt', Meet', Star', Within'}
use Rattle.tre_node.specs.IsNode.{IsIdle, IsMade, IsNode}
use Rattle.tre_node.specs.NodeTree.{around_of, tree_of_node, mark_of_node}

-- Where an intersection isn't busy nothing has begun in it.
abbrev pub IsKnown : Node → Type 0
IsKnown (Eps around) = Unit {0}
IsKnown (Lit around state begun) = Unit {0}
IsKnown (Rise around state) = Unit {0}
IsKnown (Fall around state) = Unit {0}
IsKnown (Event around number) = Unit {0}
IsKnown (Seq' around box left box' right) = IsKnown left × IsKnown right
IsKnown (Alt' around box left box' right) = IsKnown left × IsKnown right
IsKnown (Meet' around reach outer most box left box' right) =
    around.busy ≡ false → IsIdle left × IsIdle right
IsKnown (Star' around box body) = IsKnown body
IsKnown (Within' around reach interval outer most box body) = IsKnown body

-- That is so of the parts of the node.
abbrev pub AreKnown : Node → Type 0
AreKnown (Eps around) = Unit {0}
AreKnown (Lit around state begun) = Unit {0}
AreKnown (Rise around state) = Unit {0}
AreKnown (Fall around state) = Unit {0}
AreKnown (Event around number) = Unit {0}
AreKnown (Seq' around box left box' right) = IsKnown left × IsKnown right
AreKnown (Alt' around box left box' right) = IsKnown left × IsKnown right
AreKnown (Meet' around reach outer most box left box' right) = IsKnown left × IsKnown right
AreKnown (Star' around box body) = IsKnown body
AreKnown (Within' around reach interval outer most box body) = IsKnown body

-- The marks stand for the same pairs.
pub record AreAlike (tree : PatternTree) (old new : MarkTree) : Type 0 where
  pub same : (rest : Rest) (a b n : ℕ) → Marked rest new tree a b n ↔ Marked rest old tree a b n

-- Where it is known of its parts whether something has begun, it is of the node then, which stands
-- for the same pairs.
pub record Settles (before after : Node) : Type 0 where
  pub tree : tree_of_node after ≡ tree_of_node before
  pub made : IsMade (around_of before).longest (around_of before).whole (around_of after)
  pub node : (time : ℕ) → AreKnown before → IsNode time before → IsNode time after
  pub alike : (time : ℕ) → AreKnown before
      → AreAlike (tree_of_node before) (mark_of_node time before) (mark_of_node time after)
  pub known : AreKnown before → IsKnown after

-- Nothing has begun in the node as it is then, where this is so.
pub record IsForgotten (rightly : Type 0) (before after : Node) : Type 0 where
  pub tree : tree_of_node after ≡ tree_of_node before
  pub made : IsMade (around_of before).longest (around_of before).whole (around_of after)
  pub node : (time : ℕ) → IsNode time before → IsNode time after
  pub idle : rightly → IsIdle after

-- What led to the body is kept, or nothing has begun in that.
abbrev pub SettlesBody : Node → List ZoneBounds → List ZoneBounds → Type 0
SettlesBody body outer outer' =
    (outer' ≡ outer) ⊎ ((outer' ≡ []) × (IsKnown body → IsIdle body))

-- The sides are as they were, or nothing had begun on one of them, and both are forgotten.
abbrev pub SettlesSides : Node → Node → Node → Node → List ZoneBounds → List ZoneBounds → Bool
    → Type 0
SettlesSides left left' right right' outer outer' true =
    (left' ≡ left) × (right' ≡ right) × (outer' ≡ outer)
SettlesSides left left' right right' outer outer' false =
    (outer' ≡ [])
    × ((IsKnown left → IsIdle left) ⊎ (IsKnown right → IsIdle right))
    × IsForgotten (IsKnown left) left left' × IsForgotten (IsKnown right) right right'
