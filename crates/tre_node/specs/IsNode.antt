-- What is so of every node, at the time up to which the trace was read.
use Rattle.std.specs.Prelude.{◌≡◌, ℕ, ◌+◌, ◌*◌, ◌<◌, ◌≤◌, pos, ◌≤ℤ◌, All, List, [], ◌∷◌, Bool, true, false, Option, None, Some, MatchOption, min}
use Rattle.tre_zone.specs.Bound.{sum_of}
use Rattle.tre_zone.specs.Held.{Held, EndBy}
use Rattle.tre_zone.specs.Longest.{IsLongest}
use Rattle.tre_zone.specs.declared.zone_bounds.ZoneBounds.{ZoneBounds}
use Rattle.tre_state.specs.declared.names.TheConstants.{NAMES_MAX}
use Rattle.tre_syntax.specs.PatternTree.{NumbersBelow, PatternTree}
use Rattle.tre_mark.specs.Marked.{IsNothing}
use Rattle.tre_node.specs.declared.node.Stretch.{Stretch}
use Rattle.tre_node.specs.declared.node.Around.{Around}
use Rattle.tre_node.specs.declared.node.Node.{Node, Eps, Lit, Rise, Fall, Event, Seq', Alt', Meet', Star', Within'}
use Rattle.tre_node.specs.NodeTree.{around_of, tree_of_node, mark_of_node}

-- The shorter of two longest durations, where there are such.
abbrev pub least_of : Option ℕ → Option ℕ → Option ℕ
least_of None other = other
least_of (Some high) None = Some high
least_of (Some high) (Some other) = Some (min high other)

-- What a node was made with.
pub record IsMade (longest : Option ℕ) (whole : Bool) (around : Around) : Type 0 where
  pub counts : around.longest ≡ longest
  pub enters : around.whole ≡ whole

-- Some begin is in the stretch, and each is one before the time.
pub record IsStretch (time : ℕ) (stretch : Stretch) : Type 0 where
  pub low : stretch.low ≤ℤ pos 1
  pub some : pos 1 ≤ℤ sum_of stretch.low stretch.high
  pub high : stretch.high ≤ℤ pos (2 * time)

-- Behind the last pairs of the zone something that ends at the time or later may still count.
abbrev pub IsInReach : ℕ → Option ℕ → ZoneBounds → Type 0
IsInReach time reach zone = (bound : ℕ) → EndBy bound (zone ∷ [])
    → MatchOption reach (Unit {0}) (λ high. time ≤ bound + high)

-- The pairs ended before the time, and each zone is one behind which something may still count.
pub record AreOuter (time : ℕ) (reach : Option ℕ) (outer : List ZoneBounds) : Type 0 where
  pub before : (a b n : ℕ) → 0 < n → Held outer a b n → b < time * n
  pub recent : All (IsInReach time reach) outer

-- Nothing has begun, though pairs may have entered behind which something may.
abbrev pub IsIdle : Node → Type 0
IsIdle (Eps around) = Unit {0}
IsIdle (Lit around state begun) = begun.items ≡ []
IsIdle (Rise around state) = Unit {0}
IsIdle (Fall around state) = Unit {0}
IsIdle (Event around number) = Unit {0}
IsIdle (Seq' around box left box' right) = IsIdle left × IsIdle right
IsIdle (Alt' around box left box' right) = IsIdle left × IsIdle right
IsIdle (Meet' around reach outer most box left box' right) = IsIdle left × IsIdle right
IsIdle (Star' around box body) = IsIdle body
IsIdle (Within' around reach interval outer most box body) = IsIdle body

-- The longest duration can be named, and where the node isn't busy nothing has begun.
pub record IsSound (node : Node) : Type 0 where
  pub limit : IsLongest (around_of node).longest
  pub idle : (around_of node).busy ≡ false → IsIdle node

-- The names of the states can be looked up; each part was made for its place; and what has begun
-- did so before the time.
abbrev pub IsNode : ℕ → Node → Type 0
IsNode time (Eps around) = IsSound (Eps around)
IsNode time (Lit around state begun) =
    IsSound (Lit around state begun)
    × NumbersBelow NAMES_MAX (tree_of_node (Lit around state begun))
    × All (IsStretch time) begun.items
IsNode time (Rise around state) =
    IsSound (Rise around state) × NumbersBelow NAMES_MAX (tree_of_node (Rise around state))
IsNode time (Fall around state) =
    IsSound (Fall around state) × NumbersBelow NAMES_MAX (tree_of_node (Fall around state))
IsNode time (Event around number) =
    IsSound (Event around number) × NumbersBelow NAMES_MAX (tree_of_node (Event around number))
IsNode time (Seq' around box left box' right) =
    IsSound (Seq' around box left box' right)
    × (IsMade around.longest around.whole (around_of left)
    × IsMade around.longest false (around_of right)) × IsNode time left × IsNode time right
IsNode time (Alt' around box left box' right) =
    IsSound (Alt' around box left box' right)
    × (IsMade around.longest around.whole (around_of left)
    × IsMade around.longest around.whole (around_of right)) × IsNode time left × IsNode time right
IsNode time (Meet' around reach outer most box left box' right) =
    IsSound (Meet' around reach outer most box left box' right)
    × (reach ≡ around.longest)
    × (IsMade reach true (around_of left) × IsMade reach true (around_of right))
    × AreOuter time reach outer.items × IsNode time left × IsNode time right
IsNode time (Star' around box body) =
    IsSound (Star' around box body)
    × IsMade around.longest false (around_of body) × IsNode time body
IsNode time (Within' around reach interval outer most box body) =
    IsSound (Within' around reach interval outer most box body)
    × (reach ≡ least_of around.longest interval.high)
    × IsMade reach true (around_of body) × AreOuter time reach outer.items × IsNode time body

-- The node stands for no pair, whatever comes.
pub record IsUnbegun (node : Node) : Type 0 where
  pub nothing : (time : ℕ) → IsNothing (mark_of_node time node)

-- A node of the expression, made with these, of which nothing has begun.
pub record IsNew (tree : PatternTree) (longest : Option ℕ) (whole : Bool) (node : Node) : Type 0 where
  pub tree_is : tree_of_node node ≡ tree
  pub made : IsMade longest whole (around_of node)
  pub node_is : (time : ℕ) → IsNode time node
  pub idle : IsIdle node
  pub unbegun : IsUnbegun node
