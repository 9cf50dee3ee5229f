-- Residuals: the matches that began before a time and may go on behind it, seen as trees.
use Rattle.std.specs.Prelude.{◌≡◌, ℕ, ◌<◌, ◌↔◌, List, None}
use Rattle.tre_pairs.specs.Cuts.{JoinedAt}
use Rattle.tre_pairs.specs.Pairs.{Pairs, Composed, Either, Both, Lasting}
use Rattle.tre_state.specs.declared.names.TheConstants.{NAMES_MAX}
use Rattle.tre_syntax.specs.Expr.{tree_of}
use Rattle.tre_syntax.specs.Meaning.{MatchesRest}
use Rattle.tre_syntax.specs.PatternTree.{PatternTree, NumbersBelow}
use Rattle.tre_syntax.specs.Rest.{Rest}
use Rattle.tre_zone.specs.Held.{Held, EndAt}
use Rattle.tre_zone.specs.Interval.{IntervalEnds, LastsWithin}
use Rattle.tre_zone.specs.declared.zone_bounds.ZoneBounds.{ZoneBounds}
use Rattle.tre_mark.specs.Marked.{Marked}
use Rattle.tre_node.specs.IsNode.{IsNode}
use Rattle.tre_node.specs.NodeTree.{around_of, mark_of_node, tree_of_node}
use Rattle.tre_node.specs.declared.node.Node.{Node}
use Rattle.tre_residual.specs.declared.residual.Residual.{Residual}
use Rattle.tre_residual.specs.declared.residual.Residual.TheVariants.{Nil, Here, At, Pre', Post', Or', Both', Dur', Mark}

-- What a residual is made of: sets of zones, each seen as the list of its zones, expressions, and
-- patterns under way.
pub data ResidualTree : Type 0 where
  nothing : ResidualTree
  here : List ZoneBounds → ResidualTree
  joined : List ZoneBounds → PatternTree → ResidualTree
  preceded : List ZoneBounds → ResidualTree → ResidualTree
  followed : ResidualTree → PatternTree → ResidualTree
  either : ResidualTree → ResidualTree → ResidualTree
  both : ResidualTree → ResidualTree → ResidualTree
  lasting : ResidualTree → IntervalEnds → ResidualTree
  marked : Node → ResidualTree

-- The residual of the program as a tree, without its boxes.
abbrev pub residual_tree : Residual → ResidualTree
residual_tree Nil = nothing
residual_tree (Here zones) = here zones
residual_tree (At zones expr) = joined zones (tree_of expr)
residual_tree (Pre' zones box residual) = preceded zones (residual_tree residual)
residual_tree (Post' box residual expr) = followed (residual_tree residual) (tree_of expr)
residual_tree (Or' box one box' other) = either (residual_tree one) (residual_tree other)
residual_tree (Both' box one box' other) = both (residual_tree one) (residual_tree other)
residual_tree (Dur' box residual interval) = lasting (residual_tree residual) interval
residual_tree (Mark node) = marked node.value

-- The pairs that a residual stands for, where this rest of a trace comes.
abbrev pub Means : ResidualTree → Rest → Pairs
Means nothing rest a b n = ⊥
Means (here zones) rest a b n = Held zones a b n
Means (joined zones tree) rest a b n =
    JoinedAt rest.start (Held zones) (MatchesRest tree rest) a b n
Means (preceded zones residual) rest a b n =
    Composed (Held zones) (Means residual rest) a b n
Means (followed residual tree) rest a b n =
    Composed (Means residual rest) (MatchesRest tree rest) a b n
Means (either one other) rest a b n = Either (Means one rest) (Means other rest) a b n
Means (both one other) rest a b n = Both (Means one rest) (Means other rest) a b n
Means (lasting residual ends) rest a b n = Lasting (LastsWithin ends) (Means residual rest) a b n
Means (marked node) rest a b n =
    Marked rest (mark_of_node rest.start node) (tree_of_node node) a b n

-- A pattern under way at the time, of which everything counts, however long it lasts.
pub record IsRoot (time : ℕ) (node : Node) : Type 0 where
  pub node_is : IsNode time node
  pub counts : (around_of node).longest ≡ None

-- Each pair that is here ends at the time, each pattern under way is one then, and each expression
-- names propositions that there are.
abbrev pub IsWell : ℕ → ResidualTree → Type 0
IsWell time nothing = Unit {0}
IsWell time (here zones) = EndAt time zones
IsWell time (joined zones tree) = NumbersBelow NAMES_MAX tree
IsWell time (preceded zones residual) = IsWell time residual
IsWell time (followed residual tree) = IsWell time residual × NumbersBelow NAMES_MAX tree
IsWell time (either one other) = IsWell time one × IsWell time other
IsWell time (both one other) = IsWell time one × IsWell time other
IsWell time (lasting residual ends) = IsWell time residual
IsWell time (marked node) = IsRoot time node

-- The residual is one at the time.
pub record IsWellAt (time : ℕ) (residual : ResidualTree) : Type 0 where
  pub well : IsWell time residual

-- The residual stands for the pairs of the form, whatever comes, and is well when the form is.
pub record Builds (residual form : ResidualTree) : Type 0 where
  pub pairs : (rest : Rest) (a b n : ℕ) → 0 < n
      → Means residual rest a b n ↔ Means form rest a b n
  pub well : (time : ℕ) → IsWellAt time form → IsWellAt time residual

-- The zones hold what those of the first hold, followed by what those of the second hold.
pub record IsComposition (zones first second : List ZoneBounds) : Type 0 where
  pub pairs : (a b n : ℕ) → 0 < n
      → Held zones a b n ↔ Composed (Held first) (Held second) a b n
