-- What the parser builds, against the trees: the count of nodes is always kept, the expression
-- itself only while it is small.
use Rattle.std.specs.Prelude.{◌≡◌, ℕ, ◌≤◌, min, IsSome, IfSome}
use Rattle.tre_state.specs.StateTree as state
use Rattle.tre_state.specs.StateTree.{StateTree}
use Rattle.tre_state.specs.State as built_state
use Rattle.tre_state.specs.declared.state.State.{State}
use Rattle.tre_syntax.specs.PatternTree.{PatternTree, atom, sequence, alternation, intersection, repetition, restriction, node_count}
use Rattle.tre_syntax.specs.Expr.{tree_of}
use Rattle.tre_syntax.specs.declared.expr.Expr.{Expr}
use Rattle.tre_syntax.specs.declared.pattern.TheConstants.{NODES_MAX}
use Rattle.tre_parse.specs.declared.limits.TheConstants.{COUNT_MAX}
use Rattle.tre_parse.specs.Parts.{IsFineInterval}
use Rattle.tre_parse.specs.declared.counted.Counted.{Counted}

-- Each interval of the expression is fine.
abbrev pub HasFineIntervals : PatternTree → Type 0
HasFineIntervals (atom x) = Unit {0}
HasFineIntervals (sequence e f) = HasFineIntervals e × HasFineIntervals f
HasFineIntervals (alternation e f) = HasFineIntervals e × HasFineIntervals f
HasFineIntervals (intersection e f) = HasFineIntervals e × HasFineIntervals f
HasFineIntervals (repetition e) = HasFineIntervals e
HasFineIntervals (restriction e ends) = HasFineIntervals e × IsFineInterval ends

-- The count stands for the tree: its nodes are counted up to COUNT_MAX, and it is built where it
-- has at most NODES_MAX and is fine.
pub record Counts {T : Type 0} (counted : Counted T) (count : ℕ) (IsIt : T → Type 0)
    (IsFine : Type 0) : Type 0 where
  pub nodes : counted.nodes ≡ min count COUNT_MAX
  pub same : IfSome counted.tree IsIt
  pub built : count ≤ NODES_MAX → IsFine → IsSome counted.tree

abbrev pub Formula : Type 0
Formula = Counted State

abbrev pub Operand : Type 0
Operand = Counted Expr

abbrev pub RepresentsState : Formula → StateTree → Type 0
RepresentsState formula s =
    Counts formula (state.node_count s) (λ x. built_state.tree_of x ≡ s) (Unit {0})

-- The same of an expression, which is fine where its intervals are.
abbrev pub Represents : Operand → PatternTree → Type 0
Represents operand e = Counts operand (node_count e) (λ x. tree_of x ≡ e) (HasFineIntervals e)

-- What stands for a tree is turned into what stands for the tree that is made of it.
abbrev pub Turns : {A B Tree Made : Type 0} → (A → Tree → Type 0) → (B → Made → Type 0) →
    (Tree → Made) → A → B → Type 0
Turns {Tree = Tree} StandsFor StandsForMade make x made =
    (tree : Tree) → StandsFor x tree → StandsForMade made (make tree)
