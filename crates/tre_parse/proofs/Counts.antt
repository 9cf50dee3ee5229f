-- How many nodes joined trees have.
use Rattle.std.proofs.Common.{◌≡◌, ℕ, ◌+◌, Bool, true, false, Option, Some, refl, add-one, subst, rules}
use Rattle.std.specs.Prelude.{IfSome}
use Rattle.tre_state.specs.StateTree as state
use Rattle.tre_state.specs.StateTree.{StateTree, negation}
use Rattle.tre_syntax.specs.PatternTree.{PatternTree, node_count}
use Rattle.tre_parse.specs.declared.connective.Connective.{Connective}
use Rattle.tre_parse.specs.declared.connective.Connective.TheVariants.{And, Or}
use Rattle.tre_parse.specs.declared.connective.Join.{Join}
use Rattle.tre_parse.specs.declared.connective.Join.TheVariants.{Sequence, Intersection, Alternation}
use Rattle.tre_parse.specs.declared.counted.Counted.{Counted}
use Rattle.tre_parse.specs.Operands.{Counts}
use Rattle.tre_parse.specs.Joins.{negated, edge_of}
use Rattle.tre_parse.specs.Joins.{connected, joined_by, Keeps}

-- A tree of one node.
pub leaf_counts : {T : Type 0} {P : T → Type 0} {F : Type 0} (counted : Counted T) (x : T)
    → counted.nodes ≡ 1 → counted.tree ≡ Some x → P x → Counts counted 1 P F
leaf_counts {P = P} counted x n t h = search rules

pub connected_count : (how : Connective) (s t : StateTree) → state.node_count (connected how s t)
    ≡ 1 + state.node_count s + state.node_count t
connected_count And s t = refl
connected_count Or s t = refl

pub joined_count : (how : Join) (e f : PatternTree) → node_count (joined_by how e f)
    ≡ 1 + node_count e + node_count f
joined_count Sequence e f = refl
joined_count Intersection e f = refl
joined_count Alternation e f = refl

pub edge_count : (rises : Bool) (s : StateTree) → node_count (edge_of rises s)
    ≡ 1 + state.node_count s
edge_count true s = refl
edge_count false s = refl

pub negated_more : (n : ℕ) (s : StateTree) → negated (n + 1) s ≡ negation (negated n s)
negated_more n s = rw add-one refl

whole_is : {T : Type 0} (whole : Option T) (x : T) (IsIt : T → Type 0) → whole ≡ Some x
    → IfSome whole IsIt → IsIt x
whole_is {T = T} whole x IsIt e h = let P = λ (o : Option T). IfSome o IsIt in subst P e h

pub kept_is : {T : Type 0} (nodes : ℕ) (whole kept : Option T) (x : T) (IsIt : T → Type 0)
    → Keeps nodes whole kept → kept ≡ Some x → IfSome whole IsIt → IsIt x
kept_is {T = T} nodes whole kept x IsIt k e h = search rules
