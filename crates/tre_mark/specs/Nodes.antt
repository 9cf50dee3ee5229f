-- How large marks are.
use Rattle.std.specs.Prelude.{ℕ, ◌+◌}
use Rattle.tre_syntax.specs.PatternTree.{PatternTree, atom, sequence, alternation, intersection, repetition, restriction}
use Rattle.tre_mark.specs.MarkTree.{MarkTree, atom_mark, sequence_mark, alternation_mark, repetition_mark, intersection_none, intersection_one, restriction_none, restriction_one}

-- How many nodes a mark has.
abbrev pub mark_node_count : MarkTree → ℕ
mark_node_count (atom_mark here begun) = 1
mark_node_count (sequence_mark one other) = 1 + mark_node_count one + mark_node_count other
mark_node_count (alternation_mark one other) = 1 + mark_node_count one + mark_node_count other
mark_node_count (repetition_mark here body) = 1 + mark_node_count body
mark_node_count intersection_none = 1
mark_node_count (intersection_one to outer one other) =
    1 + mark_node_count one + mark_node_count other
mark_node_count restriction_none = 1
mark_node_count (restriction_one to outer body) = 1 + mark_node_count body

-- How many forms an expression is made of, where each atom is one.
abbrev pub form_count : PatternTree → ℕ
form_count (atom x) = 1
form_count (sequence left right) = 1 + form_count left + form_count right
form_count (alternation left right) = 1 + form_count left + form_count right
form_count (intersection left right) = 1 + form_count left + form_count right
form_count (repetition tree) = 1 + form_count tree
form_count (restriction tree ends) = 1 + form_count tree

-- The expression has neither an intersection nor a restriction.
abbrev pub HasNoInstances : PatternTree → Type 0
HasNoInstances (atom x) = Unit {0}
HasNoInstances (sequence left right) = HasNoInstances left × HasNoInstances right
HasNoInstances (alternation left right) = HasNoInstances left × HasNoInstances right
HasNoInstances (intersection left right) = ⊥
HasNoInstances (repetition tree) = HasNoInstances tree
HasNoInstances (restriction tree ends) = ⊥
