-- How many nodes marks have.
use Rattle.std.proofs.Common.{◌≡◌, ℕ, ◌≤◌, refl, arith}
use Rattle.tre_syntax.specs.PatternTree.{Atom, PatternTree, empty, literal, rise, fall, event, atom, sequence, alternation, intersection, repetition, restriction, atom_node_count, node_count}
use Rattle.tre_mark.specs.MarkTree.{MarkTree, atom_mark, sequence_mark, alternation_mark, repetition_mark, intersection_none, intersection_one, restriction_none, restriction_one}
use Rattle.tre_mark.specs.Marked.{IsWell}
use Rattle.tre_mark.specs.Nodes.{mark_node_count, form_count, HasNoInstances}

-- A mark has the shape of its expression.
pub shaped : (time : ℕ) (mark : MarkTree) (tree : PatternTree) → IsWell time mark tree
    → HasNoInstances tree → mark_node_count mark ≡ form_count tree
shaped time (atom_mark here begun) (atom x) well none = refl
shaped time (sequence_mark one other) (sequence left right) well none =
    let first = shaped time one left well.0 none.0 in
    let second = shaped time other right well.1 none.1 in
    omega (arith, first, second)
shaped time (alternation_mark one other) (alternation left right) well none =
    let first = shaped time one left well.0 none.0 in
    let second = shaped time other right well.1 none.1 in
    omega (arith, first, second)
shaped time (repetition_mark here body) (repetition tree) well none =
    let inner = shaped time body tree well.1 none in
    omega (arith, inner)
shaped time (intersection_one to outer one other) (intersection left right) well none =
    absurd none
shaped time intersection_none (intersection left right) well none = absurd none
shaped time (restriction_one to outer body) (restriction tree ends) well none = absurd none
shaped time restriction_none (restriction tree ends) well none = absurd none
shaped time mark tree well none = absurd well

-- It has no more forms than its expression.
pub limited : (time : ℕ) (mark : MarkTree) (tree : PatternTree) → IsWell time mark tree
    → mark_node_count mark ≤ form_count tree
limited time (atom_mark here begun) (atom x) well = omega arith
limited time (sequence_mark one other) (sequence left right) well =
    let first = limited time one left well.0 in
    let second = limited time other right well.1 in
    omega (arith, first, second)
limited time (alternation_mark one other) (alternation left right) well =
    let first = limited time one left well.0 in
    let second = limited time other right well.1 in
    omega (arith, first, second)
limited time (repetition_mark here body) (repetition tree) well =
    let inner = limited time body tree well.1 in
    omega (arith, inner)
limited time (intersection_one to outer one other) (intersection left right) well =
    let first = limited time one left well.1 in
    let second = limited time other right well.2 in
    omega (arith, first, second)
limited time intersection_none (intersection left right) well = omega arith
limited time (restriction_one to outer body) (restriction tree ends) well =
    let inner = limited time body tree well.2 in
    omega (arith, inner)
limited time restriction_none (restriction tree ends) well = omega arith
limited time mark tree well = absurd well

atom_nodes : (x : Atom) → 1 ≤ atom_node_count x
atom_nodes empty = omega arith
atom_nodes (literal state) = omega arith
atom_nodes (rise state) = omega arith
atom_nodes (fall state) = omega arith
atom_nodes (event number) = omega arith

pub forms_below : (tree : PatternTree) → form_count tree ≤ node_count tree
forms_below (atom x) = atom_nodes x
forms_below (sequence left right) =
    let one = forms_below left in let other = forms_below right in omega (arith, one, other)
forms_below (alternation left right) =
    let one = forms_below left in let other = forms_below right in omega (arith, one, other)
forms_below (intersection left right) =
    let one = forms_below left in let other = forms_below right in omega (arith, one, other)
forms_below (repetition tree) = let inner = forms_below tree in omega (arith, inner)
forms_below (restriction tree ends) = let inner = forms_below tree in omega (arith, inner)
