-- Literals from their edges on, or up to them.
use Rattle.std.specs.Prelude.{Bool, true, false, Option, Some, None, if◌then◌else◌}
use Rattle.tre_edges.specs.declared.run_edges.RunEdges.{RunEdges}
use Rattle.tre_state.specs.StateTree.{StateTree}
use Rattle.tre_syntax.specs.PatternTree.{PatternTree, atom, literal, rise, fall, sequence, restriction}
use Rattle.tre_zone.specs.Interval.{IntervalEnds}

-- The literal of the state, from its rise on if `risen` says so.
abbrev pub risen_tree : Bool → StateTree → PatternTree
risen_tree true state = sequence (atom (rise state)) (atom (literal state))
risen_tree false state = atom (literal state)

-- The literal of the state, with these edges.
abbrev pub edged_tree : RunEdges → StateTree → PatternTree
edged_tree edges state =
    if edges.fall then sequence (risen_tree edges.rise state) (atom (fall state))
    else risen_tree edges.rise state

-- The expression, restricted to the interval, if there is one.
abbrev pub timed_tree : Option IntervalEnds → PatternTree → PatternTree
timed_tree None tree = tree
timed_tree (Some ends) tree = restriction tree ends
