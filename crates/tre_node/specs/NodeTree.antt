-- Patterns under way, seen as trees.
use Rattle.std.specs.Prelude.{ℕ, ◌*◌, ◌+◌, pos, ◌-ℤ◌, List, [], ◌∷◌, Bool, true, false, map}
use Rattle.tre_pairs.specs.declared.TheConstants.{TIME_MAX}
use Rattle.tre_zone.specs.Bound.{sum_of}
use Rattle.tre_zone.specs.Zone.{instants_of}
use Rattle.tre_zone.specs.declared.zone_bounds.ZoneBounds.{ZoneBounds}
use Rattle.tre_state.specs.State.{tree_of}
use Rattle.tre_syntax.specs.PatternTree.{PatternTree, empty, literal, rise, fall, event, atom, sequence, alternation, intersection, repetition, restriction}
use Rattle.tre_mark.specs.MarkTree.{MarkTree, atom_mark, sequence_mark, alternation_mark, intersection_one, repetition_mark, restriction_one}
use Rattle.tre_node.specs.declared.node.Stretch.{Stretch}
use Rattle.tre_node.specs.declared.node.Around.{Around}
use Rattle.tre_node.specs.declared.node.Node.{Node, Eps, Lit, Rise, Fall, Event, Seq', Alt', Meet', Star', Within'}

-- The pairs of the stretch: they end at the time.
unfoldable pub stretch_zone : ℕ → Stretch → ZoneBounds
stretch_zone time stretch =
    let low = pos 1 -ℤ pos (2 * time) in
    let high = pos (2 * time + 1) in
    record {
      begin_low = stretch.low;
      begin_high = stretch.high;
      end_low = low;
      end_high = high;
      dur_low = sum_of stretch.high low;
      dur_high = sum_of high stretch.low;
    }

abbrev pub begun_at : ℕ → List Stretch → List ZoneBounds
begun_at time stretches = map (stretch_zone time) stretches

-- Behind which pairs an intersection or a restriction began: all moments, where only moments enter.
abbrev pub led_by : Bool → List ZoneBounds → List ZoneBounds
led_by true outer = instants_of 0 TIME_MAX ∷ []
led_by false outer = outer

-- What a node has beside its form.
abbrev pub around_of : Node → Around
around_of (Eps around) = around
around_of (Lit around state begun) = around
around_of (Rise around state) = around
around_of (Fall around state) = around
around_of (Event around number) = around
around_of (Seq' around box left box' right) = around
around_of (Alt' around box left box' right) = around
around_of (Meet' around reach outer most box left box' right) = around
around_of (Star' around box body) = around
around_of (Within' around reach interval outer most box body) = around

-- The expression that a node has in it.
abbrev pub tree_of_node : Node → PatternTree
tree_of_node (Eps around) = atom empty
tree_of_node (Lit around state begun) = atom (literal (tree_of state))
tree_of_node (Rise around state) = atom (rise (tree_of state))
tree_of_node (Fall around state) = atom (fall (tree_of state))
tree_of_node (Event around number) = atom (event number)
tree_of_node (Seq' around box left box' right) = sequence (tree_of_node left) (tree_of_node right)
tree_of_node (Alt' around box left box' right) =
    alternation (tree_of_node left) (tree_of_node right)
tree_of_node (Meet' around reach outer most box left box' right) =
    intersection (tree_of_node left) (tree_of_node right)
tree_of_node (Star' around box body) = repetition (tree_of_node body)
tree_of_node (Within' around reach interval outer most box body) =
    restriction (tree_of_node body) interval

-- What it stands for at the time: nothing is here.
abbrev pub mark_of_node : ℕ → Node → MarkTree
mark_of_node time (Eps around) = atom_mark [] []
mark_of_node time (Lit around state begun) = atom_mark [] (begun_at time begun.items)
mark_of_node time (Rise around state) = atom_mark [] []
mark_of_node time (Fall around state) = atom_mark [] []
mark_of_node time (Event around number) = atom_mark [] []
mark_of_node time (Seq' around box left box' right) =
    sequence_mark (mark_of_node time left) (mark_of_node time right)
mark_of_node time (Alt' around box left box' right) =
    alternation_mark (mark_of_node time left) (mark_of_node time right)
mark_of_node time (Meet' around reach outer most box left box' right) =
    intersection_one 0 (led_by around.whole outer.items) (mark_of_node time left)
    (mark_of_node time right)
mark_of_node time (Star' around box body) = repetition_mark [] (mark_of_node time body)
mark_of_node time (Within' around reach interval outer most box body) =
    restriction_one 0 (led_by around.whole outer.items) (mark_of_node time body)
