-- The form is the node's, and its parts are those of the node.
use Rattle.std.proofs.Common.{List, subst, sym}
use Rattle.std.proofs.lemmas.Result.{IfOk-weaker}
use Rattle.tre_zone.specs.ZoneList.{HoldExactly}
use Rattle.tre_zone.specs.declared.zone_bounds.ZoneBounds.{ZoneBounds}
use Rattle.tre_state.specs.declared.names.TheConstants.{NAMES_MAX}
use Rattle.tre_syntax.specs.PatternTree.{NumbersBelow}
use Rattle.tre_node.specs.IsNode.{IsNode}
use Rattle.tre_node.specs.NodeTree.{begun_at, tree_of_node}
use Rattle.tre_node.specs.declared.node.Node.{Node}
use Rattle.tre_zone.specs.ZoneList.{SetHolds}
use Rattle.tre_derive.specs.Closing.{HeldAtEnd, LedTo}
use Rattle.tre_derive.proofs.EndingNodes.{node_numbers, close_eps, close_rise, close_fall, close_event, close_literal, close_sequence, close_alternation, close_repetition, close_restriction, close_intersection, close_named}
use Rattle.tre_derive.proofs.ending.+close_node.Goals as goal

pub held_before-first-requires : goal.held_before-first-requires
held_before-first-requires t c =
    let n = subst (λ (z : Node). IsNode c.args.time z) c.in-Seq.is c.requires.node in
    subst (λ (z : Node). NumbersBelow NAMES_MAX (tree_of_node z)) (sym c.deref-in-Seq-2.ensures)
    (node_numbers c.args.time c.in-Seq.right.value n.3)

pub returns-in-Eps : goal.returns-in-Eps
returns-in-Eps t c =
    close_named c.args.time c.args.events _ _ _ (sym c.in-Eps.is)
    (close_eps c.args.time c.args.events _ c.new.result c.new.ensures)

pub returns-in-Lit : goal.returns-in-Lit
returns-in-Lit t c =
    let time = c.args.time in
    let events = c.args.events in
    IfOk-weaker c.begun_until.result _ _
    (λ told held.
    close_named time events _ _ told (sym c.in-Lit.is)
    (close_literal time events _ told
    (subst (λ z. HoldExactly told (SetHolds (begun_at time z))) c.deref.ensures.value held)))
    c.begun_until.ensures

pub returns-in-Rise : goal.returns-in-Rise
returns-in-Rise t c =
    close_named c.args.time c.args.events _ _ _ (sym c.in-Rise.is)
    (close_rise c.args.time c.args.events _ _ c.new-in-Rise.result c.new-in-Rise.ensures)

pub returns-in-Fall : goal.returns-in-Fall
returns-in-Fall t c =
    close_named c.args.time c.args.events _ _ _ (sym c.in-Fall.is)
    (close_fall c.args.time c.args.events _ _ c.new-in-Fall.result c.new-in-Fall.ensures)

pub returns-in-Event : goal.returns-in-Event
returns-in-Event t c =
    close_named c.args.time c.args.events _ _ _ (sym c.in-Event.is)
    (close_event c.args.time c.args.events _ _ c.new-in-Event.result c.new-in-Event.ensures)

pub returns-in_ok-second-in-Seq : goal.returns-in_ok-second-in-Seq
returns-in_ok-second-in-Seq t c =
    let time = c.args.time in
    let events = c.args.events in
    let left = c.in-Seq.left.value in
    let right = c.in-Seq.right.value in
    let first = c.in_ok-first-in-Seq.first in
    let second = c.in_ok-second-in-Seq.second in
    let kept = c.held_before-first.result in
    IfOk-weaker c.of_either.result _ _
    (λ told held.
    close_named time events _ _ told (sym c.in-Seq.is)
    (close_sequence time events left right first second told
    (close_named time events c.deref-in-Seq.result.now left first c.deref-in-Seq.ensures
    c.in_ok-first-in-Seq.ensures)
    (close_named time events c.deref-in-Seq-3.result.now right second c.deref-in-Seq-3.ensures
    c.in_ok-second-in-Seq.ensures)
    _ _ _ kept
    (subst (λ (z : Node). HoldExactly kept (HeldAtEnd first events (tree_of_node z)))
    c.deref-in-Seq-2.ensures c.held_before-first.ensures)
    held))
    c.of_either.ensures

pub returns-in_ok-other-in-Alt : goal.returns-in_ok-other-in-Alt
returns-in_ok-other-in-Alt t c =
    let time = c.args.time in
    let events = c.args.events in
    let left = c.in-Alt.left.value in
    let right = c.in-Alt.right.value in
    let one = c.in_ok-one-in-Alt.one in
    let other = c.in_ok-other-in-Alt.other in
    IfOk-weaker c.of_either-in-Alt.result _ _
    (λ told held.
    close_named time events _ _ told (sym c.in-Alt.is)
    (close_alternation time events left right one other told
    (close_named time events c.deref-in-Alt.result.now left one c.deref-in-Alt.ensures
    c.in_ok-one-in-Alt.ensures)
    (close_named time events c.deref-in-Alt-2.result.now right other c.deref-in-Alt-2.ensures
    c.in_ok-other-in-Alt.ensures)
    _ _ _ held))
    c.of_either-in-Alt.ensures

pub returns-in-Star : goal.returns-in-Star
returns-in-Star t c =
    let time = c.args.time in
    let events = c.args.events in
    let body = c.in-Star.body.value in
    IfOk-weaker c.close_node-in-Star.result _ _
    (λ told closes.
    close_named time events _ _ told (sym c.in-Star.is)
    (close_repetition time events _ _ body told
    (close_named time events c.deref-in-Star.result.now body told c.deref-in-Star.ensures closes)))
    c.close_node-in-Star.ensures

pub returns-in_ok-inner-in-Within-2 : goal.returns-in_ok-inner-in-Within-2
returns-in_ok-inner-in-Within-2 t c =
    let time = c.args.time in
    let events = c.args.events in
    let body = c.in-Within.body.value in
    let told_body = c.in_ok-inner-in-Within.inner in
    let inner = c.in_ok-inner-in-Within-2.inner in
    IfOk-weaker c.led_to.result _ _
    (λ told led.
    close_named time events _ _ told (sym c.in-Within.is)
    (close_restriction time events c.requires.limit _ told (record {
      told_body = told_body;
      inner = inner;
      closes = close_named time events c.deref-in-Within.result.now body told_body
          c.deref-in-Within.ensures c.in_ok-inner-in-Within.ensures;
      held = c.in_ok-inner-in-Within-2.ensures;
      led = subst (λ (z : List ZoneBounds). LedTo c.in-Within.around.whole z inner told)
          c.deref-in-Within-2.ensures.value led;
    })))
    c.led_to.ensures

pub returns-in_ok-inner-in-Meet : goal.returns-in_ok-inner-in-Meet
returns-in_ok-inner-in-Meet t c =
    let time = c.args.time in
    let events = c.args.events in
    let left = c.in-Meet.left.value in
    let right = c.in-Meet.right.value in
    let one = c.in_ok-one-in-Meet.one in
    let other = c.in_ok-other-in-Meet.other in
    let inner = c.in_ok-inner-in-Meet.inner in
    IfOk-weaker c.led_to-in-Meet.result _ _
    (λ told led.
    close_named time events _ _ told (sym c.in-Meet.is)
    (close_intersection time events c.requires.limit _ told (record {
      told_left = one;
      told_right = other;
      inner = inner;
      first = close_named time events c.deref-in-Meet.result.now left one c.deref-in-Meet.ensures
          c.in_ok-one-in-Meet.ensures;
      second = close_named time events c.deref-in-Meet-2.result.now right other
          c.deref-in-Meet-2.ensures c.in_ok-other-in-Meet.ensures;
      held = c.in_ok-inner-in-Meet.ensures;
      led = subst (λ (z : List ZoneBounds). LedTo c.in-Meet.around.whole z inner told)
          c.deref-in-Meet-3.ensures.value led;
    })))
    c.led_to-in-Meet.ensures
