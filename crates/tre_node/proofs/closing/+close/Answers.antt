use Rattle.std.proofs.Common.{refl}
use Rattle.std.proofs.lemmas.Result.{on_ok_weaker}
use Rattle.tre_syntax.specs.PatternTree.{empty, event}
use Rattle.tre_node.proofs.Closings.{alternation_closes, alternation_renamed, body_renamed, closed_by, fall_closes, instant_closes, intersection_closes, intersection_renamed, literal_closes, moment_gives, part_ends, repetition_closes, restriction_closes, restriction_renamed, rise_closes, sequence_closes, sequence_renamed}
use Rattle.tre_node.proofs.closing.+close.Goals as goal

pub close_sequence-returns : goal.close_sequence-returns
close_sequence-returns t c =
    sequence_closes c.args.time c.args.events c.args.around.now c.tell_sequence.new.around
    c.args.left.now c.close.new.node c.args.right.now c.close-2.new.node c.in_ok-close.ensures
    c.in_ok-close-2.ensures c.requires.first.counts c.requires.second.counts _ _
    c.in_ok-tell_sequence.ensures

pub close_alternation-returns : goal.close_alternation-returns
close_alternation-returns t c =
    alternation_closes c.args.time c.args.events c.args.around.now c.tell_alternation.new.around
    c.args.left.now c.close.new.node c.args.right.now c.close-2.new.node c.in_ok-close.ensures
    c.in_ok-close-2.ensures c.requires.first.counts c.requires.second.counts _ _
    c.in_ok-tell_alternation.ensures

pub close_repetition-tell_repetition-requires-clause-between :
    goal.close_repetition-tell_repetition-requires-clause-between
close_repetition-tell_repetition-requires-clause-between t c =
    part_ends c.args.time c.args.events c.in_ok-close.ensures

pub close_repetition-returns : goal.close_repetition-returns
close_repetition-returns t c =
    repetition_closes c.args.time c.args.events c.args.around.now c.tell_repetition.new.around
    c.args.body.now c.close.new.node c.in_ok-close.ensures _ _ c.requires.made.counts
    c.in_ok-tell_repetition.ensures

pub close_restriction-returns : goal.close_restriction-returns
close_restriction-returns t c =
    restriction_closes c.args.time c.args.events c.args.around.now c.tell_restricted.new.around
    c.args.body.now c.close.new.node c.in_ok-close.ensures _ _ c.args.interval.now
    c.args.outer.now c.requires.limit c.requires.made.counts c.in_ok-tell_restricted.ensures

pub close_intersection-returns : goal.close_intersection-returns
close_intersection-returns t c =
    intersection_closes c.args.time c.args.events c.args.around.now c.tell_intersected.new.around
    c.args.left.now c.close.new.node c.args.right.now c.close-2.new.node c.in_ok-close.ensures
    c.in_ok-close-2.ensures c.args.outer.now c.requires.limit c.requires.first.counts
    c.requires.second.counts _ _ c.in_ok-tell_intersected.ensures

pub close-returns-in-Eps : goal.close-returns-in-Eps
close-returns-in-Eps t c =
    on_ok_weaker c.tell_instant.result
    (λ h. closed_by c.in-Eps.is (instant_closes c.args.time c.args.events empty _ _ _
    (moment_gives c.args.time c.args.events c.instants.result c.instants.ensures.held) h))
    c.tell_instant.ensures

pub close-returns-in-Lit : goal.close-returns-in-Lit
close-returns-in-Lit t c =
    on_ok_weaker c.end_begun.result
    (λ h. closed_by c.in-Lit.is (refl, literal_closes c.args.time c.args.events _ _ _ _ _ h))
    c.end_begun.ensures

pub close-returns-in-Rise : goal.close-returns-in-Rise
close-returns-in-Rise t c =
    on_ok_weaker c.tell_instant-in-Rise.result
    (λ h. closed_by c.in-Rise.is (refl, rise_closes c.args.time c.args.events _ _ _ h))
    c.tell_instant-in-Rise.ensures

pub close-returns-in-Fall : goal.close-returns-in-Fall
close-returns-in-Fall t c =
    on_ok_weaker c.tell_instant-in-Fall.result
    (λ h. closed_by c.in-Fall.is (refl, fall_closes c.args.time c.args.events _ _ _ h))
    c.tell_instant-in-Fall.ensures

pub close-returns-in-Event : goal.close-returns-in-Event
close-returns-in-Event t c =
    on_ok_weaker c.tell_instant-in-Event.result
    (λ h. closed_by c.in-Event.is (
      refl,
      instant_closes c.args.time c.args.events (event _) _ _ _
          (λ last. c.event_at.ensures) h,
    )) c.tell_instant-in-Event.ensures

pub close-returns-in-Seq : goal.close-returns-in-Seq
close-returns-in-Seq t c =
    on_ok_weaker c.close_sequence.result
    (λ h. closed_by c.in-Seq.is
    (sequence_renamed c.deref_mut.ensures.value c.deref_mut-in-Seq.ensures.value h))
    c.close_sequence.ensures

pub close-returns-in-Alt : goal.close-returns-in-Alt
close-returns-in-Alt t c =
    on_ok_weaker c.close_alternation.result
    (λ h. closed_by c.in-Alt.is
    (alternation_renamed c.deref_mut-in-Alt.ensures.value c.deref_mut-in-Alt-2.ensures.value h))
    c.close_alternation.ensures

pub close-returns-in-Star : goal.close-returns-in-Star
close-returns-in-Star t c =
    on_ok_weaker c.close_repetition.result
    (λ h. closed_by c.in-Star.is (body_renamed c.deref_mut-in-Star.ensures.value h))
    c.close_repetition.ensures

pub close-returns-in-Within : goal.close-returns-in-Within
close-returns-in-Within t c =
    on_ok_weaker c.close_restriction.result
    (λ h. closed_by c.in-Within.is (
      refl,
      restriction_renamed c.deref-in-Within.ensures.value c.deref_mut-in-Within.ensures.value h,
    ))
    c.close_restriction.ensures

pub close-returns-in-Meet : goal.close-returns-in-Meet
close-returns-in-Meet t c =
    on_ok_weaker c.close_intersection.result
    (λ h. closed_by c.in-Meet.is (intersection_renamed c.deref.ensures.value
    c.deref_mut-in-Meet.ensures.value c.deref_mut-in-Meet-2.ensures.value h))
    c.close_intersection.ensures
