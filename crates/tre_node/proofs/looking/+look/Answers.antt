use Rattle.std.proofs.Common.{refl}
use Rattle.std.proofs.lemmas.Result.{on_ok_weaker}
use Rattle.tre_node.proofs.Looks.{alternation_looks, alternation_named, empty_looked, event_looked, fall_looked, node_by, part_between, repetition_looks, repetition_named, rise_looked, sequence_looks, sequence_named}
use Rattle.tre_node.proofs.InstancesTold.{intersection_looks, restriction_looks}
use Rattle.tre_node.proofs.NodesLook.{intersection_named, looked_by, restriction_named}
use Rattle.tre_node.proofs.Shortened.{part_limit, shortened_tells}
use Rattle.tre_node.proofs.looking.+look.Goals as goal

pub look_sequence-returns : goal.look_sequence-returns
look_sequence-returns t c =
    sequence_looks c.args.piece.now c.args.around.now c.tell_sequence.new.around c.args.left.now
    c.look.new.node c.args.right.now c.look-2.new.node c.in_ok-look.ensures c.in_ok-look-2.ensures
    c.requires.first.counts c.requires.second.counts c.in_ok-tell_sequence.ensures

pub look_alternation-returns : goal.look_alternation-returns
look_alternation-returns t c =
    alternation_looks c.args.piece.now c.args.around.now c.tell_alternation.new.around
    c.args.left.now c.look.new.node c.args.right.now c.look-2.new.node c.in_ok-look.ensures
    c.in_ok-look-2.ensures c.requires.first.counts c.requires.second.counts
    c.in_ok-tell_alternation.ensures

pub look_repetition-tell_repetition-requires-clause-between :
    goal.look_repetition-tell_repetition-requires-clause-between
look_repetition-tell_repetition-requires-clause-between t c = part_between c.in_ok-look.ensures

pub look_repetition-returns : goal.look_repetition-returns
look_repetition-returns t c =
    let l = repetition_looks c.args.piece.now c.args.around.now c.tell_repetition.new.around
    c.args.body.now c.look.new.node c.in_ok-look.ensures c.requires.made.counts
    c.in_ok-tell_repetition.ensures in
    record {
      made = record { counts = l.made.counts; enters = l.made.enters };
      tells = shortened_tells l.tells c.in_ok-shorten.ensures;
      idle = l.idle;
      inner = l.inner;
    }

pub look_repetition-shorten-requires : goal.look_repetition-shorten-requires
look_repetition-shorten-requires t c =
    part_limit c.args.piece.now.begin c.args.body.now c.requires.body c.requires.made
    c.in_ok-tell_repetition.ensures.made.counts

pub look-returns-in-Seq : goal.look-returns-in-Seq
look-returns-in-Seq t c =
    on_ok_weaker c.look_sequence.result
    (λ h. looked_by c.in-Seq.is c.requires
    (sequence_named c.deref_mut.ensures.value c.deref_mut-in-Seq.ensures.value h))
    c.look_sequence.ensures

pub look-returns-in-Alt : goal.look-returns-in-Alt
look-returns-in-Alt t c =
    on_ok_weaker c.look_alternation.result
    (λ h. looked_by c.in-Alt.is c.requires
    (alternation_named c.deref_mut-in-Alt.ensures.value c.deref_mut-in-Alt-2.ensures.value h))
    c.look_alternation.ensures

pub look-returns-in-Star : goal.look-returns-in-Star
look-returns-in-Star t c =
    on_ok_weaker c.look_repetition.result
    (λ h. looked_by c.in-Star.is c.requires
    (repetition_named c.deref_mut-in-Star.ensures.value h))
    c.look_repetition.ensures

pub look-returns-in-Lit : goal.look-returns-in-Lit
look-returns-in-Lit t c =
    on_ok_weaker c.look_literal.result
    (λ h. looked_by c.in-Lit.is c.requires (refl, h)) c.look_literal.ensures

pub look-returns-in-Eps : goal.look-returns-in-Eps
look-returns-in-Eps t c =
    on_ok_weaker c.tell_instant.result
    (λ h. node_by c.in-Eps.is (λ n. empty_looked c.args.piece.now _ _ _ h n c.moments_in.ensures)
    c.requires) c.tell_instant.ensures

pub look-returns-in-Rise : goal.look-returns-in-Rise
look-returns-in-Rise t c =
    on_ok_weaker c.tell_instant-in-Rise.result
    (λ h. node_by c.in-Rise.is (λ n. rise_looked c.args.piece.now _ _ _ h _ n c.rise_in.ensures)
    c.requires) c.tell_instant-in-Rise.ensures

pub look-returns-in-Fall : goal.look-returns-in-Fall
look-returns-in-Fall t c =
    on_ok_weaker c.tell_instant-in-Fall.result
    (λ h. node_by c.in-Fall.is (λ n. fall_looked c.args.piece.now _ _ _ h _ n c.fall_in.ensures)
    c.requires) c.tell_instant-in-Fall.ensures

pub look-returns-in-Event : goal.look-returns-in-Event
look-returns-in-Event t c =
    on_ok_weaker c.tell_instant-in-Event.result
    (λ h. node_by c.in-Event.is (λ n. event_looked c.args.piece.now _ _ _ h _ n c.event_in.ensures)
    c.requires) c.tell_instant-in-Event.ensures

pub look_restriction-returns : goal.look_restriction-returns
look_restriction-returns t c =
    let l = restriction_looks c.args.piece.now c.args.reach c.args.interval.now c.args.around.now
    c.tell_restricted.new.around c.args.outer.now.items c.args.body.now c.look.new.node
    c.in_ok-look.ensures c.requires.made c.requires.reach
    (rw c.deref.ensures.value at c.in_ok-tell_restricted.ensures) in
    record {
      looks = record {
        made = record { counts = l.made.counts; enters = l.made.enters };
        tells = l.tells;
        idle = l.idle;
        inner = l.inner;
      };
      kept = c.keep_in_reach.ensures;
    }

pub look_intersection-returns : goal.look_intersection-returns
look_intersection-returns t c =
    let l = intersection_looks c.args.piece.now c.args.reach c.args.around.now
    c.tell_intersected.new.around c.args.outer.now.items c.args.left.now c.look.new.node
    c.args.right.now c.look-2.new.node c.in_ok-look.ensures c.in_ok-look-2.ensures
    c.requires.first c.requires.second c.requires.reach
    (rw c.deref.ensures.value at c.in_ok-tell_intersected.ensures) in
    record {
      looks = record {
        made = record { counts = l.made.counts; enters = l.made.enters };
        tells = l.tells;
        idle = l.idle;
        one = l.one;
        other = l.other;
      };
      kept = c.keep_in_reach.ensures;
    }

pub look-returns-in-Within : goal.look-returns-in-Within
look-returns-in-Within t c =
    on_ok_weaker c.look_restriction.result
    (λ h. looked_by c.in-Within.is c.requires
    (refl, refl, restriction_named c.deref_mut-in-Within.ensures.value h))
    c.look_restriction.ensures

pub look-returns-in-Meet : goal.look-returns-in-Meet
look-returns-in-Meet t c =
    on_ok_weaker c.look_intersection.result
    (λ h. looked_by c.in-Meet.is c.requires
    (refl, intersection_named c.deref_mut-in-Meet.ensures.value c.deref_mut-in-Meet-2.ensures.value h))
    c.look_intersection.ensures
