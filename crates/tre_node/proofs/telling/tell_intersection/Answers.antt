use Rattle.std.proofs.Common.{refl}
use Rattle.tre_node.proofs.SetsOf.{followed_set}
use Rattle.tre_node.proofs.telling.tell_intersection.Goals as goal

pub returns : goal.returns
returns c = record {
  made = record { counts = refl; enters = refl };
  found = rw (c.deref.ensures.value, c.deref-2.ensures.value, c.around-one.ensures, c.around-other.ensures) at c.in_ok-meet_anew.ensures;
  told = followed_set c.args.outer.now c.meet_anew-2.new.found.items c.compose_anew.new.found.items _
      (rw c.deref-5.ensures.value at c.in_ok-compose_anew.ensures)
      (rw (c.deref-3.ensures.value, c.deref-4.ensures.value, c.around-one.ensures, c.around-other.ensures) at c.in_ok-meet_anew-2.ensures);
  lives = rw (c.around-one.ensures, c.around-other.ensures) at c.lives_in_both-around.ensures;
  busy = rw (c.around-one.ensures, c.around-other.ensures) at c.is_busy_in_one-around.ensures;
}
