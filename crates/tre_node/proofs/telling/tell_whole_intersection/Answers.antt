use Rattle.std.proofs.Common.{refl}
use Rattle.tre_node.proofs.telling.tell_whole_intersection.Goals as goal

pub returns : goal.returns
returns c = record {
  made = record { counts = refl; enters = refl };
  found = rw (c.deref.ensures.value, c.deref-2.ensures.value, c.around-one.ensures, c.around-other.ensures) at c.in_ok-meet_anew.ensures;
  told = rw (c.deref-3.ensures.value, c.deref-4.ensures.value, c.around-one.ensures, c.around-other.ensures) at c.in_ok-meet_anew-2.ensures;
  lives = rw (c.around-one.ensures, c.around-other.ensures) at c.lives_in_both-around.ensures;
  busy = rw (c.around-one.ensures, c.around-other.ensures) at c.is_busy_in_one-around.ensures;
}
