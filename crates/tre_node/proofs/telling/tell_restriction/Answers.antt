use Rattle.std.proofs.Common.{◌∙◌, ap, refl, sym}
use Rattle.tre_node.specs.declared.node.Around.{Around}
use Rattle.tre_node.proofs.SetsOf.{followed_set}
use Rattle.tre_node.proofs.telling.tell_restriction.Goals as goal

pub returns : goal.returns
returns c = record {
  made = record { counts = refl; enters = refl };
  found = rw (c.deref.ensures.value, c.around-inner.ensures) at c.in_ok-restrict_anew.ensures;
  told = followed_set c.args.outer.now c.restrict_anew-2.new.found.items c.compose_anew.new.found.items _
      (rw c.deref-3.ensures.value at c.in_ok-compose_anew.ensures)
      (rw (c.deref-2.ensures.value, c.around-inner.ensures) at c.in_ok-restrict_anew-2.ensures);
  lives = λ off. ap (λ (a : Around). a.lives) (sym c.around-inner.ensures) ∙ off;
  busy = λ off. ap (λ (a : Around). a.busy) (sym c.around-inner.ensures) ∙ off;
}
