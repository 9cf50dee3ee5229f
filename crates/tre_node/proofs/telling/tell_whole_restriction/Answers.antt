use Rattle.std.proofs.Common.{◌∙◌, ap, refl, sym}
use Rattle.tre_node.specs.declared.node.Around.{Around}
use Rattle.tre_node.proofs.telling.tell_whole_restriction.Goals as goal

pub returns : goal.returns
returns c = record {
  made = record { counts = refl; enters = refl };
  found = rw (c.deref.ensures.value, c.around-inner.ensures) at c.in_ok-restrict_anew.ensures;
  told = rw (c.deref-2.ensures.value, c.around-inner.ensures) at c.in_ok-restrict_anew-2.ensures;
  lives = λ off. ap (λ (a : Around). a.lives) (sym c.around-inner.ensures) ∙ off;
  busy = λ off. ap (λ (a : Around). a.busy) (sym c.around-inner.ensures) ∙ off;
}
