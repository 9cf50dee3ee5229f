use Rattle.std.proofs.Common.{◌∙◌, ap, refl, sym}
use Rattle.tre_node.specs.declared.node.Around.{Around}
use Rattle.tre_node.proofs.telling.tell_repetition.Goals as goal

pub chain_anew-requires-clause-between : goal.chain_anew-requires-clause-between
chain_anew-requires-clause-between c =
    rw (c.deref.ensures.value, c.around-inner.ensures) c.requires.between

pub returns : goal.returns
returns c = record {
  made = record { counts = refl; enters = refl };
  found = rw (c.deref.ensures.value, c.around-inner.ensures) at c.in_ok-chain_anew.ensures;
  told = rw (c.deref-2.ensures.value, c.deref-3.ensures.value, c.around-inner.ensures) at c.in_ok-compose_anew.ensures;
  lives = λ off. ap (λ (a : Around). a.lives) (sym c.around-inner.ensures) ∙ off;
  busy = λ off. ap (λ (a : Around). a.busy) (sym c.around-inner.ensures) ∙ off;
}
