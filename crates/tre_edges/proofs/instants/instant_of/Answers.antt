use Rattle.tre_edges.proofs.instants.instant_of.Goals as goal

pub returns-then-found : goal.returns-then-found
returns-then-found c = record {
  exact = λ a b n some rising.
      let is = c.instants.ensures.held a b n some in
      ((λ h. record { is = c.if-found.true; instant = is.0 h }), (λ h. is.1 h.instant));
}
