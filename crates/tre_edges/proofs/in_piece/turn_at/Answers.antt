use Rattle.std.proofs.Common.{◌&&◌, IsTrue, refl}
use Rattle.tre_edges.proofs.in_piece.turn_at.Goals as goal

pub returns-then-is : goal.returns-then-is
returns-then-is c =
    let found : IsTrue (c.args.other_before && c.args.is) =
    rw (c.if-other_before.true, c.if-is.true) refl in
    record {
      exact = λ a b n some rising.
          let is = c.instants.ensures.held a b n some in
          ((λ h. record { is = found; instant = is.0 h }), (λ h. is.1 h.instant));
    }
