use Rattle.std.proofs.Common.{◌∙◌, ◌++◌, ap}
use Rattle.tre_residual.specs.Residual.{marked}
use Rattle.tre_residual.proofs.Forms.{Builds-refl}
use Rattle.tre_derive.proofs.Passing.{goes_over}
use Rattle.tre_derive.proofs.going.advance.Goals as goal

pub returns : goal.returns
returns c =
    let after = c.told_by.new.node in
    record {
      more = c.in_ok-found.found;
      adds = c.in_ok-extend_from_slice.ensures.items
          ∙ ap (λ z. c.args.told.now.items ++ z) c.zones.ensures.same;
      goes = goes_over c.args.piece.now c.args.node.now c.args.entering.now c.in_ok-found.found
          after c.requires.root c.requires.enter c.in_ok-found.ensures (marked after)
          (Builds-refl (marked after));
    }
