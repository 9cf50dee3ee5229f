use Rattle.tre_residual.specs.Residual.{here}
use Rattle.tre_residual.proofs.Forms.{dropped, nothing_here, Builds-refl}
use Rattle.tre_residual.proofs.residual.Residual.here.Goals as goal

pub returns-then-is_empty : goal.returns-then-is_empty
returns-then-is_empty c =
    dropped c.args.zones (λ list. here list) (here c.args.zones) nothing_here
    (c.is_empty.ensures.0 c.if-is_empty.true) (Builds-refl (here c.args.zones))

pub returns : goal.returns
returns c = Builds-refl (here c.args.zones)
