use Rattle.tre_residual.proofs.Growth.{Means-grow}
use Rattle.tre_residual.proofs.laws.growing.Goals as goal

pub returns : goal.returns
returns c = λ residual cut a b n h. (Means-grow cut residual).at a b n h
