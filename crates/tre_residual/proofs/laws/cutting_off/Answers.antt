use Rattle.tre_residual.proofs.Growth.{Means-early}
use Rattle.tre_residual.proofs.laws.cutting_off.Goals as goal

pub returns : goal.returns
returns c = λ residual cut a b n before h. (Means-early cut residual).at a b n before h
