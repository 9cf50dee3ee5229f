use Rattle.tre_residual.proofs.Crossings.{ends_within}
use Rattle.tre_residual.proofs.laws.bounds.Goals as goal

pub returns : goal.returns
returns c = λ residual rest a b n some well h. ends_within rest residual well.well a b n some h
