use Rattle.tre_vcd.proofs.Knowing.{keeps-none}
use Rattle.tre_vcd.proofs.variables.Variables.new.Goals as goal

pub returns : goal.returns
returns c = λ names. keeps-none names _ c.new.ensures.items
