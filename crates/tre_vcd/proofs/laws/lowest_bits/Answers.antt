use Rattle.tre_vcd.proofs.Plain.{plain-is}
use Rattle.tre_vcd.proofs.laws.lowest_bits.Goals as goal

pub returns : goal.returns
returns c = plain-is
