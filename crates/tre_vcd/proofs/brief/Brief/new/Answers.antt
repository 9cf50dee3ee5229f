use Rattle.tre_vcd.specs.Brief.{first_slot, second_slot}
use Rattle.tre_vcd.proofs.Slots.{tells-none}
use Rattle.tre_vcd.proofs.brief.Brief.new.Goals as goal

pub returns : goal.returns
returns c = record {
  firsts = tells-none first_slot 256;
  seconds = tells-none second_slot 258;
}
