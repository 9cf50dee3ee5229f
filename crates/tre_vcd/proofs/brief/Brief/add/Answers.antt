use Rattle.std.proofs.Common.{arith}
use Rattle.tre_vcd.specs.Brief.{first_slot, second_slot}
use Rattle.tre_vcd.proofs.Slots.{tells-added}
use Rattle.tre_vcd.proofs.brief.Brief.add.Goals as goal

pub returns : goal.returns
returns c = λ identified absent told. record {
  firsts =
      tells-added first_slot identified c.args.self.now.firsts c.args.identifier.now
      c.first_slot.result c.args.number (omega (arith, c.first_slot.ensures.within)) c.requires c.first_slot.ensures.slot absent told.firsts;
  seconds =
      tells-added second_slot identified c.args.self.now.seconds c.args.identifier.now
      c.second_slot.result c.args.number (omega (arith, c.second_slot.ensures.within)) c.requires c.second_slot.ensures.slot absent
      told.seconds;
}
