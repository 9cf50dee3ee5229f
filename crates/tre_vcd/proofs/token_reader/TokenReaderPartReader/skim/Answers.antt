use Rattle.std.proofs.Common.{sym, ◌∙◌}
use Rattle.tre_parts.proofs.Skimming.{skims-none}
use Rattle.tre_vcd.proofs.Bits.{nothing-open}
use Rattle.tre_vcd.proofs.token_reader.TokenReaderPartReader.skim.Goals as goal

pub returns-then-bytes-lt16-clause-skims : goal.returns-then-bytes-lt16-clause-skims
returns-then-bytes-lt16-clause-skims c = λ state held. skims-none _ _ _ state _ _ held

pub returns-then-not-reads_values-clause-skims : goal.returns-then-not-reads_values-clause-skims
returns-then-not-reads_values-clause-skims c = λ state held. skims-none _ _ _ state _ _ held

pub skim_values-requires-clause-among : goal.skim_values-requires-clause-among
skim_values-requires-clause-among c =
    nothing-open c.args.self.now (sym c.reads_values.ensures ∙ c.if-not-reads_values.false)
