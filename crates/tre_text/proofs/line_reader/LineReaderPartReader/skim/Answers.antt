use Rattle.tre_parts.proofs.Skimming.{skims-none}
use Rattle.tre_text.proofs.line_reader.LineReaderPartReader.skim.Goals as goal

pub returns-then-bytes-lt16-clause-skims : goal.returns-then-bytes-lt16-clause-skims
returns-then-bytes-lt16-clause-skims c = λ past knows. skims-none _ _ _ past _ _ knows

pub returns-clause-skims : goal.returns-clause-skims
returns-clause-skims c = λ past knows.
    c.skim_lines.ensures.skims c.args.self.now.events past knows
