use Rattle.std.proofs.Common.{rules}
use Rattle.tre_vcd.specs.Sections.{asked_of_reader}
use Rattle.tre_vcd.proofs.Reading.{scalar-says}
use Rattle.tre_vcd.proofs.token_reader.TokenReader.read_scalar.Goals as goal

pub returns-clause-tells : goal.returns-clause-tells
returns-clause-tells c =
    search (rules, asked_of_reader, scalar-says, c.args.letter, c.change_scalar.ensures.tells)
