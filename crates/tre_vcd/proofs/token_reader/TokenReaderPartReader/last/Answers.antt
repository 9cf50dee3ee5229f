use Rattle.std.proofs.Common.{rules}
use Rattle.tre_vcd.proofs.token_reader.TokenReaderPartReader.last.Goals as goal

pub returns : goal.returns
returns c = search (rules, c.args.self.now, c.events-2.ensures, c.events.ensures)
