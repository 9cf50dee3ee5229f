use Rattle.std.proofs.Common.{rules}
use Rattle.tre_vcd.proofs.token_reader.TokenReader.segment_until.Goals as goal

pub returns : goal.returns
returns c =
    search (rules, c.args.self.now, c.valuation-val.ensures, c.valuation.ensures, c.events.ensures)
