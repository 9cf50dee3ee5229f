use Rattle.std.proofs.Common.{sym}
use Rattle.tre_num.proofs.Tables.{ends-quiet}
use Rattle.tre_num.proofs.reader.ColumnsReaderTraceReader.finish.Goals as goal

pub returns-clause-last : goal.returns-clause-last
returns-clause-last c bytes kept = sym (ends-quiet c.args.self.now.table.terms
    c.args.self.now.table.names bytes)
