use Rattle.std.proofs.Common.{◌≡◌, [], take}
use Rattle.tre_feed.proofs.Grouping.{HaveReaders}
use Rattle.tre_num.specs.Needs.{terms_of}
use Rattle.tre_num.specs.contracts.reader.ColumnsReaderTraceReader.TheImpl.{ghosts as columns_reader}
use Rattle.tre_answer.proofs.columns.column_readers.Given as goal

-- the groups so far have readers
abbrev pub invariant-loop-group : goal.invariant-loop-group
invariant-loop-group l = HaveReaders columns_reader.names
    (λ reader. (columns_reader.terms reader ≡ terms_of l.needed.value l.scale)
    × columns_reader.represents reader [])
    (take l.group-index l.groups) l.readers.items
