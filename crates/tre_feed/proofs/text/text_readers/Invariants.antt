use Rattle.std.proofs.Common.{◌≡◌, [], take}
use Rattle.tre_text.specs.contracts.line_reader.LineReaderPartReader.TheImpl.{ghosts as line_reader}
use Rattle.tre_feed.proofs.Grouping.{HaveReaders}
use Rattle.tre_feed.proofs.Parts.{parts_names, parts_represent, parts_terms}
use Rattle.tre_feed.proofs.text.text_readers.Given as goal

-- the groups so far have readers
abbrev pub invariant-loop-group : goal.invariant-loop-group
invariant-loop-group l =
    HaveReaders (parts_names line_reader.names)
    (λ reader. (parts_terms line_reader.terms reader ≡ l.scale)
    × parts_represent line_reader.terms line_reader.format line_reader.holds reader [])
    (take l.group-index l.groups) l.readers.items
