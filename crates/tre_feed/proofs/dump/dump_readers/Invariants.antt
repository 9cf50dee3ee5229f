use Rattle.std.proofs.Common.{◌≡◌, [], ◌∷◌, take}
use Rattle.tre_vcd.specs.contracts.token_reader.TokenReaderPartReader.TheImpl.{ghosts as token_reader}
use Rattle.tre_vcd.specs.Needs.{definitions_of, needs}
use Rattle.tre_feed.specs.Dump.{dump_terms}
use Rattle.tre_feed.proofs.Grouping.{HaveReaders}
use Rattle.tre_feed.proofs.Parts.{parts_names, parts_represent, parts_terms}
use Rattle.tre_feed.proofs.dump.dump_readers.Given as goal

-- the groups so far have readers
abbrev pub invariant-loop-group : goal.invariant-loop-group
invariant-loop-group l =
    HaveReaders (parts_names token_reader.names)
    (λ reader. (parts_terms token_reader.terms reader
    ≡ dump_terms (needs l.needed.value ∷ []) l.scale l.unit (definitions_of l.needed.value))
    × parts_represent token_reader.terms token_reader.format token_reader.holds reader [])
    (take l.group-index l.groups) l.readers.items
