use Rattle.std.proofs.Common.{◌≡◌, map, take}
use Rattle.tre_syntax.specs.Pattern.{names_of}
use Rattle.tre_vcd.specs.Needs.{definitions_of, needs}
use Rattle.tre_feed.specs.Dump.{NeedsAll}
use Rattle.tre_feed.proofs.dump.need_all.Given as goal

-- the names of the patterns so far are needed, by the definitions
abbrev pub invariant-loop-pattern : goal.invariant-loop-pattern
invariant-loop-pattern l = record {
  needs : NeedsAll (needs l.needed) (map names_of (take l.pattern-index l.patterns));
  defined : definitions_of l.needed ≡ l.definitions;
}
