use Rattle.std.proofs.Common.{◌≡◌, map, take}
use Rattle.tre_num.specs.Needs.{declared_of, definitions_of}
use Rattle.tre_syntax.specs.Pattern.{names_of}
use Rattle.tre_answer.proofs.columns.need_all.Given as goal

-- the patterns so far read
abbrev pub invariant-loop-pattern : goal.invariant-loop-pattern
invariant-loop-pattern l = record {
  declared : declared_of l.needed ≡ map names_of (take l.pattern-index l.patterns);
  definitions : definitions_of l.needed ≡ definitions_of l.fn.needed;
}
