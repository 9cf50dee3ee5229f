use Rattle.std.proofs.Common.{length}
use Rattle.std.specs.List.{slice_split}
use Rattle.std.specs.Str.{IsUtf8}
use Rattle.tre_define.specs.Signals.{Spells, name_of_signal}
use Rattle.tre_define.specs.Texts.{is_semicolon}
use Rattle.tre_define.proofs.Defining.{HasDefined}
use Rattle.tre_define.proofs.signals.read_signals.Given as goal

-- the definitions are those of the parts before the rest, which is text
abbrev pub invariant-loop-definitions : goal.invariant-loop-definitions
invariant-loop-definitions l = record {
  has : HasDefined Spells name_of_signal (slice_split is_semicolon l.fn.text) l.definitions.items
      (slice_split is_semicolon l.rest);
  text : IsUtf8 l.rest;
}

abbrev pub decreases-loop-definitions : goal.decreases-loop-definitions
decreases-loop-definitions l = length l.rest
