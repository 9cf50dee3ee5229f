use Rattle.std.proofs.Common.{length}
use Rattle.std.specs.List.{slice_split}
use Rattle.tre_define.specs.Texts.{is_semicolon}
use Rattle.tre_define.proofs.Defining.{HasDefined}
use Rattle.tre_num.specs.Defined.{name_of_let}
use Rattle.tre_num.specs.Definitions.{Spells}
use Rattle.tre_num.proofs.definitions.read_definitions.Given as goal

-- the definitions are those of the parts before the rest
abbrev pub invariant-loop-definitions : goal.invariant-loop-definitions
invariant-loop-definitions l =
    HasDefined Spells name_of_let (slice_split is_semicolon l.fn.text) l.definitions.items
    (slice_split is_semicolon l.rest)

abbrev pub decreases-loop-definitions : goal.decreases-loop-definitions
decreases-loop-definitions l = length l.rest
