use Rattle.std.proofs.Common.{flat_map, take}
use Rattle.tre_tell.specs.Outputs.{output_told}
use Rattle.tre_tell.specs.Streams.{WroteText}
use Rattle.tre_answer.specs.Findings.{finding_text}
use Rattle.tre_answer.specs.Printing.{finding_of}
use Rattle.tre_answer.proofs.verdicts.put_checks.Given as goal

-- the lines of the checks so far were written
abbrev pub invariant-loop-place : goal.invariant-loop-place
invariant-loop-place g l =
    WroteText (output_told (g.O.Sink.told l.initial.out) (g.O.Sink.told l.out))
    (flat_map (λ checked. finding_text l.scale (finding_of checked)) (take l.place l.checks))
