use Rattle.std.proofs.Common.{Bool, None, Some, sym, ap, ◌∙◌, if◌then◌else◌}
use Rattle.tre_trace.specs.declared.fault.TraceKind.TheVariants.{CutShort}
use Rattle.tre_vcd.proofs.Reading.{end-held}
use Rattle.tre_vcd.proofs.token_reader.TokenReaderPartReader.at_end.Goals as goal

pub returns-then-is_whole-clause-fault : goal.returns-then-is_whole-clause-fault
returns-then-is_whole-clause-fault c = λ state holds.
    sym (end-held c.args.self.now state c.is_whole.result holds c.is_whole.ensures
    ∙ ap (λ (b : Bool). if b then None else Some CutShort) c.if-is_whole.true)

pub returns-clause-fault : goal.returns-clause-fault
returns-clause-fault c = λ state holds.
    sym (end-held c.args.self.now state c.is_whole.result holds c.is_whole.ensures
    ∙ ap (λ (b : Bool). if b then None else Some CutShort) c.if-is_whole.false)
